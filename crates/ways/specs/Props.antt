-- What is known of the types above rows has one proof at most, so that a struct can hold it.
use Rattle.std.proofs.Props.{props}
use Rattle.common.specs.Words.{ℕ, List}
use Rattle.index.specs.Props.{indexed_prop}
use Rattle.ways.specs.Ways.{Bounded, Known}

pub bounded_prop : {types : List ℕ} {count : ℕ} → IsProp (Bounded types count)
bounded_prop = Prim.hlevel props

pub known_prop : {p rows declared types : List ℕ} {count : ℕ} → IsProp (Known p rows declared types count)
known_prop = Prim.hlevel (props, indexed_prop)
