-- A dictionary's facts have one proof at most, so that a struct can hold them.
use Rattle.std.proofs.Props.{props}
use Rattle.common.specs.Words.{ℕ, List}
use Rattle.keys.specs.Keys.{Meaning}
use Rattle.index.specs.Trees.{Sound}
use Rattle.index.specs.Index.{Indexed}

pub sound_prop : {t : List ℕ} {keys : List Meaning} → IsProp (Sound t keys)
sound_prop = Prim.hlevel props

pub indexed_prop : {p : List ℕ} {role : ℕ} {rows tree : List ℕ} {count : ℕ} → IsProp (Indexed p role rows tree count)
indexed_prop = Prim.hlevel (props, sound_prop)
