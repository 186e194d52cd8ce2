-- `keys::hash_of`: each part in its turn.
use Rattle.keys.specs.Keys.{meant, lanes_of, hash_of}
use Rattle.keys.proofs.hash_of.Goals as goal

pub returns : goal.returns
unfolding meant lanes_of hash_of
returns c =
    let k = c in
    let n = k in
    rw (
      k.stir_name-all.ensures.0,
      k.stir_name-two.ensures.0,
      n.stir_name-one.ensures.0,
      n.stir-numbers.ensures.0,
      n.stir.ensures.0,
    )
