-- `keys::same_name`: what is left of the two names decides.
use Rattle.std.specs.Prelude.{◌≡◌, ◌-◌}
use Rattle.common.specs.Words.{length}
use Rattle.words.specs.Letters.{same}
use Rattle.keys.specs.Keys.{spelled}
use Rattle.keys.proofs.same_name.Given as goal

abbrev pub invariant-loop-i : goal.invariant-loop-i
invariant-loop-i l = same (spelled l.text l.i) (spelled l.text l.j) ≡ same (spelled l.text l.a) (spelled l.text l.b)

abbrev pub decreases-loop-i : goal.decreases-loop-i
decreases-loop-i l = length l.text - l.i
