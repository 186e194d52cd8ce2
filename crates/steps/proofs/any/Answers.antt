-- `steps::any`.
use Rattle.words.specs.Kinds.{ENDED}
use Rattle.words.specs.Same.{kind_eq, kind_is, kind_apart}
use Rattle.steps.specs.Spotted.{any_end, any_on}
use Rattle.steps.proofs.any.Goals as goal

pub returns-then-eq : goal.returns-then-eq
returns-then-eq c =
    rw c.in_ok-at.was (any_end _ _ c.spot_at-spot.result c.spot_at-spot.ensures (kind_is _ ENDED (kind_eq _ ENDED c.if-eq.ensures)))

pub returns : goal.returns
returns c =
    rw c.in_ok-at.was (any_on _ _ c.spot_at-spot.result c.spot_at-spot.ensures (kind_apart _ ENDED (kind_eq _ ENDED c.if-eq.ensures)))
