-- `steps::second`.
use Rattle.words.specs.Kinds.{ENDED}
use Rattle.words.specs.Same.{kind_eq}
use Rattle.tokens.specs.Spots.{behind}
use Rattle.steps.proofs.second.Goals as goal

pub returns-then-eq : goal.returns-then-eq
unfolding behind
returns-then-eq c = rw (c.in-Ok.is, c.spot_at-first.ensures.tokens, kind_eq c.spot_at-first.result.kind ENDED c.if-eq.ensures)

pub returns : goal.returns
unfolding behind
returns c =
    rw (c.in-Ok.is, c.spot_at-first.ensures.tokens, kind_eq c.spot_at-first.result.kind ENDED c.if-eq.ensures, c.spot_at.ensures.tokens)
