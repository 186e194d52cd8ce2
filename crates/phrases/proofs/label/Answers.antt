-- `phrases::label`.
use Rattle.steps.specs.Lifted.{lift}
use Rattle.phrases.specs.Laws.{label_then}
use Rattle.phrases.proofs.label.Goals as goal

pub returns : goal.returns
returns c = let a = c.args in rw (c.symbol.ensures, c.name.ensures) (label_then (lift a.text.now a.went))
