-- `phrases::nothing`.
use Rattle.steps.specs.Lifted.{lift}
use Rattle.phrases.specs.Laws.{nothing_then}
use Rattle.phrases.proofs.nothing.Goals as goal

pub returns : goal.returns
returns c =
    let a = c.args in
    rw (c.symbol-2.ensures, c.symbol.ensures) (nothing_then (lift a.text.now a.went))
