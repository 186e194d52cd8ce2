-- `phrases::annex`.
use Rattle.steps.specs.Lifted.{lift}
use Rattle.phrases.specs.Laws.{annex_then}
use Rattle.phrases.proofs.annex.Goals as goal

pub returns : goal.returns
returns c =
    let a = c.args in
    rw (c.symbol-3.ensures, c.symbol-2.ensures, c.name-named.ensures, c.symbol.ensures)
    (annex_then (lift a.text.now a.went))
