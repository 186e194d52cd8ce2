-- `others::path_end`.
use Rattle.steps.specs.Lifted.{lift}
use Rattle.others.specs.Laws.{path_end_then}
use Rattle.others.proofs.path_end.Goals as goal

pub returns : goal.returns
returns c =
    let a = c.args in
    rw (c.symbol-2.ensures, c.path.ensures, c.symbol.ensures) (path_end_then (lift a.text.now a.went))
