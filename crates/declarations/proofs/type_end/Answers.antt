-- `declarations::type_end`.
use Rattle.tokens.specs.Tokens.{from}
use Rattle.steps.specs.Steps.{head}
use Rattle.steps.specs.Lifted.{lift}
use Rattle.declarations.specs.Laws.{type_end_then}
use Rattle.declarations.proofs.type_end.Goals as goal

pub returns : goal.returns
returns c =
    let a = c.args in
    rw (c.symbol-2.ensures, c.own.ensures, c.symbol.ensures)
    (type_end_then (head (from a.text.now a.named)) (lift a.text.now a.went))
