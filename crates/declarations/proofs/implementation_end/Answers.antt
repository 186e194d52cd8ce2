-- `declarations::implementation_end`.
use Rattle.tokens.specs.Tokens.{from}
use Rattle.steps.specs.Steps.{head}
use Rattle.steps.specs.Lifted.{lift}
use Rattle.declarations.specs.Laws.{implementation_end_then}
use Rattle.declarations.proofs.implementation_end.Goals as goal

pub returns : goal.returns
returns c =
    let a = c.args in
    rw (c.symbol-2.ensures, c.own-2.ensures, c.symbol-typed.ensures, c.own.ensures, c.symbol.ensures)
    (implementation_end_then (head (from a.text.now a.first)) (head (from a.text.now a.second)) (lift a.text.now a.went))
