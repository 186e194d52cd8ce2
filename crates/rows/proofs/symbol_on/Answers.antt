-- `rows::symbol_on`.
use Rattle.steps.specs.Steps.{the}
use Rattle.rows.specs.States.{state_of}
use Rattle.rows.specs.Laws.{does_quiet}
use Rattle.rows.proofs.symbol_on.Goals as goal

pub returns : goal.returns
returns c = let a = c.args in λ m. rw (c.on.ensures, c.symbol.ensures)
    (does_quiet (state_of a.text.now a.reading m) (the a.kind))
