-- `Names::own_or_given`.
use Rattle.ways.specs.Options.{given_said}
use Rattle.ways.proofs.names.Names.own_or_given.Goals as goal

pub returns-in-Some : goal.returns-in-Some
returns-in-Some c = rw (given_said, ← c.in-Some.ensures)

pub returns-in_err-implementation : goal.returns-in_err-implementation
returns-in_err-implementation c =
    rw (c.from_residual.ensures, given_said, ← c.in_default.ensures, ← c.in_err-implementation.ensures.is)

pub returns : goal.returns
returns c = rw (c.value-2.ensures, given_said, ← c.in_default.ensures, ← c.in_ok-implementation.ensures.is)
