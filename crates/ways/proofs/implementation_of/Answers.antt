-- `ways::implementation_of`: where the thread names one.
use Rattle.common.specs.Tests.{tests}
use Rattle.ways.specs.Ways.{implementation_of}
use Rattle.ways.proofs.implementation_of.Goals as goal

pub returns-then-own-eq0-clause-is : goal.returns-then-own-eq0-clause-is
unfolding implementation_of
returns-then-own-eq0-clause-is c = rw (← c.cell-own.ensures) (search tests)

pub returns-clause-is : goal.returns-clause-is
unfolding implementation_of
returns-clause-is c = rw (c.find.ensures.is, c.cell.ensures, ← c.cell-own.ensures) (search tests)
