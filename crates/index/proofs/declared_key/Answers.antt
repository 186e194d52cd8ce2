-- `index::declared_key`: by what the row is.
use Rattle.common.specs.Tests.{tests}
use Rattle.index.specs.Index.{declared_key}
use Rattle.index.proofs.declared_key.Goals as goal

pub returns-then-sort : goal.returns-then-sort
unfolding declared_key
returns-then-sort c = search tests

pub returns : goal.returns
unfolding declared_key
returns c = search (tests, c.own_name.ensures)
