-- `index::own_name`.
use Rattle.common.specs.Tests.{tests}
use Rattle.index.proofs.own_name.Goals as goal

pub returns-then-sort : goal.returns-then-sort
returns-then-sort c = search tests

pub returns-else-sort : goal.returns-else-sort
returns-else-sort c = search tests
