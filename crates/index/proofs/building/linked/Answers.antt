-- `index::linked`.
use Rattle.common.specs.Tests.{tests}
use Rattle.index.proofs.building.linked.Goals as goal

pub returns-then-held-eq0 : goal.returns-then-held-eq0
returns-then-held-eq0 c = search tests

pub returns-else-held-eq0 : goal.returns-else-held-eq0
returns-else-held-eq0 c = search tests
