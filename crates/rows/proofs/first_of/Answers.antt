-- `rows::first_of`.
use Rattle.common.specs.Tests.{tests}
use Rattle.rows.proofs.first_of.Goals as goal

pub returns-then-a-eq0 : goal.returns-then-a-eq0
returns-then-a-eq0 c = search tests

pub returns-else-a-eq0 : goal.returns-else-a-eq0
returns-else-a-eq0 c = search tests
