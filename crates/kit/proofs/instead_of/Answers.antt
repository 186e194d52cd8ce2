-- `kit::instead_of`.
use Rattle.common.specs.Words.{rules}
use Rattle.common.specs.Tests.{tests}
use Rattle.kit.proofs.instead_of.Goals as goal

pub returns-then-c-eq-DEADLINE_COLUMN : goal.returns-then-c-eq-DEADLINE_COLUMN
returns-then-c-eq-DEADLINE_COLUMN c = (search tests, search rules)

pub returns-else-c-eq-DEADLINE_COLUMN : goal.returns-else-c-eq-DEADLINE_COLUMN
returns-else-c-eq-DEADLINE_COLUMN c = (search tests, search rules)
