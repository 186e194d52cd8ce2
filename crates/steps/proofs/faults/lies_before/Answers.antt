-- `steps::faults::lies_before`: the places first, then the numbers.
use Rattle.common.specs.Tests.{tests}
use Rattle.steps.specs.Faults.{before}
use Rattle.steps.proofs.faults.lies_before.Goals as goal

pub returns-then-b-a : goal.returns-then-b-a
unfolding before
returns-then-b-a c = search tests

pub returns-then-b-a-2 : goal.returns-then-b-a-2
unfolding before
returns-then-b-a-2 c = search tests

pub returns-else-b-a-2 : goal.returns-else-b-a-2
unfolding before
returns-else-b-a-2 c = search tests
