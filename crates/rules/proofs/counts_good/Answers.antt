-- `rules::counts_good`: the definition's two tests.
use Rattle.common.specs.Tests.{tests}
use Rattle.plan.specs.Rules.{one_to, counts_good}
use Rattle.rules.proofs.counts_good.Goals as goal

pub returns-then-contains : goal.returns-then-contains
unfolding one_to counts_good
returns-then-contains c = search tests

pub returns-else-contains : goal.returns-else-contains
unfolding one_to counts_good
returns-else-contains c = search tests
