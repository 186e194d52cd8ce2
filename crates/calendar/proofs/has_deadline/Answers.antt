-- `calendar::has_deadline`: the definition's two tests.
use Rattle.common.specs.Words.{rules}
use Rattle.common.specs.Tests.{tests}
use Rattle.model.specs.Model.{has_deadline}
use Rattle.calendar.proofs.has_deadline.Goals as goal

pub nonzero_rem-result : goal.nonzero_rem-result
unfolding has_deadline
nonzero_rem-result c = search rules

pub returns-then-deadline-at : goal.returns-then-deadline-at
unfolding has_deadline
returns-then-deadline-at c = search tests

pub returns-else-deadline-at : goal.returns-else-deadline-at
unfolding has_deadline
returns-else-deadline-at c = search tests
