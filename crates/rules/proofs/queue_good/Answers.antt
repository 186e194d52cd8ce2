-- `rules::queue_good`: the definition's three tests.
use Rattle.common.specs.Tests.{tests, clash}
use Rattle.plan.specs.Rules.{queue_good}
use Rattle.rules.proofs.Found.{some_row}
use Rattle.rules.proofs.queue_good.Goals as goal
use Rattle.rules.proofs.queue_good.Goals.{then-receiver-tasks, else-receiver-tasks}

pub returns-then-only_tasks_send : goal.returns-then-only_tasks_send
unfolding queue_good
returns-then-only_tasks_send c =
    let s = some_row c.args.row.now 16 c.told-row _ c.contains.ensures.cases in
    elim c.if-receiver-tasks.branch [
      | then-receiver-tasks w ↦ search (tests, w.value-is, w.only_tasks_send.ensures, w.if-receiver-tasks.true, c.if-only_tasks_send.true, s)
      | else-receiver-tasks w ↦ absurd (clash c.if-only_tasks_send.true (search (tests, w.value-is, w.if-receiver-tasks.false)))
    ]

pub returns-else-only_tasks_send : goal.returns-else-only_tasks_send
unfolding queue_good
returns-else-only_tasks_send c =
    elim c.if-receiver-tasks.branch [
      | then-receiver-tasks w ↦ search (tests, w.value-is, w.only_tasks_send.ensures, w.if-receiver-tasks.true)
      | else-receiver-tasks w ↦ search (tests, w.value-is, w.if-receiver-tasks.false)
    ]
