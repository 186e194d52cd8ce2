-- `listing::lines::write_table`: the lines of the threads, those of the queues and the last, each behind the one before.
use Rattle.std.specs.Prelude.{◌≡◌}
use Rattle.common.specs.Words.{min, arith, rules, zero-add}
use Rattle.listing.specs.Lines.{table_lines}
use Rattle.listing.specs.Laws.{no_tasks, no_queues, tasks_more, queues_more, tasks_length, queues_length, table_length}
use Rattle.listing.specs.Writer.{put_more}
use Rattle.listing.proofs.lines.write_table.Goals as goal

pub loop-i-init : goal.loop-i-init
loop-i-init c = no_tasks _ _ _ _

pub task-requires : goal.task-requires
task-requires c =
    let p = c.args.plan.now in
    let l = c.loop-i in
    omega (arith, l.invariant.behind, l.invariant.same_room, tasks_length p.period p.deadline p.priority l.i)

pub loop-i-preserved : goal.loop-i-preserved
loop-i-preserved c = tasks_more _ _ _ _ c.loop-i.invariant c.task.ensures

pub loop-q-init : goal.loop-q-init
loop-q-init c = no_queues _ _ _

pub queue-requires : goal.queue-requires
queue-requires c =
    let p = c.args.plan.now in
    let l = c.loop-i in
    let q = c.loop-q in
    omega (
      arith,
      l.invariant.behind,
      tasks_length p.period p.deadline p.priority l.i,
      q.invariant.behind,
      queues_length p.receiver p.sends q.q,
      l.invariant.same_room,
      q.invariant.same_room,
    )

pub loop-q-preserved : goal.loop-q-preserved
loop-q-preserved c = queues_more _ _ _ c.loop-q.invariant (rw c.mask_of.ensures at c.queue.ensures)

pub go-requires : goal.go-requires
go-requires c =
    let p = c.args.plan.now in
    let l = c.loop-i in
    let q = c.loop-q in
    omega (
      arith,
      l.invariant.behind,
      tasks_length p.period p.deadline p.priority l.i,
      q.invariant.behind,
      queues_length p.receiver p.sends q.q,
      l.invariant.same_room,
      q.invariant.same_room,
    )

pub returns : goal.returns
unfolding table_lines
returns c =
    let p = c.args.plan.now in
    let i : c.loop-i.i ≡ min p.tasks 16 = omega (arith, c.min-i-end.ensures, c.loop-i.auto.i-end, c.loop-i-test.false) in
    let q : c.loop-q.q ≡ min p.queues 8 = omega (arith, c.min-q-end.ensures, c.loop-q.auto.q-end, c.loop-q-test.false) in
    let lines = rw (i, q) at (put_more c.loop-i.invariant (put_more c.loop-q.invariant c.go.ensures)) in
    let long = table_length p.period p.deadline p.priority p.receiver p.sends (min p.tasks 16) (min p.queues 8) in
    (rw zero-add at lines.behind, omega (arith, lines.behind, long), search rules)
