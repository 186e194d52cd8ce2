-- `number::number_due`: the loop keeps the sum over the rows passed, each up to the task's message.
use Rattle.std.specs.Prelude.{◌+◌, ◌*◌, ◌<◌, ◌≤◌, ◌-◌, ◌≡◌}
use Rattle.common.specs.Words.{ℕ, refl, ap, arith}
use Rattle.common.specs.Totals.{sum, sum_next, sum_up}
use Rattle.model.specs.Model.{Queue}
use Rattle.calendar.specs.Calendar.{message}
use Rattle.plan.specs.Limits.{task_limit, last_tick}
use Rattle.plan.specs.Plan.{queue_at}
use Rattle.plan.specs.declared.Plan.{Plan}
use Rattle.counting.specs.Lent.{counted_at, Lent, number_due, number_due_altered}
use Rattle.counting.specs.Bounds.{row_counts, up_to_fits}
use Rattle.counting.specs.Until.{row_until, until_on, until_off, until_near, until_all}
use Rattle.counting.proofs.number.number_due.Goals as goal
use Rattle.counting.proofs.number.number_due.Goals.{then-plan-base, else-plan-base}

module _ {p : Plan} {q : ℕ} (l : Lent p q) (due task : ℕ) (pos : 1 ≤ due) (h : due ≤ last_tick) where
  abbrev row : ℕ → ℕ
  row = row_until (queue_at p q) (due - 1) task

  all : sum row p.tasks ≡ number_due (queue_at p q) due task
  unfolding Rattle.model.specs.Model.precedes
  all =
      let e : due - 1 + 1 ≡ due = omega arith in
      omega (arith, rw e at (until_all (counted_at p q) l.valid (due - 1) task), number_due_altered p q 0 due task)

  -- no part of the sum is more than all messages up to the tick
  part_fits : (i : ℕ) → i < p.tasks → sum row i + row i ≤ task_limit * last_tick
  part_fits i g = omega (arith, sum_next row i, sum_up row (i + 1) p.tasks (omega arith), all, up_to_fits l due h)

pub loop-i-init : goal.loop-i-init
unfolding sum
loop-i-init c = refl

pub count-sum-requires : goal.count-sum-requires
count-sum-requires c =
    let a = c.args in
    let q = queue_at a.plan.now a.queue in
    let u = c.last_counted-until in
    let near = until_near q (a.due.0 - 1) a.task c.loop-i.i u.result.0 (u.ensures q refl refl) in
    row_counts c.requires.0 c.loop-i.i u.result.0 (omega arith) (omega (arith, near.1, c.requires.1, c.requires.2))

pub overflow_add-sum : goal.overflow_add-sum
overflow_add-sum c =
    let a = c.args in
    let q = queue_at a.plan.now a.queue in
    let u = c.last_counted-until in
    let e = until_on q (a.due.0 - 1) a.task c.loop-i.i u.result.0 c.if-plan-base.true (u.ensures q refl refl) in
    omega (
      arith,
      c.loop-i.invariant,
      part_fits c.requires.0 a.due.0 a.task c.requires.1 c.requires.2 c.loop-i.i (omega arith),
      e,
      c.count-sum.ensures,
    )

pub loop-i-preserved : goal.loop-i-preserved
loop-i-preserved c =
    let q = queue_at c.args.plan.now c.args.queue in
    let row = row_until q (c.args.due.0 - 1) c.args.task in
    let e : c.if-plan-base.sum ≡ c.loop-i.sum + row c.loop-i.i =
    elim c.if-plan-base.branch [
      | then-plan-base w ↦
          let u = w.last_counted-until in
          let e = until_on q (c.args.due.0 - 1) c.args.task c.loop-i.i u.result.0 w.if-plan-base.true (u.ensures q refl refl) in
          omega (arith, w.sum-is, e, w.count-sum.ensures)
      | else-plan-base w ↦ omega (arith, w.sum-is, until_off q (c.args.due.0 - 1) c.args.task c.loop-i.i w.if-plan-base.false)
    ] in
    omega (arith, e, c.loop-i.invariant, sum_next row c.loop-i.i)

pub returns : goal.returns
returns c =
    let a = c.args in
    let e : c.loop-i.i ≡ a.plan.now.tasks = omega arith in
    let n : c.loop-i.sum ≡ number_due (queue_at a.plan.now a.queue) a.due.0 a.task =
    omega (arith, rw e at c.loop-i.invariant, all c.requires.0 a.due.0 a.task c.requires.1 c.requires.2) in
    ap message n
