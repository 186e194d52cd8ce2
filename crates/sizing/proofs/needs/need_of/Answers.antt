-- `sizing::needs::need_of`: the loop keeps the sum over the rows passed, each from the horizon up to the task's message.
use Rattle.std.specs.Prelude.{◌+◌, ◌*◌, ◌<◌, ◌≤◌, ◌-◌, ◌≡◌}
use Rattle.common.specs.Words.{ℕ, refl, arith}
use Rattle.common.specs.Totals.{sum, sum_next, sum_up}
use Rattle.model.specs.Model.{up_to}
use Rattle.plan.specs.Limits.{task_limit, last_tick}
use Rattle.plan.specs.Plan.{queue_at}
use Rattle.plan.specs.declared.Plan.{Plan}
use Rattle.counting.specs.Lent.{counted_at, Lent, number_due, number_due_altered, up_to_altered}
use Rattle.counting.specs.Bounds.{row_counts, up_to_fits}
use Rattle.counting.specs.Until.{until_near, until_all}
use Rattle.sizing.specs.Above.{row_above, above_on, above_off, above_all}
use Rattle.sizing.proofs.needs.need_of.Goals as goal
use Rattle.sizing.proofs.needs.need_of.Goals.{then-plan-base, else-plan-base}

module _ {p : Plan} {q : ℕ} (l : Lent p q) (horizon due task : ℕ) (early : horizon < due) (h : due ≤ last_tick) where
  abbrev row : ℕ → ℕ
  row = row_above (queue_at p q) horizon (due - 1) task

  all : sum row p.tasks + up_to (queue_at p q) horizon ≡ number_due (queue_at p q) due task
  unfolding Rattle.model.specs.Model.precedes
  all =
      let e : due - 1 + 1 ≡ due = omega arith in
      omega (
        arith,
        rw e at (until_all (counted_at p q) l.valid (due - 1) task),
        above_all (counted_at p q) l.valid horizon (due - 1) task (omega arith),
        number_due_altered p q 0 due task,
        up_to_altered p q (queue_at p q).priority 0 horizon,
      )

  -- no part of the sum is more than all messages up to the tick
  part_fits : (i : ℕ) → i < p.tasks → sum row i + row i ≤ task_limit * last_tick
  part_fits i g = omega (arith, sum_next row i, sum_up row (i + 1) p.tasks (omega arith), all, up_to_fits l due h)

pub loop-i-init : goal.loop-i-init
unfolding sum
loop-i-init c = refl

pub between-sum-requires : goal.between-sum-requires
between-sum-requires c =
    let a = c.args in
    let q = queue_at a.plan.now a.queue in
    let u = c.last_counted-until in
    let near = until_near q (a.due.0 - 1) a.task c.loop-i.i u.result.0 (u.ensures q refl refl) in
    let counts = row_counts c.requires.0 c.loop-i.i u.result.0 (omega arith) (omega (arith, near.1, c.requires.1, c.requires.2)) in
    (counts.0, counts.1, omega (arith, near.0, c.requires.1), counts.2)

pub overflow_add-sum : goal.overflow_add-sum
overflow_add-sum c =
    let a = c.args in
    let q = queue_at a.plan.now a.queue in
    let u = c.last_counted-until in
    let e = above_on q a.horizon.0 (a.due.0 - 1) a.task c.loop-i.i u.result.0 c.if-plan-base.true (u.ensures q refl refl) in
    omega (
      arith,
      c.loop-i.invariant,
      part_fits c.requires.0 a.horizon.0 a.due.0 a.task c.requires.1 c.requires.2 c.loop-i.i (omega arith),
      e,
      c.between-sum.ensures,
    )

pub loop-i-preserved : goal.loop-i-preserved
loop-i-preserved c =
    let a = c.args in
    let q = queue_at a.plan.now a.queue in
    let eve = a.due.0 - 1 in
    let row = row_above q a.horizon.0 eve a.task in
    let e : c.if-plan-base.sum ≡ c.loop-i.sum + row c.loop-i.i =
    elim c.if-plan-base.branch [
      | then-plan-base w ↦
          let u = w.last_counted-until in
          let e = above_on q a.horizon.0 eve a.task c.loop-i.i u.result.0 w.if-plan-base.true (u.ensures q refl refl) in
          omega (arith, w.sum-is, e, w.between-sum.ensures)
      | else-plan-base w ↦ omega (arith, w.sum-is, above_off q a.horizon.0 eve a.task c.loop-i.i w.if-plan-base.false)
    ] in
    omega (arith, e, c.loop-i.invariant, sum_next row c.loop-i.i)

pub returns : goal.returns
returns c =
    let a = c.args in
    let e : c.loop-i.i ≡ a.plan.now.tasks = omega arith in
    omega (arith, rw e at c.loop-i.invariant, all c.requires.0 a.horizon.0 a.due.0 a.task c.requires.1 c.requires.2)
