-- `sizing::cycle::messages_in`: the loop keeps the sum over the rows passed, at most one message a tick for each.
use Rattle.std.specs.Prelude.{◌+◌, ◌≤◌, ◌≡◌, ◌/◌}
use Rattle.common.specs.Words.{ℕ, div-le_self, arith, refl}
use Rattle.common.specs.Totals.{sum, sum_next, only_most}
use Rattle.model.specs.Model.{Queue, row_messages, messages}
use Rattle.model.proofs.Order.{period_pos}
use Rattle.plan.specs.Plan.{queue_at}
use Rattle.sizing.proofs.cycle.messages_in.Goals as goal
use Rattle.sizing.proofs.cycle.messages_in.Goals.{then-plan-base, else-plan-base}

row_at_most : (q : Queue) (ticks i : ℕ) → row_messages q ticks i ≤ ticks
row_at_most q ticks i = only_most (q.sends i) _ ticks (λ y. div-le_self ticks (q.period i))

pub loop-i-init : goal.loop-i-init
unfolding sum
loop-i-init c = (refl, omega arith)

pub nonzero_div-sum : goal.nonzero_div-sum
nonzero_div-sum c = period_pos (queue_at c.args.plan.now c.args.queue) c.requires.0.valid c.loop-i.i (omega arith)

pub overflow_add-sum : goal.overflow_add-sum
overflow_add-sum c =
    let q = queue_at c.args.plan.now c.args.queue in
    omega (arith, c.loop-i.invariant.1, div-le_self c.args.ticks (q.period c.loop-i.i), c.requires.0.tasks_fit, c.requires.1)

pub loop-i-preserved : goal.loop-i-preserved
loop-i-preserved c =
    let q = queue_at c.args.plan.now c.args.queue in
    let row = row_messages q c.args.ticks in
    let e : c.if-plan-base.sum ≡ c.loop-i.sum + row c.loop-i.i =
    elim c.if-plan-base.branch [
      | then-plan-base w ↦ let e : row c.loop-i.i ≡ c.args.ticks / q.period c.loop-i.i = simp w.if-plan-base.true in omega (arith, w.sum-is, e)
      | else-plan-base w ↦ let e : row c.loop-i.i ≡ 0 = simp w.if-plan-base.false in omega (arith, w.sum-is, e)
    ] in
    omega (arith, e, c.loop-i.invariant, row_at_most q c.args.ticks c.loop-i.i, sum_next row c.loop-i.i, c.requires.1)

pub returns : goal.returns
unfolding messages
returns c =
    let e : c.loop-i.i ≡ c.args.plan.now.tasks = omega arith in
    rw e at c.loop-i.invariant.0
