-- `sizing::cycle::hyperperiod_of`: the loop keeps the least common multiple of the receiver's period and the senders' passed.
-- A multiple that is over the limit stays over it with more rows.
use Rattle.std.specs.Prelude.{◌+◌, ◌<◌, ◌≡◌}
use Rattle.common.specs.Words.{le_refl, arith, sym, ◌∙◌}
use Rattle.common.specs.Tests.{tests}
use Rattle.model.specs.Model.{lcm, multiple, hyperperiod}
use Rattle.model.proofs.Multiple.{multiple_none, multiple_on, multiple_off, multiple_pos, multiple_mono}
use Rattle.model.proofs.Order.{period_pos}
use Rattle.calendar.specs.Calendar.{capped_within, capped_over}
use Rattle.plan.specs.Limits.{longest_hyperperiod}
use Rattle.plan.specs.Plan.{queue_at}
use Rattle.sizing.proofs.cycle.hyperperiod_of.Goals as goal
use Rattle.sizing.proofs.cycle.hyperperiod_of.Goals.{then-plan-base+in_ok-multiple, else-plan-base}

pub loop-i-init : goal.loop-i-init
loop-i-init c =
    let u = c.requires in
    (sym (multiple_none (queue_at c.args.plan.now c.args.queue)), omega (arith, u.periods_fit _ u.valid.receiver_row))

pub common_multiple-requires : goal.common_multiple-requires
common_multiple-requires c =
    let u = c.requires in
    let q = queue_at c.args.plan.now c.args.queue in
    (omega (arith, c.loop-i.invariant.0, multiple_pos q u.valid c.loop-i.i (omega arith)), period_pos q u.valid c.loop-i.i (omega arith))

pub returns-in_err-multiple : goal.returns-in_err-multiple
unfolding hyperperiod
returns-in_err-multiple c =
    let u = c.requires in
    let q = queue_at c.args.plan.now c.args.queue in
    let over = capped_over longest_hyperperiod (lcm c.loop-i.multiple (q.period c.loop-i.i))
    (sym c.common_multiple.ensures ∙ c.in_err-multiple.was) in
    let h : longest_hyperperiod < multiple q q.rows =
    omega (
      arith,
      rw c.loop-i.invariant.0 at over,
      multiple_on q c.loop-i.i c.if-plan-base.true,
      (multiple_mono q u.valid (c.loop-i.i + 1) q.rows (omega arith) (le_refl _)).0,
    ) in
    search (tests, c.from_residual.ensures)

pub loop-i-preserved : goal.loop-i-preserved
loop-i-preserved c =
    let q = queue_at c.args.plan.now c.args.queue in
    let e = c.loop-i.invariant.0 in
    elim c.if-plan-base.branch [
      | then-plan-base+in_ok-multiple w ↦
          let more = capped_within longest_hyperperiod (lcm c.loop-i.multiple (q.period c.loop-i.i)) _
          (sym w.common_multiple.ensures ∙ w.in_ok-multiple.was) in
          rw w.multiple-is (more.0 ∙ rw e (sym (multiple_on q c.loop-i.i w.if-plan-base.true)), omega (arith, more.0, more.1))
      | else-plan-base w ↦
          rw w.multiple-is (e ∙ sym (multiple_off q c.loop-i.i w.if-plan-base.false), c.loop-i.invariant.1)
    ]

pub returns : goal.returns
unfolding hyperperiod
returns c =
    let l = c.loop-i in
    let e : l.i ≡ c.args.plan.now.tasks = omega arith in
    let m = rw e at l.invariant.0 in
    search (tests, ← m)
