-- `count::up_to`: the loop keeps the sum over the rows passed.
use Rattle.std.specs.Prelude.{◌+◌, ◌≡◌}
use Rattle.common.specs.Words.{refl, sym, arith}
use Rattle.common.specs.Totals.{sum, sum_next}
use Rattle.model.specs.Model.{row_up_to, up_to}
use Rattle.plan.specs.Plan.{queue_at}
use Rattle.counting.specs.Bounds.{row_counts, part_fits}
use Rattle.counting.proofs.count.up_to.Goals as goal
use Rattle.counting.proofs.count.up_to.Goals.{then-plan-base, else-plan-base}

pub loop-i-init : goal.loop-i-init
unfolding sum
loop-i-init c = refl

pub count-sum-requires : goal.count-sum-requires
count-sum-requires c = row_counts c.requires.0 c.loop-i.i c.args.at.0 (omega arith) c.requires.1

pub overflow_add-sum : goal.overflow_add-sum
overflow_add-sum c =
    let a = c.args in
    let e : row_up_to (queue_at a.plan.now a.queue) a.at.0 c.loop-i.i ≡ c.count-sum.result = simp c.if-plan-base.true (sym c.count-sum.ensures) in
    omega (arith, c.loop-i.invariant, part_fits c.requires.0 c.loop-i.i a.at.0 (omega arith) c.requires.1, e)

pub loop-i-preserved : goal.loop-i-preserved
loop-i-preserved c =
    let row = row_up_to (queue_at c.args.plan.now c.args.queue) c.args.at.0 in
    let e : c.if-plan-base.sum ≡ c.loop-i.sum + row c.loop-i.i =
    elim c.if-plan-base.branch [
      | then-plan-base w ↦
          let e : row c.loop-i.i ≡ w.count-sum.result = simp w.if-plan-base.true (sym w.count-sum.ensures) in omega (arith, w.sum-is, e)
      | else-plan-base w ↦ let e : row c.loop-i.i ≡ 0 = simp w.if-plan-base.false in omega (arith, w.sum-is, e)
    ] in
    omega (arith, e, c.loop-i.invariant, sum_next row c.loop-i.i)

pub returns : goal.returns
unfolding up_to
returns c =
    let e : c.loop-i.i ≡ c.args.plan.now.tasks = omega arith in
    rw e at c.loop-i.invariant
