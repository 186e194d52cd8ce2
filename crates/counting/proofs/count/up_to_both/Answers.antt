-- `count::up_to_both`: the loop keeps both sums over the rows passed.
use Rattle.std.specs.Prelude.{◌+◌, ◌≡◌}
use Rattle.common.specs.Words.{refl, sym, arith}
use Rattle.common.specs.Totals.{sum, sum_next}
use Rattle.model.specs.Model.{row_up_to, up_to}
use Rattle.plan.specs.Plan.{queue_at}
use Rattle.counting.specs.Bounds.{row_positive, part_fits}
use Rattle.counting.proofs.count.up_to_both.Goals as goal
use Rattle.counting.proofs.count.up_to_both.Goals.{then-plan-base, else-plan-base}

pub loop-i-init : goal.loop-i-init
unfolding sum
loop-i-init c = (refl, refl)

pub counts_of-counts-requires : goal.counts_of-counts-requires
counts_of-counts-requires c =
    let r = row_positive c.requires.0 c.loop-i.i (omega arith) in
    (r.0, r.1, c.requires.1, c.requires.2)

pub overflow_add-both : goal.overflow_add-both
overflow_add-both c =
    let a = c.args in
    let e : row_up_to (queue_at a.plan.now a.queue) a.low.0 c.loop-i.i ≡ c.counts_of-counts.result.low =
    simp c.if-plan-base.true (sym c.counts_of-counts.ensures.0) in
    omega (arith, c.loop-i.invariant.0, part_fits c.requires.0 c.loop-i.i a.low.0 (omega arith) (omega (arith, c.requires.1, c.requires.2)), e)

pub overflow_add-both-then-plan-base : goal.overflow_add-both-then-plan-base
overflow_add-both-then-plan-base c =
    let a = c.args in
    let e : row_up_to (queue_at a.plan.now a.queue) a.high.0 c.loop-i.i ≡ c.counts_of-counts.result.high =
    simp c.if-plan-base.true (sym c.counts_of-counts.ensures.1) in
    omega (arith, c.loop-i.invariant.1, part_fits c.requires.0 c.loop-i.i a.high.0 (omega arith) c.requires.2, e)

pub loop-i-preserved : goal.loop-i-preserved
loop-i-preserved c =
    let low = row_up_to (queue_at c.args.plan.now c.args.queue) c.args.low.0 in
    let high = row_up_to (queue_at c.args.plan.now c.args.queue) c.args.high.0 in
    let i = c.loop-i.i in
    let more : (c.if-plan-base.both.low ≡ c.loop-i.both.low + low i) × (c.if-plan-base.both.high ≡ c.loop-i.both.high + high i) =
    elim c.if-plan-base.branch [
      | then-plan-base w ↦
          let e : low i ≡ w.counts_of-counts.result.low = simp w.if-plan-base.true (sym w.counts_of-counts.ensures.0) in
          let f : high i ≡ w.counts_of-counts.result.high = simp w.if-plan-base.true (sym w.counts_of-counts.ensures.1) in
          rw w.both-is (omega (arith, e), omega (arith, f))
      | else-plan-base w ↦
          let e : low i ≡ 0 = simp w.if-plan-base.false in
          let f : high i ≡ 0 = simp w.if-plan-base.false in
          rw w.both-is (omega (arith, e), omega (arith, f))
    ] in (
      omega (arith, more.0, c.loop-i.invariant.0, sum_next low i),
      omega (arith, more.1, c.loop-i.invariant.1, sum_next high i),
    )

pub returns : goal.returns
unfolding up_to
returns c =
    let e : c.loop-i.i ≡ c.args.plan.now.tasks = omega arith in
    (rw e at c.loop-i.invariant.0, rw e at c.loop-i.invariant.1)
