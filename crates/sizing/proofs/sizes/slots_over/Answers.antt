-- `sizing::sizes::slots_over`: the loop keeps the most that a row passed asks for.
use Rattle.std.specs.Prelude.{◌≡◌}
use Rattle.common.specs.Words.{ℕ, arith, refl, max}
use Rattle.common.specs.Totals.{only, most, most_next}
use Rattle.model.specs.Model.{row_slots, slots_over}
use Rattle.plan.specs.Plan.{queue_at}
use Rattle.sizing.proofs.sizes.slots_over.Goals as goal
use Rattle.sizing.proofs.sizes.slots_over.Goals.{then-plan-base, else-plan-base}

pub loop-i-init : goal.loop-i-init
unfolding most
loop-i-init c = refl

pub row_slots-requires : goal.row_slots-requires
row_slots-requires c = (c.requires.0, record { row = omega arith; on = c.if-plan-base.true }, c.requires.1)

pub loop-i-preserved : goal.loop-i-preserved
loop-i-preserved c =
    let q = queue_at c.args.plan.now c.args.queue in
    let share = λ (i : ℕ). only (q.sends i) (row_slots q c.args.ticks i) in
    let i = c.loop-i.i in
    let e : c.if-plan-base.greatest ≡ max c.loop-i.greatest (share i) =
    elim c.if-plan-base.branch [
      | then-plan-base w ↦
          let e : share i ≡ row_slots q c.args.ticks i = simp w.if-plan-base.true in
          omega (arith, w.greatest-is, w.max-greatest.ensures, w.row_slots.ensures, e)
      | else-plan-base w ↦ let e : share i ≡ 0 = simp w.if-plan-base.false in omega (arith, w.greatest-is, e)
    ] in
    omega (arith, e, c.loop-i.invariant, most_next share i)

pub returns : goal.returns
unfolding slots_over
returns c =
    let e : c.loop-i.i ≡ c.args.plan.now.tasks = omega arith in
    rw e at c.loop-i.invariant
