-- `sizing::sizes::slots_over`: the loop keeps the most that a row passed asks for.
use Rattle.std.specs.Prelude.{◌≡◌}
use Rattle.common.specs.Totals.{only, most}
use Rattle.model.specs.Model.{row_slots}
use Rattle.plan.specs.Plan.{queue_at}
use Rattle.sizing.proofs.sizes.slots_over.Given as goal

abbrev pub invariant-loop-i : goal.invariant-loop-i
invariant-loop-i l =
    let q = queue_at l.plan l.queue in
    l.greatest ≡ most (λ i. only (q.sends i) (row_slots q l.ticks i)) l.i
