-- `number::first_number`: job 0's window starts at 1; the job before any other is released within the last tick too.
use Rattle.std.specs.Prelude.{◌-◌, ◌*◌, ◌≤◌, ◌≡◌}
use Rattle.common.specs.Words.{mul-le-mul_right, arith, rules}
use Rattle.model.specs.Model.{receiver_period, last}
use Rattle.model.proofs.Window.{window_zero}
use Rattle.plan.specs.Limits.{last_tick}
use Rattle.plan.specs.Plan.{queue_at}
use Rattle.counting.specs.Lent.{lent}
use Rattle.counting.specs.Bounds.{up_to_fits}
use Rattle.numbering.proofs.number.first_number.Goals as goal

pub returns-in_default : goal.returns-in_default
returns-in_default c =
    let z : c.args.job.0 ≡ 0 = search rules in
    rw (z, (window_zero (queue_at c.args.plan.now c.args.queue) c.requires.0.valid).0)

pub overflow_add-result : goal.overflow_add-result
unfolding last
overflow_add-result c =
    let R = receiver_period (queue_at c.args.plan.now c.args.queue) in
    let j = c.args.job.0 in
    let e : c.in-Some.earlier ≡ j - 1 = search rules in
    let h : (j - 1) * R ≤ last_tick = omega (arith, mul-le-mul_right {m = j - 1} {n = j} R (omega arith)) in
    rw (c.last_number-before.ensures, e) (omega (arith, up_to_fits (lent _ _ c.requires.0) ((j - 1) * R) h))
