-- `listing::lines::mask_of`: a turn adds one bit more.
use Rattle.std.specs.Prelude.{◌-◌, ◌≤◌, ◌^◌, ◌≡◌}
use Rattle.plan.specs.Limits.{task_limit}
use Rattle.listing.specs.Lines.{mask_of, sender}
use Rattle.listing.proofs.lines.mask_of.Given as goal

abbrev pub invariant-loop-i : goal.invariant-loop-i
invariant-loop-i l = (l.i ≤ task_limit) × (l.bit ≡ 2 ^ l.i) × (l.mask ≡ mask_of (sender l.sends l.q) l.i)

abbrev pub decreases-loop-i : goal.decreases-loop-i
decreases-loop-i l = task_limit - l.i
