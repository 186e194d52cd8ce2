-- `words::sum_of`: what is left to sum gives the whole.
use Rattle.std.specs.Prelude.{◌≡◌, ◌-◌, ◌≤◌, ◌<◌}
use Rattle.common.specs.Stores.{part}
use Rattle.words.specs.Found.{sum_by}
use Rattle.words.proofs.sum_of.Given as goal

abbrev pub invariant-loop-i : goal.invariant-loop-i
invariant-loop-i l =
    (sum_by l.sum (part l.text l.i (l.end - l.i)) ≡ sum_by 0 (part l.text l.start (l.end - l.start))) × (l.start ≤ l.i) × (l.i ≤ l.end)
    × (l.sum < 385)

abbrev pub decreases-loop-i : goal.decreases-loop-i
decreases-loop-i l = l.end - l.i
