-- `tokens::past`: the run from here on ends where the whole does.
use Rattle.std.specs.Prelude.{◌≡◌, ◌+◌, ◌-◌}
use Rattle.common.specs.Words.{length, drop}
use Rattle.tokens.specs.Tokens.{rank, run}
use Rattle.tokens.proofs.past.Given as goal

abbrev pub invariant-loop-i : goal.invariant-loop-i
invariant-loop-i l =
    l.i + run (rank l.low) (rank l.high) (drop l.i l.text) ≡ l.at + run (rank l.low) (rank l.high) (drop l.at l.text)

abbrev pub decreases-loop-i : goal.decreases-loop-i
decreases-loop-i l = length l.text - l.i
