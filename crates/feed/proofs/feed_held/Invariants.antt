-- `feed::feed_held`: the lines that end in the block take their turns. Both arms start from the frame of a line, and show only that what
-- they did is the turn of the line's bytes; that the loop goes on from there is said once for both.
use Rattle.std.specs.Prelude.{◌≡◌, ◌-◌}
use Rattle.common.specs.Words.{length, take}
use Rattle.digits.specs.Hex.{most_bytes}
use Rattle.window.specs.Window.{Remembers}
use Rattle.feed.specs.Outcome.{console_of, fed_from}
use Rattle.feed.specs.Turns.{Underway}
use Rattle.feed.proofs.feed_held.Given as goal

abbrev pub invariant-loop-out : goal.invariant-loop-out
invariant-loop-out l =
    Underway (fed_from (console_of l.initial.desk l.initial.memory) (take l.initial.used l.initial.held) l.piece l.from l.initial.out) l.piece
    l.from l.initial.out l.memory l.held l.out l.desk l.used l.at l.w
    × Remembers l.desk.plan l.remembered × (length l.bytes ≡ most_bytes) × (length l.held ≡ length l.initial.held)

abbrev pub decreases-loop-out : goal.decreases-loop-out
decreases-loop-out l = length l.piece - l.at
