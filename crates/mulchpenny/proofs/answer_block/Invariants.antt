-- `mulchpenny::answer_block`: each call of `feed` goes on where the block was left (`comes_on`) and uses at least one byte
-- (`next_moves`), so the loop ends, and it ends at the block's end unless a write failed.
use Rattle.std.specs.Prelude.{◌-◌, ◌≤◌}
use Rattle.common.specs.Words.{length, take}
use Rattle.blocks.specs.Stream.{Gone}
use Rattle.desk.specs.Desk.{SoundDesk}
use Rattle.feed.specs.Answers.{console_of}
use Rattle.lines.specs.Carried.{carried}
use Rattle.mulchpenny.specs.Block.{Comes}
use Rattle.mulchpenny.proofs.answer_block.Given as goal

abbrev pub invariant-loop-at : goal.invariant-loop-at
invariant-loop-at l = record {
  inside : l.at ≤ length l.piece;
  sound : SoundDesk l.desk;
  gone : Gone l.initial.stream l.stream;
  comes : Comes (console_of l.initial.desk l.initial.memory) (carried l.initial.carry) (take l.at l.piece) (console_of l.desk l.memory)
      (carried l.carry);
}

abbrev pub decreases-loop-at : goal.decreases-loop-at
decreases-loop-at l = length l.piece - l.at
