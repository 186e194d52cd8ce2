-- `mulchpenny::answer_all`: the desk's plan stays sound; a stream has fewer blocks left with each that comes.
use Rattle.blocks.specs.Stream.{blocks_left}
use Rattle.console.specs.SoundDesk.{SoundDesk}
use Rattle.mulchpenny.proofs.answer_all.Given as goal

abbrev pub invariant-loop-stdin : goal.invariant-loop-stdin
invariant-loop-stdin l = SoundDesk l.desk

abbrev pub decreases-loop-stdin : goal.decreases-loop-stdin
decreases-loop-stdin l = blocks_left l.stream
