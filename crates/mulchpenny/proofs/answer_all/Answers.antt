-- `mulchpenny::answer_all`: the desk's plan stays sound; a stream has fewer blocks left with each that comes.
use Rattle.console.specs.SoundDesk.{sound_new}
use Rattle.mulchpenny.proofs.answer_all.Goals as goal

pub loop-stdin-init : goal.loop-stdin-init
loop-stdin-init c = rw c.new-desk.ensures sound_new
