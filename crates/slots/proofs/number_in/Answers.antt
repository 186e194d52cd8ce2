-- `number_in`: eight bytes make the number.
use Rattle.slots.specs.Slots.{number_from}
use Rattle.common.specs.Words.{◌∙◌, arith, ap}
use Rattle.calendar.specs.Calendar.{message}
use Rattle.slots.proofs.number_in.Goals as goal

pub returns : goal.returns
unfolding number_from
returns c = ap message (c.from_be_bytes.ensures ∙ omega arith)
