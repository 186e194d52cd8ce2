-- The calendar's types stand for the model's numbers, each for one kind of them.
use Rattle.common.specs.Words.{ℕ}
use Rattle.calendar.specs.declared.Tick.{Tick}
use Rattle.calendar.specs.declared.Job.{Job}
use Rattle.calendar.specs.declared.Number.{Number}
use Rattle.calendar.specs.declared.Slot.{Slot}

abbrev pub tick : ℕ → Tick
tick t = record { 0 = t }

abbrev pub job : ℕ → Job
job k = record { 0 = k }

abbrev pub message : ℕ → Number
message n = record { 0 = n }

abbrev pub slot : ℕ → Slot
slot s = record { 0 = s }
