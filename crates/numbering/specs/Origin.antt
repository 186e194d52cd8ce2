-- The sender and the job behind a number, as the code hands them out.
use Rattle.common.specs.Words.{ℕ}
use Rattle.model.specs.Model.{Queue, sender_of, job_of}
use Rattle.calendar.specs.Calendar.{job}
use Rattle.plan.specs.Limits.{last_tick}
use Rattle.numbering.specs.declared.origin.Origin.{Origin}

abbrev pub origin_of : Queue → ℕ → Origin
origin_of q n = record { task = sender_of q last_tick n; job = job (job_of q last_tick n) }
