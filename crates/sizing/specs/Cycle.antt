-- Rules 4 and 5 of one queue, of a table whose rows have passed rules 1 to 3.
use Rattle.common.specs.Words.{ℕ, Bool, leb}
use Rattle.model.specs.Model.{hyperperiod, messages}
use Rattle.plan.specs.Limits.{longest_hyperperiod, most_messages}
use Rattle.plan.specs.Queues.{queue_at}
use Rattle.plan.specs.declared.Plan.{Plan}

-- not 4: "hyperperiod over the limit"
abbrev pub cycle_short : Plan → ℕ → Bool
cycle_short t q = leb (hyperperiod (queue_at t q)) longest_hyperperiod

-- not 5: "too many messages in a hyperperiod"
abbrev pub messages_few : Plan → ℕ → Bool
messages_few t q = leb (messages (queue_at t q) (hyperperiod (queue_at t q))) most_messages
