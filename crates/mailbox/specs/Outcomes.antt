-- The states that accepted calls leave: a send, a receive that comes to number n, an empty receive.
use Rattle.std.specs.Prelude.{◌+◌, ◌*◌, ◌≡◌}
use Rattle.common.specs.Words.{ℕ, List, refl, set}
use Rattle.calendar.specs.Calendar.{tick}
use Rattle.plan.specs.Limits.{task_limit}
use Rattle.plan.specs.Plan.{queue_at}
use Rattle.plan.specs.Verdicts.{verdict}
use Rattle.running.specs.Outcomes.{sent_clear}
use Rattle.mailbox.specs.Types.{Plan, clear, State}
use Rattle.mailbox.specs.Calls.{running_job, unsent_at, send_lines, send_state}

abbrev pub sent_state : State → Plan → ℕ → ℕ → ℕ → State
sent_state s p q i t = record {
  tick = tick t;
  sent = set s.sent (q * task_limit + i) (running_job (queue_at p q) i t + 1);
  reading = s.reading;
}

abbrev pub read_past : State → ℕ → ℕ → ℕ → State
read_past s q t n = record { tick = tick t; sent = s.sent; reading = set s.reading q (n + 1) }

abbrev pub moved_to : State → ℕ → State
moved_to s t = record { tick = tick t; sent = s.sent; reading = s.reading }

pub state_clear : (s : State) (p : Plan) (m : List ℕ) (q i t : ℕ) (payload : List ℕ) →
    verdict (send_lines s p m q i t payload) ≡ clear → send_state s p m q i t payload ≡ sent_state s p q i t
unfolding send_state
state_clear s p m q i t payload e = rw (sent_clear s.tick.0 (unsent_at s q i) p m q i t payload refl e).0
