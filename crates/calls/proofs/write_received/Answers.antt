-- `calls::write_received`: a line for each kind of answer; a view is no longer than a payload.
use Rattle.std.specs.Prelude.{◌≡◌}
use Rattle.common.specs.Words.{ℕ, List, refl, rules}
use Rattle.calendar.specs.declared.Number.{Number}
use Rattle.calendar.specs.declared.Slot.{Slot}
use Rattle.plan.specs.declared.refusal.Refusal.{Refusal}
use Rattle.calls.specs.Types.{Received}
use Rattle.frames.specs.Answers.{empty_bytes}
use Rattle.frames.specs.Writing.{Written}
use Rattle.calls.specs.CallLines.{received_bytes}
use Rattle.calls.specs.Leaves.{view_short, message_line_lem}
use Rattle.calls.proofs.write_received.Goals as goal

-- neither a message nor a gap nor a refusal
empty_line : (a : Received) (m out out' : List ℕ) (k : ℕ) → ((n : Number) (s : Slot) → a ≡ Received.Message n s → ⊥) →
    ((n : Number) (row : ℕ) → a ≡ Received.Gap n row → ⊥) → ((r : Refusal) → a ≡ Received.Refused r → ⊥) →
    Written empty_bytes out k out' → Written (received_bytes m a) out k out'
empty_line (Received.Message n s) m out out' k x y z w = absurd (x n s refl)
empty_line (Received.Gap n i) m out out' k x y z w = absurd (y n i refl)
empty_line Received.Empty m out out' k x y z w = w
empty_line (Received.Refused r) m out out' k x y z w = absurd (z r refl)

pub write_message-requires : goal.write_message-requires
write_message-requires c =
    (search rules, rw c.view.ensures.0 (view_short (Received.Message _ _) _))

pub returns-in-Message : goal.returns-in-Message
returns-in-Message c =
    message_line_lem c.args.answer _ _ c.args.memory.now _ _ _ _ c.in-Message.is c.view.ensures.0 c.write_message.ensures

pub returns : goal.returns
returns c =
    empty_line c.args.answer c.args.memory.now _ _ _ c.in_default.not-Message c.in_default-answer.not-Gap
    c.in_default-answer-2.not-Refused c.write_empty.ensures
