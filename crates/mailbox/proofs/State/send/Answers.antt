-- `State::send`: what the running call leaves, put together.
use Rattle.std.specs.Prelude.{Result}
use Rattle.common.specs.Words.{List, refl, ℕ}
use Rattle.running.specs.Calls as running
use Rattle.mailbox.specs.Types.{Tick, Refusal, Plan, State, Stored}
use Rattle.mailbox.specs.Calls.{send_state, SendGives}
use Rattle.mailbox.proofs.State.send.Goals as goal

made : (s : State) (p : Plan) (m : List ℕ) (q i t : ℕ) (payload : List ℕ) {r : Result Stored Refusal} {latest : Tick}
    {sent memory : List ℕ} → running.SendLeaves s.tick.0 s.sent p m q i t payload r latest sent memory →
    SendGives s p m q i t payload
    (record { answer = r; state = record { tick = latest; sent = sent; reading = s.reading } }) memory
unfolding send_state
made s p m q i t payload e = rw (e.0, e.1, e.2) (refl, e.3)

pub returns : goal.returns
returns c =
    let a = c.args in
    made a.self a.plan a.memory.now a.queue a.task a.at.0 a.payload.now c.send_on-answer.ensures
