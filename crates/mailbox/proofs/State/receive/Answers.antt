-- `State::receive`: what the running call leaves, put together.
use Rattle.common.specs.Words.{List, ℕ}
use Rattle.window.specs.Window.{remembers_nothing}
use Rattle.running.specs.Calls as running
use Rattle.mailbox.specs.Types.{Tick, Plan, State, Received}
use Rattle.mailbox.specs.Calls.{receive_state, ReceiveGives}
use Rattle.mailbox.proofs.State.receive.Goals as goal

made : (s : State) (p : Plan) (m : List ℕ) (q t : ℕ) {r : Received} {latest : Tick} {reading : List ℕ} →
    running.ReceiveLeaves s.tick.0 s.reading p m q t r latest reading →
    ReceiveGives s p m q t (record { answer = r; state = record { tick = latest; sent = s.sent; reading = reading } })
unfolding receive_state
made s p m q t e = rw (e.0, e.1, e.2)

pub receive_on-looked-requires : goal.receive_on-looked-requires
receive_on-looked-requires c = remembers_nothing c.args.plan

pub returns : goal.returns
returns c =
    let a = c.args in
    made a.self a.plan a.memory.now a.queue a.at.0 c.receive_on-looked.ensures.0
