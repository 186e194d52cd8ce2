-- `calls::call_line`: by whether a plan was started, and by the frame.
use Rattle.calls.specs.Leaves.{bad_left, other_call}
use Rattle.calls.proofs.call_line.Goals as goal

pub returns-then-not-runs : goal.returns-then-not-runs
returns-then-not-runs c =
    let a = c.args in
    rw c.if-not-runs.true (bad_left a.state.now a.memory.now a.out.now c.write_bad.ensures, c.requires.2)

pub returns-in-Send : goal.returns-in-Send
returns-in-Send c = rw (c.if-not-runs.false, c.in-Send.is) (c.send_line.ensures, c.requires.2)

pub receive_line-requires : goal.receive_line-requires
receive_line-requires c = (c.requires.1, c.requires.2)

pub returns-in-Receive : goal.returns-in-Receive
returns-in-Receive c = rw (c.if-not-runs.false, c.in-Receive.is) (c.receive_line.ensures.0, c.receive_line.ensures.1)

pub returns-in_default : goal.returns-in_default
returns-in_default c =
    let a = c.args in
    rw (
      c.if-not-runs.false,
      other_call a.plan.now a.state.now a.memory.now a.payload.now a.frame c.in_default.not-Send c.in_default.not-Receive,
    )
    (bad_left a.state.now a.memory.now a.out.now c.write_bad-in_default.ensures, c.requires.2)
