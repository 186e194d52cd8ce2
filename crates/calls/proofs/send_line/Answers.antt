-- `calls::send_line`: what the running call left, and the line of its answer.
use Rattle.calls.specs.Leaves.{send_left}
use Rattle.calls.proofs.send_line.Goals as goal

pub returns : goal.returns
returns c =
    let a = c.args in
    send_left a.state.now a.tested.plan.now a.memory.now a.queue a.task a.at a.payload.now a.out.now c.send_on-answer.ensures c.write_sent.ensures
