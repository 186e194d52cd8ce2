-- `calls::receive_line`: what the running call left, and the line of its answer.
use Rattle.calls.specs.Leaves.{receive_left}
use Rattle.calls.proofs.receive_line.Goals as goal

pub returns : goal.returns
returns c =
    let a = c.args in (
      receive_left a.state.now a.tested.plan.now a.memory.now a.queue a.at a.out.now c.receive_on-looked.ensures.0
          c.write_received.ensures,
      c.receive_on-looked.ensures.1,
    )
