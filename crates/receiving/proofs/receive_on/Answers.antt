-- `receiving::receive_on`: a look and a step on; every look's answer can be stepped on (`look_steps`).
use Rattle.running.specs.Stepping.{look_steps}
use Rattle.receiving.proofs.receive_on.Goals as goal

pub step_on-requires : goal.step_on-requires
step_on-requires c = rw c.look_on-looked.ensures.0 (look_steps _ _ c.args.tested.plan.now _ _ _)
