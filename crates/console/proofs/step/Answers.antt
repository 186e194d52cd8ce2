-- `console::step`: a short buffer, and a line whose bytes lie at the start of the array.
use Rattle.common.specs.Words.{rules, arith, length-take}
use Rattle.console.specs.Framing.{step_short, step_taken}
use Rattle.console.proofs.step.Goals as goal

pub returns-then-out-lt-ROOM : goal.returns-then-out-lt-ROOM
returns-then-out-lt-ROOM c =
    let a = c.args in
    step_short a.desk a.memory.now a.line.now a.out.now (search rules)

pub slice_bounds-framed-end : goal.slice_bounds-framed-end
slice_bounds-framed-end c = simp length-take (omega (arith, c.bytes_in-n.ensures.0))

pub returns : goal.returns
returns c =
    let a = c.args in
    step_taken a.desk a.memory.now a.line.now a.out.now (search rules) c.bytes_in-n.ensures.1 c.frame_of.ensures
    c.payload_in.ensures.0 c.act-written.ensures
