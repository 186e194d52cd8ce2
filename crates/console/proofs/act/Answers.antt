-- `console::act`: a frame that changes the table, or a call on what the desk holds.
use Rattle.common.specs.Tests.{as_tested}
use Rattle.window.specs.Window.{remembers_nothing}
use Rattle.desk.specs.Desk.{with_state}
use Rattle.console.specs.CallLines.{turn_left}
use Rattle.console.proofs.act.Goals as goal

pub returns-then-not-is_call : goal.returns-then-not-is_call
returns-then-not-is_call c = rw (as_tested c.is_call.ensures c.if-not-is_call.true) c.set_table.ensures

pub call_line-done-requires : goal.call_line-done-requires
call_line-done-requires c = (λ runs. c.sound-sound.ensures, c.requires, remembers_nothing c.args.desk.now.plan)

pub returns : goal.returns
unfolding with_state
returns c =
    let a = c.args in
    rw (as_tested c.is_call.ensures c.if-not-is_call.false)
    (turn_left a.desk.now a.memory.now a.payload.now a.out.now a.frame c.call_line-done.ensures.0)
