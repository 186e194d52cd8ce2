-- `desk::table::go`: the answer of planning decides.
use Rattle.desk.specs.Starts.{go_running, go_refused, go_accepted}
use Rattle.desk.specs.Turns.{written}
use Rattle.desk.proofs.table.go.Goals as goal

pub returns-then-desk : goal.returns-then-desk
returns-then-desk c =
    let a = c.args in
    rw (go_running a.desk.now a.memory.now c.if-desk.true) (written _ _ _ _ _ _ c.write_bad.ensures)

pub returns-in-Err : goal.returns-in-Err
returns-in-Err c =
    let a = c.args in
    go_refused a.desk.now a.memory.now a.out.now c.plan_of-planned.result c.if-desk.false c.plan_of-planned.ensures _ c.in-Err.is
    (c.refuse.ensures a.memory.now)

pub returns : goal.returns
returns c =
    let a = c.args in
    go_accepted a.desk.now a.memory.now a.out.now c.plan_of-planned.result c.if-desk.false c.plan_of-planned.ensures c.in_default.is
    c.start.ensures
