-- `desk::table::start`: the answer of start decides; a started plan has at most eight queues to tell of.
use Rattle.common.specs.Words.{rules, arith, length-take, refl, ◌∙◌, sym, ap}
use Rattle.frames.specs.Writing.{sizes_front}
use Rattle.desk.specs.Types.{Starting}
use Rattle.desk.specs.Desk.{with_run}
use Rattle.desk.specs.Starts.{started_queues, start_refused, start_ready}
use Rattle.desk.proofs.table.start.Goals as goal

pub returns-in-Err : goal.returns-in-Err
returns-in-Err c =
    let a = c.args in
    start_refused a.desk.now a.plan a.memory.now a.out.now _ _ c.start-starting.ensures _ c.in-Err.is c.refuse.ensures

pub shared_ref_as_front-write_sizes : goal.shared_ref_as_front-write_sizes
shared_ref_as_front-write_sizes c =
    started_queues c.args.plan c.args.memory.now (ap (λ (y : Starting). y.answer) (sym c.start-starting.ensures.0) ∙ c.in_default.is)

pub write_sizes-requires : goal.write_sizes-requires
write_sizes-requires c =
    let a = c.args in
    let n = started_queues a.plan a.memory.now (ap (λ (y : Starting). y.answer) (sym c.start-starting.ensures.0) ∙ c.in_default.is) in
    (search rules, omega (arith, n, length-take a.plan.queues a.plan.size))

pub returns : goal.returns
unfolding with_run
returns c =
    let a = c.args in
    let n = started_queues a.plan a.memory.now (ap (λ (y : Starting). y.answer) (sym c.start-starting.ensures.0) ∙ c.in_default.is) in
    start_ready a.desk.now a.plan a.memory.now a.out.now _ _ c.start-starting.ensures c.in_default.is refl
    (rw (sizes_front a.plan.size a.plan.queues (omega (arith, n))) at c.write_sizes.ensures)
