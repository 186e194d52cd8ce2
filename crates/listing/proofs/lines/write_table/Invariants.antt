-- `listing::lines::write_table`: a turn writes one line more, of a thread and then of a queue.
use Rattle.listing.specs.Lines.{each_task, each_queue}
use Rattle.listing.specs.Writer.{Put}
use Rattle.listing.proofs.lines.write_table.Given as goal

abbrev pub invariant-loop-i : goal.invariant-loop-i
invariant-loop-i l = Put l.initial.lines (each_task l.plan.period l.plan.deadline l.plan.priority l.i) l.lines

abbrev pub invariant-loop-q : goal.invariant-loop-q
invariant-loop-q l = Put l.initial.lines (each_queue l.plan.receiver l.plan.sends l.q) l.lines
