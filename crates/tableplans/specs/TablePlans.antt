-- Document 02, request a: a text's table through planning, by what reading the text came to.
use Rattle.std.specs.Prelude.{Result, Ok, Err}
use Rattle.plan.specs.Plan.{zeros}
use Rattle.plan.specs.Refusals.{Verdict}
use Rattle.plan.specs.Square.{square_of}
use Rattle.planning.specs.Planning.{plan_of}
use Rattle.planning.specs.declared.Planned.{Planned}
use Rattle.findings.specs.declared.Table.{Table}
use Rattle.findings.specs.Findings.{Answer as ReaderAnswer}
use Rattle.findings.specs.declared.Problem.{Problem as ReaderProblem}
use Rattle.tableplans.specs.declared.Problem.{Problem}
use Rattle.tableplans.specs.declared.Import.{Import}

-- a text's answer: its table is planned, or the problem
abbrev pub Answer : Type 0
Answer = Result (Unit {0}) Problem

abbrev pub accepted : Answer
accepted = Ok tt

-- "The imported table goes through planning as any other"
unfoldable pub planned : Table → Planned
planned t = plan_of t.tasks t.queues t.period t.deadline t.priority t.receiver (square_of t.sends)

-- a sound text's refusals are planning's own, 1 to 6, with the row
abbrev pub planning_says : Verdict → Answer
planning_says (Ok x) = accepted
planning_says (Err r) = Err (Problem.TableRefused r)

abbrev pub with_plan : Table → Planned → Import
with_plan t p = record { answer = planning_says p.answer; table = t; plan = p.plan }

-- where there is no plan, it is that of all zeros
abbrev pub unplanned : Problem → Table → Import
unplanned p t = record { answer = Err p; table = t; plan = zeros }

-- any other text's are the reader's, 20 to 24, with the place
unfoldable pub import_by : ReaderAnswer → Table → Import
import_by (Ok x) t = with_plan t (planned t)
import_by (Err (ReaderProblem.Refused r)) t = unplanned (Problem.TextRefused r) t
import_by (Err ReaderProblem.NoRoom) t = unplanned Problem.NoRoom t
