-- AADL.md, section 6: what a text is answered with, and document 02's numbers.
use Rattle.std.specs.Prelude.{Result, Ok, Err}
use Rattle.common.specs.Words.{ℕ, false, cond, eqb, leb, replicate}
use Rattle.plan.specs.Limits.{task_limit, queue_limit, cell_limit}
pub use Rattle.steps.specs.Faults.{number_of}
use Rattle.steps.specs.declared.faults.Fault.{Fault}
use Rattle.steps.specs.declared.faults.Rule.{Rule}
use Rattle.steps.specs.declared.faults.Rule.TheVariants.{Unfit, Unknown, NoTime, TooDeep, Twice}
use Rattle.findings.specs.declared.Problem.{Problem}
use Rattle.findings.specs.declared.Table.{Table}
use Rattle.findings.specs.declared.Read.{Read}

-- the rule of a number: of one that is no rule's, the nearest one's
unfoldable pub rule_of : ℕ → Rule
rule_of n = cond (leb n 20) Unfit (cond (eqb n 21) Unknown (cond (eqb n 22) NoTime (cond (eqb n 23) TooDeep Twice)))

-- a text's answer: it is sound, it is refused, or there is no room for some text
abbrev pub Answer : Type 0
Answer = Result (Unit {0}) Problem

abbrev pub sound : Answer
sound = Ok tt

abbrev pub refused : Fault → Answer
refused f = Err (Problem.Refused f)

abbrev pub no_room : Answer
no_room = Err Problem.NoRoom

-- where there is no table, it is that of all zeros
abbrev pub no_table : Table
no_table = record {
  tasks = 0;
  queues = 0;
  period = replicate task_limit 0;
  deadline = replicate task_limit 0;
  priority = replicate task_limit 0;
  receiver = replicate queue_limit 0;
  sends = replicate cell_limit false;
}

abbrev pub answered : Answer → Table → Read
answered a t = record { answer = a; table = t }
