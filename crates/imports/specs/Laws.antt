-- Laws of an import: what a sound text's import is, rule 1 for a text that is too large, zeros where there is no table or no plan, and that the
-- contract determines the outcome.
use Rattle.std.specs.Prelude.{◌<◌, ◌⊎◌, ◌≡◌, Ok, Err, Option, None, Some}
use Rattle.common.specs.Words.{ℕ, arith, Bool, true, false, List, inl, inr, refl, ap, ◌∙◌}
use Rattle.common.specs.Tests.{true_or_false}
use Rattle.plan.specs.Facts.{counts_iff}
use Rattle.plan.specs.Limits.{task_limit, queue_limit}
use Rattle.plan.specs.Plan.{zeros}
use Rattle.plan.specs.Refusals.{unnamed, Verdict, clear}
use Rattle.plan.specs.Rules.{counts_good}
use Rattle.plan.specs.Square.{square_of}
use Rattle.plan.specs.declared.refusal.Rule.TheVariants.{TaskOrQueueCount}
use Rattle.planning.specs.AcceptedPlan.{Made, accepted_made}
use Rattle.planning.specs.Planning.{refused_plan, plan_of}
use Rattle.steps.specs.declared.faults.Fault.{Fault}
use Rattle.findings.specs.declared.Table.{Table}
use Rattle.findings.specs.Findings.{Answer as ReaderAnswer, sound, no_table}
use Rattle.reader.specs.Reader.{answer_by, answer_plain, read_of, answer}
use Rattle.findings.specs.declared.Problem.{Problem as ReaderProblem}
use Rattle.tableplans.specs.TablePlans.{accepted, planned, planning_says, with_plan, unplanned, import_by}
use Rattle.tableplans.specs.declared.Problem.{Problem}
use Rattle.imports.specs.Imports.{import_of}

-- ## A sound text

-- more than a plan has room for, so that rule 1 applies
abbrev Over : ℕ → ℕ → Type 0
Over tasks queues = (task_limit < tasks) ⊎ (queue_limit < queues)

over_bad : (tasks queues : ℕ) → Over tasks queues → counts_good tasks queues ≡ false
over_bad tasks queues h = go (true_or_false (counts_good tasks queues))
  where
    no : Over tasks queues → counts_good tasks queues ≡ true → ⊥
    no (inl h) e = omega (arith, ((counts_iff tasks queues).0 e).0.1)
    no (inr h) e = omega (arith, ((counts_iff tasks queues).0 e).1.1)

    go : (counts_good tasks queues ≡ true) ⊎ (counts_good tasks queues ≡ false) → counts_good tasks queues ≡ false
    go (inl e) = absurd (no h e)
    go (inr e) = e

over_refused : (t : Table) → Over t.tasks t.queues → planned t ≡ refused_plan (unnamed TaskOrQueueCount)
unfolding planned plan_of
over_refused t h = rw (over_bad t.tasks t.queues h)

module _ (room : Bool) (text : List ℕ) (is_sound : (answer room text).answer ≡ sound) where
  abbrev T : Table
  T = (answer room text).table

  -- "The imported table goes through planning as any other"
  pub sound_planned : import_of room text ≡ with_plan T (planned T)
  unfolding import_of import_by
  sound_planned = rw is_sound

  over_one : Over T.tasks T.queues → import_of room text ≡ unplanned (Problem.TableRefused (unnamed TaskOrQueueCount)) T
  over_one h = sound_planned ∙ ap (with_plan T) (over_refused T h)

  -- "a sound text of over 16 threads or 8 queues gets 1"
  pub too_many_threads : 16 < T.tasks → import_of room text ≡ unplanned (Problem.TableRefused (unnamed TaskOrQueueCount)) T
  too_many_threads h = over_one (inl h)

  pub too_many_queues : 8 < T.queues → import_of room text ≡ unplanned (Problem.TableRefused (unnamed TaskOrQueueCount)) T
  too_many_queues h = over_one (inr h)

-- ## The plan of an accepted text is one that planning made

planning_accepted : (a : Verdict) → planning_says a ≡ accepted → a ≡ clear
planning_accepted (Ok x) e = refl
planning_accepted (Err r) e = absurd (cc)

made_by : (a : ReaderAnswer) (t : Table) → (import_by a t).answer ≡ accepted → Made (import_by a t).plan
unfolding import_by planned
made_by (Ok x) t e =
    accepted_made t.tasks t.queues t.period t.deadline t.priority t.receiver (square_of t.sends) (planning_accepted _ e)
made_by (Err (ReaderProblem.Refused r)) t e = absurd (cc)
made_by (Err ReaderProblem.NoRoom) t e = absurd (cc)

pub import_made : (room : Bool) (text : List ℕ) → (import_of room text).answer ≡ accepted → Made (import_of room text).plan
unfolding import_of
import_made room text e = made_by (answer room text).answer (answer room text).table e

-- ## Any other text

no_table_by : (f : Option Fault) (t : Table) → ((answer_by f t).answer ≡ sound → ⊥) → (answer_by f t).table ≡ no_table
unfolding answer_by
no_table_by None t h = absurd (h refl)
no_table_by (Some f) t h = refl

no_table_lem : (room : Bool) (text : List ℕ) → ((answer room text).answer ≡ sound → ⊥) → (answer room text).table ≡ no_table
unfolding answer read_of answer_plain
no_table_lem true text h = no_table_by _ _ h
no_table_lem false text h = refl

no_plan : (a : ReaderAnswer) (t : Table) → (a ≡ sound → ⊥) → ((import_by a t).table ≡ t) × ((import_by a t).plan ≡ zeros)
unfolding import_by
no_plan (Ok x) t h = absurd (h refl)
no_plan (Err (ReaderProblem.Refused r)) t h = (refl, refl)
no_plan (Err ReaderProblem.NoRoom) t h = (refl, refl)

-- a text that is not sound has the table and the plan of all zeros
pub unsound_zeros : (room : Bool) (text : List ℕ) → ((answer room text).answer ≡ sound → ⊥) →
    ((import_of room text).table ≡ no_table) × ((import_of room text).plan ≡ zeros)
unfolding import_of
unsound_zeros room text h = let z = no_plan _ (answer room text).table h in (z.0 ∙ no_table_lem room text h, z.1)
