-- What the code carries through the rules, and what a rule does to it.
use Rattle.std.specs.Prelude.{Result, Ok, Option}
use Rattle.common.specs.Words.{ℕ, cond, List, eqb}
use Rattle.steps.specs.declared.faults.Fault.{Fault}
use Rattle.steps.specs.Faults.{no_fault, worse, worst}
use Rattle.steps.specs.Steps.{Step, On, Stop}
use Rattle.steps.specs.Lifted.{lift}
use Rattle.rows.specs.declared.Reading.{Reading}
use Rattle.rows.specs.Rows.{Store, store, with_rows}
use Rattle.rows.specs.Said.{Said, Rule, no_props}

-- how the text goes on, the properties found, the least fault noted, and the rows so far
pub record State : Type 0 where
  pub went : Step
  pub props : List ℕ
  pub fault : Option Fault
  pub store : Store

abbrev pub state : Step → List ℕ → Option Fault → Store → State
state w ps f s = record { went = w; props = ps; fault = f; store = s }

-- a reading of the plain text p, with its memory
abbrev pub state_of : List ℕ → Reading → List ℕ → State
state_of p r m = state (lift p r.went) r.props r.fault (store m r.count)

-- what was said is added
abbrev pub effect : State → Said → State
effect s r = state r.went r.props (worst s.fault r.notes) (with_rows s.store r.rows)

abbrev pub does_from : Step → State → Rule → State
does_from (On ts) s rule = effect s (rule s.props ts)
does_from (Stop f) s rule = s

-- a rule, where none before it has stopped
unfoldable pub does : State → Rule → State
does s rule = does_from s.went s rule

-- ## The code's own steps

abbrev pub reading : Result ℕ Fault → List ℕ → ℕ → Option Fault → Reading
reading w ps n f = record { went = w; props = ps; count = n; fault = f }

abbrev pub begun : Reading
begun = reading (Ok 0) no_props 0 no_fault

abbrev pub on_with : Reading → Result ℕ Fault → Reading
on_with r w = reading w r.props r.count r.fault

abbrev pub props_with : Reading → List ℕ → Reading
props_with r ps = reading r.went ps r.count r.fault

abbrev pub fault_with : Reading → Option Fault → Reading
fault_with r f = reading r.went r.props r.count (worse r.fault f)

abbrev pub first_of : ℕ → ℕ → ℕ
first_of a b = cond (eqb a 0) b a
