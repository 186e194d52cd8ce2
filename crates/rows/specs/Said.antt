-- Rules that say more than how the text goes on: the properties that they find, what they declare, and the faults that they note.
use Rattle.std.specs.Prelude.{◌∷◌, ◌++◌}
use Rattle.common.specs.Words.{ℕ, zero, suc, Bool, cond, List, [], length, eqb, get_or}
use Rattle.common.specs.Table.{table}
use Rattle.tokens.specs.Tokens.{Token}
use Rattle.steps.specs.declared.faults.Fault.{Fault}
use Rattle.steps.specs.Steps.{Step, On, Stop}
use Rattle.rows.specs.Rows.{Row}

pub record Said : Type 0 where
  pub went : Step
  pub props : List ℕ
  pub rows : List Row
  pub notes : List Fault

abbrev pub said : Step → List ℕ → List Row → List Fault → Said
said w ps is ns = record { went = w; props = ps; rows = is; notes = ns }

-- such a rule is given the properties that were found before it, and the tokens
abbrev pub Rule : Type 0
Rule = List ℕ → List Token → Said

-- a rule that says no more
abbrev pub quiet : (List Token → Step) → Rule
quiet rule ps ts = said (rule ts) ps [] []

abbrev pub joined : Said → Said → Said
joined s r = said r.went r.props (s.rows ++ r.rows) (s.notes ++ r.notes)

abbrev pub onward : Step → Said → Rule → Said
onward (On ts) s rule = joined s (rule s.props ts)
onward (Stop f) s rule = said (Stop f) s.props s.rows s.notes

infixl 40 ◌⨟◌
-- one rule after another
abbrev pub ◌⨟◌ : Said → Rule → Said
s ⨟ rule = onward s.went s rule

-- [ rule ]
unfoldable pub optionally : (List Token → Bool) → Rule → Rule
optionally begins rule ps ts = let taken = rule ps ts in cond (begins ts) taken (said (On ts) ps [] [])

-- { rule }
unfoldable pub repeat_by : ℕ → (List Token → Bool) → Rule → Rule
repeat_by zero begins rule ps ts = said (On ts) ps [] []
repeat_by (suc n) begins rule ps ts = let more = rule ps ts ⨟ repeat_by n begins rule in cond (begins ts) more (said (On ts) ps [] [])

unfoldable pub repeat : (List Token → Bool) → Rule → Rule
repeat begins rule ps ts = repeat_by (suc (length ts)) begins rule ps ts

-- what is declared, by the properties that were found
abbrev pub put : (List ℕ → Row) → Rule
put row ps ts = said (On ts) ps (row ps ∷ []) []

-- ## Properties: a number for each that is read, 0 where it was not found

abbrev pub no_props : List ℕ
no_props = 0 ∷ 0 ∷ 0 ∷ 0 ∷ 0 ∷ 0 ∷ []

-- each from the first that has it
unfoldable pub merged : List ℕ → List ℕ → List ℕ
merged a b = table (λ q. cond (eqb (get_or a q 0) 0) (get_or b q 0) (get_or a q 0)) 6

-- a rule that begins with no properties, and leaves those that were found before it as they were
unfoldable pub apart : Rule → Rule
apart rule ps ts = let s = rule no_props ts in said s.went ps s.rows s.notes

-- a rule that begins with no properties, and adds what it finds to those that were found before it
unfoldable pub adding : Rule → Rule
adding rule ps ts = let s = rule no_props ts in said s.went (merged ps s.props) s.rows s.notes
