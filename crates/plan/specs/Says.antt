-- What an answer says in document 01's numbers: a code, and values. A refusal has the console's code for it, 7f; its values are the number of
-- its line in the table, and the row that it names.
use Rattle.std.specs.Prelude.{◌∷◌}
use Rattle.common.specs.Words.{ℕ, List, []}
use Rattle.plan.specs.Refusals.{number_of}
use Rattle.plan.specs.declared.refusal.Refusal.{Refusal}

abbrev pub Said : Type 0
Said = ℕ × List ℕ

abbrev pub refused_says : Refusal → Said
refused_says r = (0x7f, number_of r.rule ∷ r.row ∷ [])

-- "all others name 0"
abbrev pub no : ℕ → Said
no line = (0x7f, line ∷ 0 ∷ [])
