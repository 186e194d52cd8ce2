-- The contract of `plan_text` determines the outcome: two results that both meet it are equal.
use Rattle.std.specs.Prelude.{◌≡◌}
use Rattle.common.specs.Words.{ℕ, Bool, List, sym, ◌∙◌}
use Rattle.imports.specs.Imports.{import_of}
use Rattle.tableplans.specs.declared.Import.{Import}

abbrev pub ImportGives : Bool → List ℕ → Import → Type 0
ImportGives room text r = r ≡ import_of room text

pub plan_text_unique : (room : Bool) (text : List ℕ) (r s : Import) → ImportGives room text r → ImportGives room text s → r ≡ s
plan_text_unique room text r s a b = a ∙ sym b
