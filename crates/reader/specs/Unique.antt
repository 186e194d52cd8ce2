-- The contract of the reader's call determines its answer: two results that both meet it are equal.
use Rattle.std.specs.Prelude.{◌≡◌}
use Rattle.common.specs.Words.{ℕ, Bool, List, sym, ◌∙◌}
use Rattle.findings.specs.declared.Read.{Read}
use Rattle.reader.specs.Reader.{answer}

abbrev pub ReadGives : Bool → List ℕ → Read → Type 0
ReadGives room text r = r ≡ answer room text

pub read_table_unique : (room : Bool) (text : List ℕ) (r s : Read) → ReadGives room text r → ReadGives room text s → r ≡ s
read_table_unique room text r s a b = a ∙ sym b
