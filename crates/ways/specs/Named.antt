-- The text and the rows whose names are known, and a dictionary of these rows in another role.
use Rattle.common.specs.Words.{ℕ, List}
use Rattle.rows.specs.Rows.{Row}
use Rattle.index.specs.Index.{Indexed}
use Rattle.index.specs.Held.{rows_of}
use Rattle.ways.specs.declared.names.Names.{Names}

abbrev pub text_of : Names → List ℕ
text_of n = n.declared.text.now

abbrev pub all_rows : Names → List Row
all_rows n = rows_of n.declared.rows

abbrev pub InRole : ℕ → Names → List ℕ → Type 0
InRole role n tree = Indexed n.declared.text.now role n.declared.rows.memory.now tree n.declared.rows.count
