-- Document 02, request a: a text's table and plan.
use Rattle.common.specs.Words.{ℕ, Bool, List}
use Rattle.reader.specs.Reader.{answer}
use Rattle.tableplans.specs.TablePlans.{import_by}
use Rattle.tableplans.specs.declared.Import.{Import}

-- "We want the table from that text": the text's table, and its plan, where there is room
unfoldable pub import_of : Bool → List ℕ → Import
import_of room text = let read = answer room text in import_by read.answer read.table
