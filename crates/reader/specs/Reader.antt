-- AADL.md, section 6: a text's faults, and what it is answered with.
use Rattle.std.specs.Prelude.{◌+◌, ◌*◌, ◌^◌, ◌<◌, ◌≤◌, ◌&&◌, ◌∷◌, ◌++◌, Option, None, Some}
use Rattle.common.specs.Words.{ℕ, Bool, cond, List, [], ltb, leb, length, take}
use Rattle.plain.specs.Plain.{plain_of}
use Rattle.tokens.specs.Tokens.{from}
use Rattle.steps.specs.declared.faults.Fault.{Fault}
use Rattle.steps.specs.declared.faults.Rule.TheVariants.{Unfit}
use Rattle.steps.specs.declared.faults.Why.{Why}
use Rattle.steps.specs.Faults.{fault, no_fault, worst}
use Rattle.steps.specs.Steps.{Step, On, Stop}
use Rattle.steps.specs.Lifted.{lift}
use Rattle.rows.specs.declared.Reading.{Reading}
use Rattle.rows.specs.Said.{Said, no_props}
use Rattle.texts.specs.Texts.{whole_text}
use Rattle.verdict.specs.Verdict.{judged}
use Rattle.index.specs.Index.{rows_in}
use Rattle.rows.specs.Rows.{row_words}
use Rattle.kit.specs.Kit.{table_of, Ranked}
use Rattle.findings.specs.declared.Read.{Read}
use Rattle.findings.specs.declared.Table.{Table}
use Rattle.findings.specs.Findings.{sound, refused, no_room, no_table, answered}

-- ## Faults

-- "The text is bytes, at most 262,144"
abbrev pub most_bytes : ℕ
most_bytes = 262144

-- "Of a text of more than 262,144 bytes the first 262,144 are read as if they were all"
abbrev pub plain_text : List ℕ → List ℕ
plain_text text = plain_of (take most_bytes text)

unfoldable pub read_from : List ℕ → Said
read_from p = whole_text no_props (from p 0)

-- what "ends the reading"; "Only a text that was read to its end is judged"
abbrev pub end_faults : Step → Bool → List Fault → List Fault
end_faults (Stop f) long fs = f ∷ []
end_faults (On ts) long fs = cond long [] fs

-- for people: the text is too long
abbrev pub too_long : Why
too_long = Why.TooLong

-- "20 at 262,144 is then noted, and it is judged no further"
abbrev pub long_faults : Bool → List Fault
long_faults long = cond long (fault Unfit most_bytes too_long ∷ []) []

-- the faults of a plain text, and of one that is longer
unfoldable pub faults_in : List ℕ → Bool → List Fault
faults_in p long = (read_from p).notes ++ long_faults long ++ end_faults (read_from p).went long (judged p (read_from p).rows)

unfoldable pub faults_of : List ℕ → List Fault
faults_of text = faults_in (plain_text text) (ltb most_bytes (length text))

-- ## The answer

-- "The least place decides, at one place the lower number": the table, or the refusal by the least fault
unfoldable pub answer_by : Option Fault → Table → Read
answer_by None t = answered sound t
answer_by (Some f) t = answered (refused f) no_table

unfoldable pub answer_plain : List ℕ → Bool → Read
answer_plain p long = answer_by (worst no_fault (faults_in p long)) (table_of p (read_from p).rows)

unfoldable pub read_of : List ℕ → Read
read_of text = answer_plain (plain_text text) (ltb most_bytes (length text))

-- the same from what the code knows when a plain text was read: its rows in memory, and a reading
unfoldable pub answer_read : List ℕ → List ℕ → Reading → Bool → Read
answer_read p m r long =
    let rows = rows_in r.count m in
    answer_by (worst (worst r.fault (long_faults long)) (end_faults (lift p r.went) long (judged p rows))) (table_of p rows)

-- ## Room

-- what a text can need: a row has 9 bytes of it at least and 10 numbers in memory, a dictionary two entries for each row and two more
abbrev pub most_rows : ℕ
most_rows = 29127

abbrev pub rows_room : ℕ
rows_room = 291270

abbrev pub tree_room : ℕ
tree_room = 58256

-- whether so much lent memory is enough for any text, whatever the text
unfoldable pub enough : ℕ → ℕ → ℕ → ℕ → ℕ → ℕ → Bool
enough plain rows declared connected queued types =
    leb most_bytes plain && (leb rows_room rows && (leb tree_room declared &&
    (leb tree_room connected && (leb tree_room queued && leb most_rows types))))

unfoldable pub answer : Bool → List ℕ → Read
answer room text = cond room (read_of text) (answered no_room no_table)

-- so many rows fit, and no Priority of theirs is over 255
pub record Fitting (count : ℕ) (rows declared connected queued types : List ℕ) : Type 0 where
  pub held : row_words * count ≤ length rows
  pub few : count < 2 ^ 31
  pub named : 2 * count + 2 ≤ length declared
  pub joined : 2 * count + 2 ≤ length connected
  pub lined : 2 * count + 2 ≤ length queued
  pub typed : count ≤ length types
  pub ranked : Ranked (rows_in count rows)
