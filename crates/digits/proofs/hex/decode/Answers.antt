-- `digits::hex::decode`: a line too long, one of an odd number of bytes, and a line of pairs, which are digits or not.
use Rattle.common.specs.Words.{sym, ◌∙◌, rules}
use Rattle.digits.specs.HexLaws.{decoded_long, decoded_odd, decoded_bytes, decoded_bad}
use Rattle.digits.proofs.hex.decode.Goals as goal
use Rattle.digits.proofs.hex.decode.Goals.{then-line-gt-LONGEST-via-then-line-gt-LONGEST}
use Rattle.digits.proofs.hex.decode.Goals.{then-line-gt-LONGEST-via-else-line-gt-LONGEST+then-line-ne0}

pub returns-then-line-gt-LONGEST : goal.returns-then-line-gt-LONGEST
returns-then-line-gt-LONGEST c =
    elim c.then-line-gt-LONGEST.branch [
      | then-line-gt-LONGEST-via-then-line-gt-LONGEST w ↦ decoded_long _ _ (search rules)
      | then-line-gt-LONGEST-via-else-line-gt-LONGEST+then-line-ne0 w ↦ decoded_odd _ _ (search rules) (search rules)
    ]

pub returns-then-decode_pairs : goal.returns-then-decode_pairs
returns-then-decode_pairs c =
    let is = c.decode_pairs.ensures in
    decoded_bytes _ _ (search rules) (search rules) _ is.1 (sym is.0 ∙ c.if-decode_pairs.true)

pub returns-else-decode_pairs : goal.returns-else-decode_pairs
returns-else-decode_pairs c =
    let is = c.decode_pairs.ensures in
    decoded_bad _ _ (search rules) (search rules) _ is.1 (sym is.0 ∙ c.if-decode_pairs.false)
