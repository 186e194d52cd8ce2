-- `tokens::shape_at`: by the sort of the first byte.
use Rattle.common.specs.Words.{sym, ◌∙◌, arith}
use Rattle.tokens.specs.declared.Sort.{Sort}
use Rattle.tokens.specs.Sorts.{sort_is}
use Rattle.tokens.specs.Laws.{past_le, shape_word, shape_number, shape_sign}
use Rattle.tokens.proofs.shape_at.Goals as goal

pub kind_of-requires : goal.kind_of-requires
kind_of-requires c =
    let a = c.args in
    (omega (arith, c.past-end.ensures), omega (arith, c.past-end.ensures, past_le a.text.now 2 4 a.at (omega (arith, c.requires))))

pub overflow_sub-result : goal.overflow_sub-result
overflow_sub-result c = omega (arith, c.past-end.ensures)

pub returns-in-Letter : goal.returns-in-Letter
returns-in-Letter c =
    let a = c.args in
    rw c.kind_of.ensures (shape_word a.text.now a.at c.past-end.result c.past-end.ensures (sym c.in-Letter.ensures))

pub returns-in-Digit : goal.returns-in-Digit
returns-in-Digit c =
    let a = c.args in shape_number a.text.now a.at c.number_end.result c.number_end.ensures (sym c.in-Digit.ensures)

pub returns-in_default : goal.returns-in_default
returns-in_default c =
    let a = c.args in
    let s = c.sort_of in
    rw c.sign_at.ensures
    (shape_sign a.text.now a.at (λ e. c.in_default.not-Letter (sort_is s.result Sort.Letter (s.ensures ∙ e)))
    (λ e. c.in_default.not-Digit (sort_is s.result Sort.Digit (s.ensures ∙ e))))
