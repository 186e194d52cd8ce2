-- `tokens::number_end`: the digits, and those behind a point.
use Rattle.common.specs.Words.{sym, ap, refl}
use Rattle.tokens.specs.declared.Sort.{Sort}
use Rattle.tokens.specs.contracts.Sort.{the_type}
use Rattle.tokens.specs.Tokens.{rank}
use Rattle.tokens.specs.Sorts.{sort_is}
use denote.Enum.Bare.{differs_true, differs_false}
use Rattle.common.specs.Words.{rules, ◌∙◌, arith}
use Rattle.tokens.specs.Tokens.{number_width}
use Rattle.tokens.specs.Laws.{past_le, number_plain, number_ends, number_goes}
use Rattle.tokens.proofs.number_end.Goals as goal

pub past-end-requires : goal.past-end-requires
unfolding number_width
past-end-requires c = search rules

pub byte_at-requires : goal.byte_at-requires
unfolding number_width
byte_at-requires c = search rules

pub returns-then-byte_at-ne46 : goal.returns-then-byte_at-ne46
unfolding number_width
returns-then-byte_at-ne46 c =
    let a = c.args in
    number_plain a.text.now a.at c.past-end.result c.past-end.ensures (rw (← c.byte_at.ensures) c.if-byte_at-ne46.true)

pub overflow_add-end : goal.overflow_add-end
unfolding number_width
overflow_add-end c =
    let a = c.args in
    omega (arith, c.past-end.ensures, past_le a.text.now 3 4 a.at (search rules))

pub byte_at-requires-2 : goal.byte_at-requires-2
unfolding number_width
byte_at-requires-2 c = search rules

pub sort_of-requires : goal.sort_of-requires
unfolding number_width
sort_of-requires c = search rules

pub returns-then-ne : goal.returns-then-ne
unfolding number_width
returns-then-ne c =
    let a = c.args in
    number_ends a.text.now a.at c.past-end.result c.past-end.ensures
    (λ e. differs_true the_type c.sort_of.result Sort.Digit (sym c.if-ne.ensures)
    (sort_is c.sort_of.result Sort.Digit (c.sort_of.ensures ∙ rw c.byte_at-2.ensures e)))

pub overflow_add-end-2 : goal.overflow_add-end-2
unfolding number_width
overflow_add-end-2 c =
    let a = c.args in
    omega (arith, c.past-end.ensures, past_le a.text.now 3 4 a.at (search rules))

pub past-requires : goal.past-requires
unfolding number_width
past-requires c = search rules

pub returns : goal.returns
unfolding number_width
returns c =
    let a = c.args in
    c.past.ensures ∙ number_goes a.text.now a.at c.past-end.result c.past-end.ensures
    (rw (← c.byte_at.ensures) c.if-byte_at-ne46.false)
    (sym (c.sort_of.ensures ∙ rw c.byte_at-2.ensures refl) ∙
    ap rank (differs_false the_type tt c.sort_of.result Sort.Digit (sym c.if-ne.ensures)))
