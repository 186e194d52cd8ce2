-- `words::word_kind`: the word that its sum leads to, or no word of the list.
use Rattle.std.specs.Prelude.{◌≡◌, ◌-◌}
use Rattle.common.specs.Words.{rules, sym, ◌∙◌, ap}
use Rattle.common.specs.Stores.{part, part_length}
use Rattle.words.specs.Found.{sum_of, word_at, number_with, kind_found, kind_other, same_length}
use Rattle.words.proofs.word_kind.Goals as goal

pub returns-then-length_of-end : goal.returns-then-length_of-end
returns-then-length_of-end c =
    let k = c.number_with-k in
    let a = c.args in
    let w = part a.text.now a.start (a.end - a.start) in
    let n : k.result ≡ number_with (sum_of w) = k.ensures.0 ∙ ap number_with c.sum_of.ensures.0 in
    let l = part_length a.text.now a.start a.end (search rules) (search rules) in
    sym (kind_other w (rw (← n) (same_length w (word_at k.result) (λ e. c.if-length_of-end.true (c.length_of.ensures ∙ sym e ∙ l)))))

pub returns-then-is_word : goal.returns-then-is_word
returns-then-is_word c =
    let k = c.number_with-k in
    c.kind_at.ensures ∙ sym (kind_found _ k.result k.ensures.1 (sym c.is_word.ensures ∙ c.if-is_word.true))

pub returns : goal.returns
returns c =
    let k = c.number_with-k in
    let a = c.args in
    let w = part a.text.now a.start (a.end - a.start) in
    let n : k.result ≡ number_with (sum_of w) = k.ensures.0 ∙ ap number_with c.sum_of.ensures.0 in
    sym (kind_other w (rw (← n) (sym c.is_word.ensures ∙ c.if-is_word.false)))
