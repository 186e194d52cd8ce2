-- `words::is_word`: the words stand one after another as the list has them.
use Rattle.std.specs.Prelude.{◌≡◌}
use Rattle.common.specs.Words.{rules, ℕ, ◌∙◌, ap, arith, List, length}
use Rattle.common.specs.Stores.{part}
use Rattle.words.specs.Letters.{words_by, same}
use Rattle.words.specs.Words.{listed}
use Rattle.words.specs.Found.{word_at, padded, entry}
use Rattle.words.proofs.is_word.Goals as goal

pub alike-requires : goal.alike-requires
alike-requires c =
    let a = c.args in
    (search rules, omega (arith, (entry a.k (search rules)).room))

pub returns : goal.returns
unfolding padded words_by listed
returns c =
    let a = c.args in
    let n : a.n ≡ length (word_at a.k) = search rules in
    c.alike.ensures
    ∙ ap (λ (w : List ℕ). same (part a.text.now a.start a.n) w) (rw n (entry a.k (search rules)).written)
