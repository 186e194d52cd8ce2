-- `words::number_with`: the table is what is reckoned from the list.
use Rattle.std.specs.Prelude.{◌≡◌, ◌+◌, ◌-◌, ◌<◌, ◌≤◌}
use Rattle.common.specs.Words.{ℕ, refl, ◌∙◌, arith, true, ltb, ltb-true}
use Rattle.common.proofs.Rows.{every, every_at}
use Rattle.common.specs.Table.{table, table_at}
use Rattle.words.specs.Letters.{words_by}
use Rattle.words.specs.Words.{listed}
use Rattle.words.specs.Found.{sum_by, number_by, number_with}
use Rattle.words.proofs.number_with.Goals as goal

all_low : every (λ s. ltb (number_with s) 82) 385 ≡ true
unfolding every sum_by number_by words_by listed
all_low = refl

low : (s : ℕ) → s < 385 → number_with s < 82
low s l = ltb-true (number_with s) 82 (every_at (λ s. ltb (number_with s) 82) 385 s all_low l)

over : (r n : ℕ) → r ≡ 35 + n → 35 ≤ r
over r n e = omega arith

less : (r n : ℕ) → r ≡ 35 + n → n < 82 → (r - 35 ≡ n) × (r - 35 < 82)
less r n e l = (omega arith, omega arith)

pub overflow_sub-result : goal.overflow_sub-result
unfolding table sum_by number_by words_by listed
overflow_sub-result c =
    let s = c.args.sum in
    over _ (number_with s) (c.wide.ensures.0 ∙ table_at (λ (s : ℕ). 35 + number_with s) 385 s 0 c.requires)

pub returns : goal.returns
unfolding table sum_by number_by words_by listed
returns c =
    let s = c.args.sum in
    less _ (number_with s) (c.wide.ensures.0 ∙ table_at (λ (s : ℕ). 35 + number_with s) 385 s 0 c.requires) (low s c.requires)
