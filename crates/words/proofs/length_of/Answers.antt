-- `words::length_of`: the table is what is reckoned from the list.
use Rattle.std.specs.Prelude.{◌+◌}
use Rattle.common.specs.Words.{rules, ℕ, ◌∙◌, arith, length}
use Rattle.common.specs.Table.{table, table_at}
use Rattle.words.specs.Letters.{words_by}
use Rattle.words.specs.Words.{listed}
use Rattle.words.specs.Found.{word_at}
use Rattle.words.proofs.length_of.Goals as goal

pub overflow_sub-result : goal.overflow_sub-result
unfolding table words_by listed
overflow_sub-result c =
    omega (arith, c.wide.ensures.0 ∙ table_at (λ (k : ℕ). 96 + length (word_at k)) 82 c.args.k 0 (search rules))

pub returns : goal.returns
unfolding table words_by listed
returns c =
    omega (arith, c.wide.ensures.0 ∙ table_at (λ (k : ℕ). 96 + length (word_at k)) 82 c.args.k 0 (search rules))
