-- `Dictionary::is_first`.
use Rattle.common.specs.Words.{◌∙◌}
use Rattle.index.specs.Options.{same_row}
use Rattle.index.specs.Laws.{row_in}
use Rattle.index.proofs.dictionary.Dictionary.is_first.Goals as goal

pub returns : goal.returns
returns g c =
    rw (row_in c.args.self.now.rows.count c.args.self.now.rows.memory.now c.args.k c.requires)
    (rw c.first_like.ensures at c.eq.ensures ∙ same_row _ _)
