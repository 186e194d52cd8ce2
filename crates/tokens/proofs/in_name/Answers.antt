-- `tokens::in_name`: of the sort that the byte has.
use Rattle.common.specs.Words.{◌∙◌}
use Rattle.tokens.specs.Sorts.{in_names}
use Rattle.tokens.proofs.in_name.Goals as goal

pub returns : goal.returns
returns c = rw (← c.sort_of.ensures) (c.le.ensures ∙ in_names c.sort_of.result)
