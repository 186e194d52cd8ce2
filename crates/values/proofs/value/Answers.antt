-- `values::value`.
use Rattle.common.specs.Words.{rules}
use Rattle.values.specs.Values.{value}
use Rattle.values.proofs.value.Goals as goal

pub skip_value-requires : goal.skip_value-requires
unfolding value
skip_value-requires c = search rules

pub returns : goal.returns
unfolding value
returns c = c.skip_value.ensures
