-- `values::values`.
use Rattle.common.specs.Words.{rules}
use Rattle.values.specs.Values.{value, values}
use Rattle.values.proofs.values.Goals as goal

pub skip_values-requires : goal.skip_values-requires
unfolding values value
skip_values-requires c = search rules

pub returns : goal.returns
unfolding values value
returns c = c.skip_values.ensures
