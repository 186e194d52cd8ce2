-- `plain::lower`.
use Rattle.common.specs.Words.{◌∙◌}
use Rattle.plain.specs.Case.{lower_is}
use Rattle.plain.proofs.lower.Goals as goal

pub returns : goal.returns
returns c = c.to_ascii_lowercase.ensures.value ∙ lower_is c.args.b
