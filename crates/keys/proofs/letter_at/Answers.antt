-- `keys::letter_at`.
use Rattle.common.specs.Words.{ap, ◌∙◌}
use Rattle.keys.specs.Keys.{name_byte}
use Rattle.keys.proofs.letter_at.Goals as goal

pub returns : goal.returns
returns c = c.name_byte.ensures ∙ ap name_byte c.byte_at.ensures
