-- `words::kind_at`: the table is the list of kinds.
use Rattle.common.specs.Words.{refl}
use Rattle.words.specs.Words.{kinds}
use Rattle.words.proofs.kind_at.Goals as goal

pub returns : goal.returns
unfolding kinds
returns c = refl
