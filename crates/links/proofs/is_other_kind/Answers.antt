-- `links::is_other_kind`: after "data" the second word decides.
use Rattle.common.specs.Words.{sym}
use Rattle.words.specs.Kinds.{ACCESS}
use Rattle.words.specs.Same.{kind_eq}
use Rattle.links.specs.Links.{other_kind}
use Rattle.links.proofs.is_other_kind.Goals as goal

pub returns-in-Data : goal.returns-in-Data
unfolding other_kind
returns-in-Data c = rw c.in-Data.is (sym (kind_eq _ ACCESS c.eq.ensures))
