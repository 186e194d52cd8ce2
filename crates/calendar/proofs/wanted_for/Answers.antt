-- `wanted_for`: the receiver's deadline itself.
use Rattle.common.specs.Words.{sym}
use Rattle.model.specs.Model.{wanted_for}
use Rattle.calendar.proofs.wanted_for.Goals as goal

pub returns : goal.returns
unfolding wanted_for
returns c q e = sym e
