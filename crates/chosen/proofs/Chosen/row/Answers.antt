-- `Chosen::row`.
use Rattle.std.specs.Prelude.{Some, None}
use Rattle.chosen.specs.Laws.{at_there, at_beyond}
use Rattle.chosen.proofs.Chosen.row.Goals as goal

pub returns-then-i-self : goal.returns-then-i-self
returns-then-i-self c ks e = at_there ks e Some None c.args.i c.requires c.if-i-self.true

pub returns-else-i-self : goal.returns-else-i-self
returns-else-i-self c ks e = at_beyond ks e Some None c.args.i c.if-i-self.false
