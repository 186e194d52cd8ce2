-- `calendar::gcd`: Euclid's rule keeps the divisor.
use Rattle.common.specs.Words.{sym, ◌∙◌, pos_of_ne-zero}
use Rattle.model.proofs.Gcd.{gcd_zero, gcd_step}
use Rattle.calendar.proofs.+gcd.Goals as goal

pub returns-then-b-eq0 : goal.returns-then-b-eq0
returns-then-b-eq0 t c = rw c.if-b-eq0.true (sym (gcd_zero c.args.a))

pub returns-else-b-eq0 : goal.returns-else-b-eq0
returns-else-b-eq0 t c = c.gcd.ensures ∙ sym (gcd_step _ _ (pos_of_ne-zero c.if-b-eq0.false))
