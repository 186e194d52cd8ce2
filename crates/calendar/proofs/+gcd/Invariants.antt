-- `calendar::gcd`: the second number falls with each call.
use Rattle.calendar.proofs.+gcd.Given as goal

abbrev pub decreases-gcd : goal.decreases-gcd
decreases-gcd l = l.b
