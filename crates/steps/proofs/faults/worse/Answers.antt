-- `steps::faults::worse`: arm by arm.
use Rattle.common.specs.Words.{sym, ◌∙◌}
use Rattle.steps.specs.Faults.{worse}
use Rattle.steps.specs.Worse.{none_worse}
use Rattle.steps.proofs.faults.worse.Goals as goal

pub returns-in_default-None : goal.returns-in_default-None
unfolding worse
returns-in_default-None c = rw c.in_default-None.is-1

pub returns-in-None-default : goal.returns-in-None-default
returns-in-None-default c = rw c.in-None-default.is-0 (sym (none_worse c.args.b))

pub returns-in-Some-Some : goal.returns-in-Some-Some
unfolding worse
returns-in-Some-Some c = rw (c.in-Some-Some.is-0, c.in-Some-Some.is-1, sym c.lies_before.ensures ∙ c.if-lies_before.true)

pub returns-in-Some-Some-2 : goal.returns-in-Some-Some-2
unfolding worse
returns-in-Some-Some-2 c = rw (c.in-Some-Some.is-0, c.in-Some-Some.is-1, sym c.lies_before.ensures ∙ c.if-lies_before.false)
