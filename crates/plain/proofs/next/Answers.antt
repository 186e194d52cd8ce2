-- `plain::next`: by what the byte stands in.
use Rattle.common.specs.Words.{false, refl, sym, ◌∙◌}
use Rattle.plain.specs.Close.{step_left, step_begun}
use Rattle.plain.proofs.next.Goals as goal

pub returns-in-Rest : goal.returns-in-Rest
returns-in-Rest c = rw c.in-Rest.is (sym (step_left _ _ false c.in-Rest.left c.if-left-gt0.true))

pub returns-in-Rest-2 : goal.returns-in-Rest-2
returns-in-Rest-2 c = rw c.in-Rest.is (c.begun.ensures ∙ sym (step_begun _ _ false c.in-Rest.left c.if-left-gt0.false refl))
