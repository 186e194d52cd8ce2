-- `times::priorities::priority_of`: with a point, too great, and as it is wanted.
use Rattle.common.specs.Words.{rules}
use Rattle.times.specs.PriorityLaws.{priority_point, priority_over, priority_good}
use Rattle.times.proofs.priorities.priority_of.Goals as goal

pub returns-then-s : goal.returns-then-s
returns-then-s c =
    let a = c.args in
    rw (c.unformed.ensures, c.unfit.ensures)
    (priority_point a.text.now a.number c.sum_of-s.result c.sum_of-s.ensures.0 c.if-s.true)

pub returns-then-s-gt-MOST : goal.returns-then-s-gt-MOST
returns-then-s-gt-MOST c =
    let a = c.args in
    rw c.odd.ensures
    (priority_over a.text.now a.number c.sum_of-s.result c.sum_of-s.ensures.0 c.if-s.false (search rules))

pub returns : goal.returns
returns c =
    let a = c.args in
    priority_good a.text.now a.number c.sum_of-s.result c.sum_of-s.ensures.0 c.if-s.false (search rules)
