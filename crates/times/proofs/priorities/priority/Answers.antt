-- `times::priorities::priority`: nothing there, no number, and a number.
use Rattle.words.specs.Same.{kind_ne, kind_is, kind_apart}
use Rattle.words.specs.Kinds.{NUMBER, ENDED}
use Rattle.times.specs.Priorities.{priority}
use Rattle.times.specs.Laws.{stopped_before, number_there}
use Rattle.times.specs.PriorityLaws.{priority_unfit, priority_number}
use Rattle.times.proofs.priorities.priority.Goals as goal

pub returns-in_default : goal.returns-in_default
returns-in_default c =
    let a = c.args in
    rw c.unformed.ensures (stopped_before a.text.now priority a.went _ c.in_default.is)

pub returns-then-ne : goal.returns-then-ne
returns-then-ne c =
    let n = c.spot_at-number in
    rw (c.in-Ok.is, c.unformed-then-ne.ensures, c.unfit.ensures)
    (priority_unfit c.args.text.now _ n.result n.ensures (kind_ne n.result.kind NUMBER c.if-ne.ensures))

pub priority_of-requires : goal.priority_of-requires
priority_of-requires c =
    let n = c.spot_at-number in
    (n.ensures.forward, n.ensures.within (kind_apart _ ENDED (number_there _ (kind_ne n.result.kind NUMBER c.if-ne.ensures))))

pub returns : goal.returns
returns c =
    let n = c.spot_at-number in
    rw (c.in-Ok.is, priority_number c.args.text.now _ n.result n.ensures (kind_is _ NUMBER (kind_ne n.result.kind NUMBER c.if-ne.ensures)))
    c.priority_of.ensures
