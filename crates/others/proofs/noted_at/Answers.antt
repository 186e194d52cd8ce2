-- `others::noted_at`.
use Rattle.words.specs.Kinds.{APPLIES}
use Rattle.words.specs.Same.{kind_eq}
use Rattle.steps.specs.Faults.{worst}
use Rattle.steps.specs.Worse.{worst_first}
use Rattle.others.specs.Others.{noted_at}
use Rattle.others.proofs.noted_at.Goals as goal

pub returns-then-eq : goal.returns-then-eq
unfolding noted_at worst
returns-then-eq c =
    let a = c.args in
    λ w e. rw (c.noted.ensures, kind_eq a.kind APPLIES c.if-eq.ensures, e, worst_first a.reading.fault w)

pub returns : goal.returns
unfolding noted_at worst
returns c = λ w e. rw (kind_eq c.args.kind APPLIES c.if-eq.ensures)
