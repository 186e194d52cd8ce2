-- `phrases::dotted`.
use Rattle.words.specs.Kinds.{DOT}
use Rattle.words.specs.Same.{told_eq}
use Rattle.steps.specs.Lifted.{lift}
use Rattle.phrases.specs.Laws.{dotted_on, dotted_off}
use Rattle.phrases.proofs.dotted.Goals as goal

pub returns-then-eq : goal.returns-then-eq
returns-then-eq c =
    let a = c.args in
    rw (c.name.ensures, c.symbol.ensures)
    (dotted_on (lift a.text.now a.went) (told_eq DOT c.next.ensures c.if-eq.ensures))

pub returns : goal.returns
returns c =
    let a = c.args in
    dotted_off (lift a.text.now a.went) (told_eq DOT c.next.ensures c.if-eq.ensures)
