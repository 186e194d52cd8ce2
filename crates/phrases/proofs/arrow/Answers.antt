-- `phrases::arrow`.
use Rattle.words.specs.Kinds.{DELAYING}
use Rattle.words.specs.Same.{told_eq}
use Rattle.steps.specs.Lifted.{lift}
use Rattle.phrases.specs.Laws.{arrow_delaying, arrow_plain}
use Rattle.phrases.proofs.arrow.Goals as goal

pub returns-then-eq : goal.returns-then-eq
returns-then-eq c =
    let a = c.args in
    rw c.symbol.ensures (arrow_delaying (lift a.text.now a.went) (told_eq DELAYING c.next.ensures c.if-eq.ensures))

pub returns : goal.returns
returns c =
    let a = c.args in
    rw c.symbol-2.ensures (arrow_plain (lift a.text.now a.went) (told_eq DELAYING c.next.ensures c.if-eq.ensures))
