-- `declarations::maybe_extends`.
use Rattle.words.specs.Kinds.{EXTENDS}
use Rattle.words.specs.Same.{told_ne}
use Rattle.steps.specs.Lifted.{lift}
use Rattle.declarations.specs.Laws.{extends_on, extends_off}
use Rattle.declarations.proofs.maybe_extends.Goals as goal

pub returns-then-ne : goal.returns-then-ne
returns-then-ne c = let a = c.args in extends_off (lift a.text.now a.went)
    (told_ne EXTENDS c.next.ensures c.if-ne.ensures)

pub returns : goal.returns
returns c =
    let a = c.args in
    rw (c.classifier.ensures, c.symbol.ensures) (extends_on (lift a.text.now a.went)
    (told_ne EXTENDS c.next.ensures c.if-ne.ensures))
