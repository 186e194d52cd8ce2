-- `phrases::link_kind`.
use Rattle.words.specs.Kinds.{PORT}
use Rattle.words.specs.Same.{told_eq}
use Rattle.steps.specs.Lifted.{lift}
use Rattle.phrases.specs.Laws.{link_port, link_other}
use Rattle.phrases.proofs.link_kind.Goals as goal

pub returns-then-eq : goal.returns-then-eq
returns-then-eq c =
    let a = c.args in
    rw c.symbol.ensures (link_port (lift a.text.now a.went) (told_eq PORT c.next.ensures c.if-eq.ensures))

pub returns : goal.returns
returns c =
    let a = c.args in
    rw c.port_kind.ensures (link_other (lift a.text.now a.went) (told_eq PORT c.next.ensures c.if-eq.ensures))
