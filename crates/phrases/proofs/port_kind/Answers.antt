-- `phrases::port_kind`.
use Rattle.words.specs.Kinds.{DATA}
use Rattle.words.specs.Same.{told_eq}
use Rattle.steps.specs.Lifted.{lift}
use Rattle.phrases.specs.Laws.{port_data, port_event}
use Rattle.phrases.proofs.port_kind.Goals as goal

pub returns-then-eq : goal.returns-then-eq
returns-then-eq c =
    let a = c.args in
    rw (c.symbol-then-eq.ensures, c.symbol.ensures)
    (port_data (lift a.text.now a.went) (told_eq DATA c.next.ensures c.if-eq.ensures))

pub returns : goal.returns
returns c =
    let a = c.args in
    rw (c.symbol-3.ensures, c.maybe.ensures, c.symbol-2.ensures)
    (port_event (lift a.text.now a.went) (told_eq DATA c.next.ensures c.if-eq.ensures))
