-- `features::direction_of`.
use Rattle.words.specs.Kinds.{IN, OUT}
use Rattle.words.specs.Same.{told_ne}
use Rattle.words.specs.Same.{told_eq}
use Rattle.steps.specs.Lifted.{lift}
use Rattle.features.specs.Laws.{way_out, way_both, way_in}
use Rattle.features.proofs.direction_of.Goals as goal

pub returns-then-ne : goal.returns-then-ne
returns-then-ne c = let a = c.args in way_out (lift a.text.now a.went) (told_ne IN c.next.ensures c.if-ne.ensures)

pub returns-then-eq : goal.returns-then-eq
returns-then-eq c =
    let a = c.args in
    way_both (lift a.text.now a.went) (told_ne IN c.next.ensures c.if-ne.ensures) (told_eq OUT c.second.ensures c.if-eq.ensures)

pub returns : goal.returns
returns c =
    let a = c.args in
    way_in (lift a.text.now a.went) (told_ne IN c.next.ensures c.if-ne.ensures) (told_eq OUT c.second.ensures c.if-eq.ensures)
