-- `phrases::maybe_block`.
use Rattle.words.specs.Same.{told_eq}
use Rattle.words.specs.Kinds.{OPEN_BRACE}
use Rattle.steps.specs.Lifted.{lift}
use Rattle.values.specs.Values.{block}
use Rattle.phrases.specs.Laws.{maybe_on, maybe_off}
use Rattle.phrases.proofs.maybe_block.Goals as goal

pub returns-then-eq : goal.returns-then-eq
returns-then-eq c =
    let a = c.args in
    rw c.block.ensures (maybe_on OPEN_BRACE block (lift a.text.now a.went) (told_eq OPEN_BRACE c.next.ensures c.if-eq.ensures))

pub returns : goal.returns
returns c =
    let a = c.args in
    maybe_off OPEN_BRACE block (lift a.text.now a.went) (told_eq OPEN_BRACE c.next.ensures c.if-eq.ensures)
