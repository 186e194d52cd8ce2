-- `texts::end`.
use Rattle.words.specs.Kinds.{ENDED}
use Rattle.words.specs.Same.{told_eq}
use Rattle.common.specs.Words.{◌∙◌}
use Rattle.steps.specs.Lifted.{lift}
use Rattle.texts.specs.Laws.{finished_on, finished_off}
use Rattle.texts.proofs.end.Goals as goal

pub returns-then-eq : goal.returns-then-eq
returns-then-eq c =
    let a = c.args in
    finished_on (lift a.text.now a.went) (told_eq ENDED c.next.ensures c.if-eq.ensures)

pub returns : goal.returns
returns c =
    let a = c.args in
    c.stop.ensures ∙ finished_off (lift a.text.now a.went) (told_eq ENDED c.next.ensures c.if-eq.ensures)
