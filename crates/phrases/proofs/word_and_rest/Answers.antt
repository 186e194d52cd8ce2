-- `phrases::word_and_rest`.
use Rattle.steps.specs.Lifted.{lift}
use Rattle.phrases.specs.Laws.{word_then}
use Rattle.phrases.proofs.word_and_rest.Goals as goal

pub returns : goal.returns
returns c = let a = c.args in rw (c.rest.ensures, c.any.ensures) (word_then (lift a.text.now a.went))
