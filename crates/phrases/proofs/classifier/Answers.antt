-- `phrases::classifier`.
use Rattle.steps.specs.Lifted.{lift}
use Rattle.phrases.specs.Laws.{classifier_then}
use Rattle.phrases.proofs.classifier.Goals as goal

pub returns : goal.returns
returns c =
    let a = c.args in
    rw (c.dotted.ensures, c.name.ensures, c.scopes.ensures) (classifier_then (lift a.text.now a.went))
