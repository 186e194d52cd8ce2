-- `phrases::maybe_classifier`.
use Rattle.common.specs.Words.{rules, refl}
use Rattle.words.specs.Words.{is_name}
use Rattle.steps.specs.Steps.{named}
use Rattle.steps.specs.Lifted.{lift}
use Rattle.steps.specs.Laws.{kind_on, kind_off, optional_on, optional_off}
use Rattle.phrases.specs.Phrases.{classifier, maybe_classifier}
use Rattle.phrases.proofs.maybe_classifier.Goals as goal

pub next-requires : goal.next-requires
unfolding maybe_classifier
next-requires c = search rules

pub is_name-requires : goal.is_name-requires
unfolding maybe_classifier
is_name-requires c = search rules

pub classifier-requires : goal.classifier-requires
unfolding maybe_classifier
classifier-requires c = search rules

pub returns-then-is_name : goal.returns-then-is_name
unfolding maybe_classifier
returns-then-is_name c =
    let a = c.args in let s = lift a.text.now a.went in
    rw c.classifier.ensures (optional_on named classifier s (kind_on is_name s refl
    (rw (← c.next.ensures, ← c.is_name.ensures) c.if-is_name.true)))

pub returns : goal.returns
unfolding maybe_classifier
returns c =
    let a = c.args in let s = lift a.text.now a.went in
    optional_off named classifier s (kind_off is_name s (rw (← c.next.ensures, ← c.is_name.ensures) c.if-is_name.false))
