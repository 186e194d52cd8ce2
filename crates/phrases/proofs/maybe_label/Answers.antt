-- `phrases::maybe_label`.
use Rattle.common.specs.Words.{rules, refl}
use Rattle.words.specs.Words.{is_name}
use Rattle.steps.specs.Steps.{named}
use Rattle.steps.specs.Lifted.{lift}
use Rattle.steps.specs.Laws.{kind_on, kind_off, optional_on, optional_off}
use Rattle.phrases.specs.Phrases.{label, maybe_label}
use Rattle.phrases.proofs.maybe_label.Goals as goal

pub next-requires : goal.next-requires
unfolding maybe_label
next-requires c = search rules

pub is_name-requires : goal.is_name-requires
unfolding maybe_label
is_name-requires c = search rules

pub label-requires : goal.label-requires
unfolding maybe_label
label-requires c = search rules

pub returns-then-is_name : goal.returns-then-is_name
unfolding maybe_label
returns-then-is_name c =
    let a = c.args in let s = lift a.text.now a.went in
    rw c.label.ensures (optional_on named label s (kind_on is_name s refl
    (rw (← c.next.ensures, ← c.is_name.ensures) c.if-is_name.true)))

pub returns : goal.returns
unfolding maybe_label
returns c =
    let a = c.args in let s = lift a.text.now a.went in
    optional_off named label s (kind_off is_name s (rw (← c.next.ensures, ← c.is_name.ensures) c.if-is_name.false))
