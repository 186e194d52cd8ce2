-- `values::associations`: what is left to pass ends where the whole does.
use Rattle.common.specs.Words.{rules, refl, ◌∙◌}
use Rattle.words.specs.Words.{is_name}
use Rattle.steps.specs.Steps.{named}
use Rattle.steps.specs.Lifted.{lift}
use Rattle.steps.specs.Laws.{kind_on, kind_off, advances, many_on, many_off, many_less}
use Rattle.values.specs.Values.{association, associations}
use Rattle.values.specs.Laws.{association_moves}
use Rattle.values.proofs.associations.Goals as goal

pub loop-w-init : goal.loop-w-init
unfolding associations
loop-w-init c = refl

pub next-requires : goal.next-requires
unfolding associations
next-requires c = search rules

pub is_name-requires : goal.is_name-requires
unfolding associations
is_name-requires c = search rules

pub association-w-requires : goal.association-w-requires
unfolding associations
association-w-requires c = search rules

pub loop-w-smaller : goal.loop-w-smaller
unfolding associations
loop-w-smaller c =
    let s = lift c.args.text.now c.loop-w.w in
    rw c.association-w.ensures (many_less named association (advances named association_moves) s
    (kind_on is_name s refl (rw (← c.next.ensures, ← c.is_name.ensures) c.loop-w-test.true)))

pub loop-w-preserved : goal.loop-w-preserved
unfolding associations
loop-w-preserved c =
    let s = lift c.args.text.now c.loop-w.w in
    rw c.association-w.ensures (many_on named association (advances named association_moves) s
    (kind_on is_name s refl (rw (← c.next.ensures, ← c.is_name.ensures) c.loop-w-test.true)) ∙ c.loop-w.invariant)

pub returns : goal.returns
unfolding associations
returns c =
    let s = lift c.args.text.now c.loop-w.w in
    many_off named association (advances named association_moves) s
    (kind_off is_name s (rw (← c.next.ensures, ← c.is_name.ensures) c.loop-w-test.false)) ∙ c.loop-w.invariant
