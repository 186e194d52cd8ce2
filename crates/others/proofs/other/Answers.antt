-- `others::other`.
use Rattle.std.specs.Prelude.{◌≡◌}
use Rattle.common.specs.Words.{[], ap, ◌∙◌}
use Rattle.steps.specs.Steps.{any}
use Rattle.rows.specs.Said.{quiet}
use Rattle.rows.specs.States.{State, state_of, does}
use Rattle.rows.specs.Laws.{does_quiet}
use Rattle.others.specs.Others.{passing, path_end, outside_kind}
use Rattle.others.specs.Laws.{other_does}
use Rattle.others.proofs.other.Goals as goal

pub returns : goal.returns
returns c =
    let a = c.args in
    λ m. let s = state_of a.text.now a.reading m in
    let inner = state_of a.text.now c.passed-inner.result m in
    let first : state_of a.text.now c.on.result m ≡ does s (quiet any) =
    rw (c.on.ensures, c.any.ensures) (does_quiet s any) in
    rw (c.on-2.ensures, c.path_end.ensures)
    (does_quiet inner path_end
    ∙ ap (λ (t : State). does t (quiet path_end)) (c.passed-inner.ensures m
    ∙ ap (λ (t : State). does t (passing c.is_outside-outside.result [])) first)
    ∙ other_does s c.is_outside-outside.result (c.is_outside-outside.ensures ∙ ap outside_kind c.next_of.ensures))
