-- `texts::packaged`.
use Rattle.std.specs.Prelude.{◌≡◌}
use Rattle.common.specs.Words.{ap, ◌∙◌}
use Rattle.rows.specs.Said.{quiet}
use Rattle.rows.specs.States.{State, state_of, does}
use Rattle.rows.specs.Laws.{does_quiet}
use Rattle.others.specs.Others.{path_end}
use Rattle.texts.specs.Texts.{parts, package_head}
use Rattle.texts.specs.Laws.{head_then, package_does}
use Rattle.texts.proofs.packaged.Goals as goal

pub returns : goal.returns
returns c =
    let a = c.args in
    let p = a.text.now in let m = a.rows.now in let s = state_of p a.reading m in
    let inner = state_of p c.parts-inner.result c.parts-inner.new.rows in
    let behind : state_of p c.on-head.result m ≡ does s (quiet package_head) =
    rw (c.on-head.ensures, c.path.ensures, c.symbol.ensures, head_then s.went) (does_quiet s package_head) in
    rw (c.on.ensures, c.path_end.ensures)
    (does_quiet inner path_end
    ∙ ap (λ (t : State). does t (quiet path_end)) (c.parts-inner.ensures ∙ ap (λ (t : State). does t parts) behind)
    ∙ package_does s)
