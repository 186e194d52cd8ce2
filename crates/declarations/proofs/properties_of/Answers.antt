-- `declarations::properties_of`.
use Rattle.rows.specs.Rows.{begun_by}
use Rattle.std.specs.Prelude.{◌≡◌}
use Rattle.common.specs.Words.{refl, arith, ap, ◌∙◌}
use Rattle.rows.specs.Rows.{a_process}
use Rattle.rows.specs.declared.sort.Sort.{Sort}
use Rattle.rows.specs.States.{State, state_of, does}
use Rattle.rows.specs.Laws.{fresh, with_props, does_adding, stopped_stays}
use Rattle.rows.specs.Said.{merged}
use Rattle.properties.specs.Properties.{of_thread, properties_in}
use Rattle.declarations.specs.Sections.{properties_of}
use Rattle.declarations.specs.SectionLaws.{properties_noted, properties_added}
use Rattle.declarations.proofs.properties_of.Goals as goal

apart : (s : Sort) → (s ≡ Sort.Process → ⊥) → begun_by s ≡ a_process → ⊥
apart Sort.Process n e = n refl
apart Sort.Type n e = omega (arith, e)
apart Sort.Implementation n e = omega (arith, e)
apart Sort.Port n e = omega (arith, e)
apart Sort.Thread n e = omega (arith, e)
apart Sort.Link n e = omega (arith, e)
apart Sort.Connection n e = omega (arith, e)
apart Sort.Queue n e = omega (arith, e)

pub returns-in-Process : goal.returns-in-Process
returns-in-Process c =
    let a = c.args in
    λ m. c.properties_in.ensures m ∙ properties_noted (begun_by a.of) (state_of a.text.now a.reading m) (ap begun_by c.in-Process.is)

pub returns-in_default-went : goal.returns-in_default-went
returns-in_default-went c =
    let a = c.args in
    λ m. stopped_stays a.text.now a.reading m (properties_of (begun_by a.of)) _ c.in_default-went.is

pub returns : goal.returns
returns c =
    let a = c.args in
    λ m. let s = state_of a.text.now a.reading m in
    let e : state_of a.text.now c.with_props.result m ≡ fresh s = rw c.with_props.ensures in
    let f : state_of a.text.now c.properties_in-inner.result m ≡ does (fresh s) (properties_in of_thread) =
    c.properties_in-inner.ensures m ∙ ap (λ (t : State). does t (properties_in of_thread)) e in
    rw (c.with_props-2.ensures, c.merged.ensures)
    (ap (λ (t : State). with_props (merged s.props t.props) t) f
    ∙ does_adding s (properties_in of_thread) (rw c.in-Ok.is) ∙ properties_added (begun_by a.of) s (apart a.of c.in_default.not-Process))
