-- `properties::property_at`: by the first name, or the second behind its set.
use Rattle.std.specs.Prelude.{◌≡◌}
use Rattle.common.specs.Words.{ap, sym, ◌∙◌}
use Rattle.words.specs.declared.kinds.Kind.{Kind}
use Rattle.words.specs.Kinds.{SCOPE}
use Rattle.words.specs.Same.{same_kind, told_eq, told_ne}
use Rattle.steps.specs.Lifted.{lift, first_kind, second_kind}
use Rattle.properties.specs.Properties.{named_by, set_of, inner_name}
use Rattle.properties.specs.Laws.{property_plain, property_longer, property_set, property_other}
use Rattle.properties.proofs.property_at.Goals as goal

pub returns-then-ne : goal.returns-then-ne
returns-then-ne c =
    let a = c.args in
    rw (c.named_by.ensures, c.next-kind.ensures) (property_plain (lift a.text.now a.went)
    (told_ne SCOPE c.second.ensures c.if-ne.ensures))

pub returns-then-eq : goal.returns-then-eq
returns-then-eq c =
    let a = c.args in
    let s = lift a.text.now a.went in
    let i : lift a.text.now c.any-inner.result ≡ inner_name s = rw (c.any-inner.ensures, c.any.ensures) in
    property_longer s (told_ne SCOPE c.second.ensures c.if-ne.ensures)
    (told_eq SCOPE (c.second-2.ensures ∙ ap second_kind i) c.if-eq.ensures)

pub returns-then-eq-2 : goal.returns-then-eq-2
returns-then-eq-2 c =
    let a = c.args in
    let s = lift a.text.now a.went in
    let i : lift a.text.now c.any-inner.result ≡ inner_name s = rw (c.any-inner.ensures, c.any.ensures) in
    let n : c.named_by-property.result ≡ named_by (first_kind (inner_name s)) =
    c.named_by-property.ensures ∙ ap named_by (c.next.ensures ∙ ap first_kind i) in
    n ∙ property_set s (told_ne SCOPE c.second.ensures c.if-ne.ensures)
    (told_eq SCOPE (c.second-2.ensures ∙ ap second_kind i) c.if-eq.ensures)
    (ap (λ (k : Kind). same_kind (first_kind s) k) (sym (c.set_of.ensures ∙ ap set_of n)) ∙
    told_eq c.set_of.result c.next-kind.ensures c.if-eq-2.ensures)

pub returns : goal.returns
returns c =
    let a = c.args in
    let s = lift a.text.now a.went in
    let i : lift a.text.now c.any-inner.result ≡ inner_name s = rw (c.any-inner.ensures, c.any.ensures) in
    let n : c.named_by-property.result ≡ named_by (first_kind (inner_name s)) =
    c.named_by-property.ensures ∙ ap named_by (c.next.ensures ∙ ap first_kind i) in
    property_other s (told_ne SCOPE c.second.ensures c.if-ne.ensures)
    (told_eq SCOPE (c.second-2.ensures ∙ ap second_kind i) c.if-eq.ensures)
    (ap (λ (k : Kind). same_kind (first_kind s) k) (sym (c.set_of.ensures ∙ ap set_of n)) ∙
    told_eq c.set_of.result c.next-kind.ensures c.if-eq-2.ensures)
