-- `steps::same_bytes`.
use Rattle.std.specs.Prelude.{◌-◌}
use Rattle.common.specs.Words.{rules, ℕ, sym, ap, ◌∙◌}
use Rattle.common.specs.Stores.{part, part_length}
use Rattle.words.specs.Letters.{same}
use Rattle.words.specs.Found.{same_length}
use Rattle.steps.proofs.same_bytes.Goals as goal

pub returns-then-a-b : goal.returns-then-a-b
returns-then-a-b c =
    let a = c.args in
    let p = a.text.now in
    let x = part_length p a.a.start a.a.end (search rules) (search rules) in
    let y = part_length p a.b.start a.b.end (search rules) (search rules) in
    sym (same_length (part p a.a.start (a.a.end - a.a.start))
    (part p a.b.start (a.b.end - a.b.start)) (λ e. c.if-a-b.true (sym x ∙ e ∙ y)))

pub returns : goal.returns
returns c =
    let a = c.args in
    let p = a.text.now in
    c.alike.ensures ∙ ap (λ (n : ℕ). same (part p a.a.start (a.a.end - a.a.start)) (part p a.b.start n))
    c.if-a-b.false
