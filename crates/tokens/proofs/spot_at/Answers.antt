-- `tokens::spot_at`: the end, or the token behind the blanks.
use Rattle.common.specs.Words.{rules, ap, arith, drop, length-drop}
use Rattle.tokens.specs.declared.Shape.{Shape}
use Rattle.tokens.specs.Laws.{shape_fits, stands_end, stands_token}
use Rattle.tokens.proofs.spot_at.Goals as goal

pub returns-then-text-start : goal.returns-then-text-start
returns-then-text-start c =
    let a = c.args in
    stands_end a.text.now a.at c.past-start.result c.past-start.ensures (search rules)

pub overflow_add-result : goal.overflow_add-result
overflow_add-result c =
    let p = c.args.text.now in
    let at = c.past-start.result in
    let f = shape_fits (drop at p) (simp length-drop (search rules)) in
    omega (arith, ap (λ (s : Shape). s.width) c.shape_at-shape.ensures, simp length-drop at f)

pub returns : goal.returns
returns c =
    let a = c.args in
    stands_token a.text.now a.at c.past-start.result c.shape_at-shape.result
    c.past-start.ensures (search rules) c.shape_at-shape.ensures
