-- `words::alike`: slices are compared as the definition compares words.
use Rattle.std.specs.Prelude.{◌≡◌, ◌+◌, ◌-◌}
use Rattle.common.specs.Words.{◌∙◌, arith, take, drop}
use Rattle.words.specs.Letters.{same_pointwise}
use Rattle.words.proofs.alike.Goals as goal

pub returns : goal.returns
returns c =
    let a = c.args in
    let x : a.p + a.n - a.p ≡ a.n = omega arith in
    let y : a.q + a.n - a.q ≡ a.n = omega arith in
    rw (x, y) at
    (c.eq.ensures ∙ same_pointwise (take (a.p + a.n - a.p) (drop a.p a.a.now)) (take (a.q + a.n - a.q) (drop a.q a.b.now)))
