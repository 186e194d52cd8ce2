-- `plain::close_rest`: what is left to look through gives the whole.
use Rattle.std.specs.Prelude.{◌≡◌, ◌+◌, ◌-◌}
use Rattle.common.specs.Words.{rules, sym, ◌∙◌, arith}
use Rattle.plain.specs.Close.{close_none, close_here, close_more}
use Rattle.plain.proofs.close_rest.Goals as goal

pub loop-i-init : goal.loop-i-init
loop-i-init c = let z : c.args.at + 2 - c.args.at ≡ 2 = omega arith in rw z

pub returns-then-three_at : goal.returns-then-three_at
returns-then-three_at c =
    let i = c.loop-i.i in
    let n : i + 3 - c.args.at ≡ i - c.args.at + 3 = omega arith in
    let here = close_here c.args.text.now (i - c.args.at) i (search rules) (sym c.three_at.ensures ∙ c.if-three_at.true) in
    rw n (sym here ∙ c.loop-i.invariant)

pub loop-i-preserved : goal.loop-i-preserved
loop-i-preserved c =
    let i = c.loop-i.i in
    let n : i + 1 - c.args.at ≡ i - c.args.at + 1 = omega arith in
    rw n (close_more c.args.text.now (i - c.args.at) i (search rules) (sym c.three_at.ensures ∙ c.if-three_at.false) ∙ c.loop-i.invariant)

pub returns : goal.returns
returns c = sym (close_none c.args.text.now (c.loop-i.i - c.args.at) c.loop-i.i (search rules)) ∙ c.loop-i.invariant
