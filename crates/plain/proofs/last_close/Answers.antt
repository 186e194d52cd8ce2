-- `plain::last_close`: what is left to look through, from the end on, gives the whole.
use Rattle.std.specs.Prelude.{◌≡◌, ◌+◌, ◌-◌}
use Rattle.common.specs.Words.{rules, arith, sym, ◌∙◌}
use Rattle.plain.specs.Close.{last_by, last_here, last_more}
use Rattle.plain.proofs.last_close.Goals as goal

pub returns-then-three_at : goal.returns-then-three_at
returns-then-three_at c =
    let i : c.loop-i.i - 1 + 1 ≡ c.loop-i.i = omega arith in
    i ∙ sym (last_here c.args.text.now c.loop-i.i (search rules) (sym c.three_at.ensures ∙ c.if-three_at.true)) ∙ c.loop-i.invariant

pub loop-i-preserved : goal.loop-i-preserved
loop-i-preserved c =
    last_more c.args.text.now c.loop-i.i (search rules) (sym c.three_at.ensures ∙ c.if-three_at.false) ∙ c.loop-i.invariant

pub returns : goal.returns
unfolding last_by
returns c = let z : c.loop-i.i ≡ 0 = search rules in rw z at c.loop-i.invariant
