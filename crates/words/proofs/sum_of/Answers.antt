-- `words::sum_of`: what is left to sum gives the whole.
use Rattle.std.specs.Prelude.{◌≡◌, ◌+◌, ◌-◌}
use Rattle.common.specs.Words.{rules, refl, arith, mod-lt}
use Rattle.common.specs.Stores.{part_cons}
use Rattle.words.specs.Found.{sum_by}
use Rattle.words.proofs.sum_of.Goals as goal

pub loop-i-init : goal.loop-i-init
loop-i-init c = (refl, search rules, search rules, search rules)

pub loop-i-preserved : goal.loop-i-preserved
unfolding sum_by
loop-i-preserved c =
    let t = c.args.text.now in
    let e = c.args.end in
    let i = c.loop-i.i in
    let n : e - i - 1 ≡ e - (i + 1) = omega arith in (
      rw c.wide.ensures.0 (rw (part_cons t i (e - i) (search rules) (search rules), n) at c.loop-i.invariant.0),
      search rules,
      search rules,
      mod-lt _ (search rules),
    )

pub returns : goal.returns
unfolding sum_by
returns c =
    let z : c.args.end - c.loop-i.i ≡ 0 = search rules in
    (rw z at c.loop-i.invariant.0, search rules)
