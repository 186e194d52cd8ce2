-- `listing::lines::mask_of`: a turn adds one bit more.
use Rattle.std.specs.Prelude.{◌≡◌}
use Rattle.common.specs.Words.{refl, pow-suc, add-one, rules, arith}
use Rattle.plan.specs.Limits.{task_limit}
use Rattle.listing.specs.Lines.{mask_of, sender}
use Rattle.listing.specs.Laws.{bit_fits, mask_more, mask_fits}
use Rattle.listing.proofs.lines.mask_of.Goals as goal

pub loop-i-init : goal.loop-i-init
unfolding mask_of
loop-i-init c = (search rules, refl, refl)

pub overflow_add-mask : goal.overflow_add-mask
overflow_add-mask c =
    let l = c.loop-i in
    let a = c.args in
    rw (l.invariant.2, c.bit_of-mask.ensures, l.invariant.1) (omega (arith, mask_fits (sender a.sends.now a.q) l.i c.loop-i-test.true))

pub overflow_mul-bit : goal.overflow_mul-bit
overflow_mul-bit c = let l = c.loop-i in omega (arith, bit_fits l.i l.invariant.0, l.invariant.1)

pub loop-i-preserved : goal.loop-i-preserved
loop-i-preserved c =
    let l = c.loop-i in
    let a = c.args in (
      search rules,
      rw (l.invariant.1, add-one l.i, pow-suc 2 l.i),
      rw (l.invariant.2, c.bit_of-mask.ensures, l.invariant.1) (mask_more (sender a.sends.now a.q) l.i),
    )

pub returns : goal.returns
returns c =
    let l = c.loop-i in
    let e : l.i ≡ task_limit = search rules in
    rw e at l.invariant.2
