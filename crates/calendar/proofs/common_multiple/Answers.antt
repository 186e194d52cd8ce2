-- `calendar::common_multiple`: the quotient's test says whether the product, which is the least common multiple, is over the limit.
use Rattle.std.specs.Prelude.{◌*◌, ◌/◌, ◌<◌, ◌≤◌}
use Rattle.common.specs.Words.{ℕ, mul_comm, le-div_iff_mul-le, div-lt_iff_lt-mul, arith}
use Rattle.common.specs.Tests.{tests}
use Rattle.model.specs.Model.{lcm}
use Rattle.model.proofs.Multiple.{gcd_pos}
use Rattle.calendar.proofs.common_multiple.Goals as goal

over : (limit a f : ℕ) → 1 ≤ a → limit / a < f → limit < a * f
over limit a f p h = rw (mul_comm a f) ((div-lt_iff_lt-mul p).0 h)

within : (limit a f : ℕ) → 1 ≤ a → f ≤ limit / a → a * f ≤ limit
within limit a f p h = rw (mul_comm a f) ((le-div_iff_mul-le p).0 h)

pub nonzero_div-factor : goal.nonzero_div-factor
nonzero_div-factor c =
    let a = c.args in
    omega (arith, c.gcd.ensures, gcd_pos a.a a.b c.requires.0)

pub returns-then-limit-a : goal.returns-then-limit-a
unfolding lcm
returns-then-limit-a c =
    let a = c.args in
    let e = c.gcd.ensures in
    let h : a.limit < lcm a.a a.b = rw e at (over a.limit a.a _ c.requires.0 c.if-limit-a.true) in
    search tests

pub overflow_mul-result : goal.overflow_mul-result
overflow_mul-result c =
    omega (arith, within c.args.limit c.args.a _ c.requires.0 c.if-limit-a.false)

pub returns : goal.returns
unfolding lcm
returns c =
    let a = c.args in
    let e = c.gcd.ensures in
    let h : lcm a.a a.b ≤ a.limit = rw e at (within a.limit a.a _ c.requires.0 c.if-limit-a.false) in
    rw e (search tests)
