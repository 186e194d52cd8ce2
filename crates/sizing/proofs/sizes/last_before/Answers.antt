-- `sizing::sizes::last_before`: the last job released before a tick, by a division, and no further than the second hyperperiod.
use Rattle.std.specs.Prelude.{◌+◌, ◌-◌, ◌*◌, ◌/◌, ◌<◌, ◌≤◌}
use Rattle.common.specs.Words.{ℕ, arith, le-div_iff_mul-le, div-mul-le_self, mul-le-mul_right}
use Rattle.sizing.proofs.sizes.last_before.Goals as goal

-- job o is released before u, so it is not behind the quotient,
not_behind : (P o u : ℕ) → 1 ≤ P → o * P < u → o ≤ (u - 1) / P
not_behind P o u pos h = (le-div_iff_mul-le pos).1 (omega arith)

-- and no job up to the quotient is released at u or later
in_time : (P o u : ℕ) → 1 ≤ u → o ≤ (u - 1) / P → o * P < u
in_time P o u pos h = omega (arith, mul-le-mul_right P h, div-mul-le_self (u - 1) P)

pub returns : goal.returns
returns c =
    let a = c.args in
    let last = (a.until.0 - 1) / a.period in
    let reached = not_behind a.period a.jobs a.until.0 c.requires.0 c.requires.3 in (
      omega (arith, c.min.ensures, c.requires.1),
      in_time a.period (a.jobs + c.min.result) a.until.0 (omega (arith, c.requires.3)) (omega (arith, c.min.ensures, reached)),
      λ k l h. omega (arith, c.min.ensures, l, not_behind a.period (a.jobs + k) a.until.0 c.requires.0 h),
    )
