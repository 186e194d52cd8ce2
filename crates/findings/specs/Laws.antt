-- Laws of document 02's numbers.
use Rattle.std.specs.Prelude.{◌<◌, ◌≡◌}
use Rattle.common.specs.Words.{ℕ, min, max, arith, Bool, true, false, cond, refl, eqb, eqb-true, eqb-false, leb, leb-true, leb-false}
use Rattle.steps.specs.declared.faults.Rule.TheVariants.{Unfit, Unknown, NoTime, TooDeep, Twice}
use Rattle.findings.specs.Findings.{number_of, rule_of}

-- document 02's number of a fault rises with its own, from 20 to 24
pub clamped : (n : ℕ) → number_of (rule_of n) ≡ min 24 (max 20 n)
unfolding rule_of
clamped n = one (leb n 20) refl
  where
    four : (x : Bool) → eqb n 23 ≡ x → 22 < n → number_of (cond x TooDeep Twice) ≡ min 24 (max 20 n)
    four true e l = omega (arith, eqb-true n 23 e)
    four false e l = let h = eqb-false n 23 e in omega arith

    three : (x : Bool) → eqb n 22 ≡ x → 21 < n → number_of (cond x NoTime (cond (eqb n 23) TooDeep Twice)) ≡ min 24 (max 20 n)
    three true e l = omega (arith, eqb-true n 22 e)
    three false e l = let h = eqb-false n 22 e in four (eqb n 23) refl (omega arith)

    two : (x : Bool) → eqb n 21 ≡ x → 20 < n →
        number_of (cond x Unknown (cond (eqb n 22) NoTime (cond (eqb n 23) TooDeep Twice))) ≡ min 24 (max 20 n)
    two true e l = omega (arith, eqb-true n 21 e)
    two false e l = let h = eqb-false n 21 e in three (eqb n 22) refl (omega arith)

    one : (x : Bool) → leb n 20 ≡ x →
        number_of (cond x Unfit (cond (eqb n 21) Unknown (cond (eqb n 22) NoTime (cond (eqb n 23) TooDeep Twice)))) ≡ min 24 (max 20 n)
    one true e = omega (arith, leb-true n 20 e)
    one false e = two (eqb n 21) refl (leb-false n 20 e)
