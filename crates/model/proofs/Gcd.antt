-- The greatest common divisor by Euclid's rule: the two rules that determine it, and what it is.
use Rattle.std.specs.Prelude.{◌≡◌, ◌+◌, ◌*◌, ◌/◌, ◌%◌, ◌<◌}
use Rattle.common.specs.Words.{refl, sym, ap, ◌∙◌, false, cond, ⊎_elim, ℕ, zero, suc, not-suc-le-zero, mod-lt, eq-zero-or-pos, dvd_refl}
use Rattle.common.specs.Words.{dvd-zero, dvd-mod_iff, zero-mul, mul-pos, add-mul, mul_assoc, mul-lt-mul_of_pos_right, div-add-mod', arith, eq-eqb}
use Rattle.common.specs.Words.{ne_eqb, eqb}
use Rattle.std.proofs.Math.Arith.{digits_mod}
use Rattle.model.specs.Model.{euclid, gcd}
use Rattle.model.specs.Source.{IsGcd}

-- more steps change nothing
enough : (n m a b : ℕ) → b < n → b < m → euclid n a b ≡ euclid m a b
unfolding euclid
enough zero m a b h g = absurd (not-suc-le-zero h)
enough (suc n) zero a b h g = absurd (not-suc-le-zero g)
enough (suc n) (suc m) a b h g =
    ⊎_elim (λ (e : b ≡ 0). simp (eq-eqb b 0 e))
    (λ (p : 0 < b). let l = mod-lt a p in ap (cond (eqb b 0) a) (enough n m b (a % b) (omega arith) (omega arith)))
    (eq-zero-or-pos b)

-- the two rules that determine it
pub gcd_zero : (a : ℕ) → gcd a 0 ≡ a
unfolding gcd euclid
gcd_zero a = refl

pub gcd_step : (a b : ℕ) → 0 < b → gcd a b ≡ gcd b (a % b)
unfolding gcd euclid
gcd_step a b p =
    let l = mod-lt a p in
    let f : eqb b 0 ≡ false = ne_eqb b 0 (λ (e : b ≡ 0). omega arith) in
    rw f (enough b (suc (a % b)) b (a % b) l (omega arith))

-- by Euclid's rule, at most n times
by_steps : (n a b : ℕ) → b < n → IsGcd a b (gcd a b)
by_steps zero a b h = absurd (not-suc-le-zero h)
by_steps (suc n) a b h =
    ⊎_elim
    (λ (e : b ≡ 0). rw (e, gcd_zero a) (record { left = dvd_refl a; right = dvd-zero a; most = λ d x y. x }))
    (λ (p : 0 < b).
    let l = mod-lt a p in
    let r = by_steps n b (a % b) (omega arith) in
    rw (gcd_step a b p)
    (record {
      left = (dvd-mod_iff _ r.left).0 r.right;
      right = r.left;
      most = λ d x y. r.most d y ((dvd-mod_iff d y).1 x);
    }))
    (eq-zero-or-pos b)

pub gcd_is : (a b : ℕ) → IsGcd a b (gcd a b)
gcd_is a b = by_steps (suc b) a b (omega arith)

mod_scaled : (a b k : ℕ) → 0 < b → 0 < k → a * k % (b * k) ≡ a % b * k
mod_scaled a b k q p =
    let e : a * k ≡ a / b * (b * k) + a % b * k =
    ap (λ (x : ℕ). x * k) (sym (div-add-mod' a b)) ∙ add-mul (a / b * b) (a % b) k ∙ rw (mul_assoc (a / b) b k) in
    rw e (digits_mod (a / b) (mul-lt-mul_of_pos_right (mod-lt a q) p))

-- what scales both scales it
scaled : (n a b k : ℕ) → b < n → 0 < k → gcd (a * k) (b * k) ≡ gcd a b * k
scaled zero a b k h p = absurd (not-suc-le-zero h)
scaled (suc n) a b k h p =
    ⊎_elim (λ (e : b ≡ 0). rw (e, zero-mul k, gcd_zero (a * k), gcd_zero a))
    (λ (q : 0 < b).
    let l = mod-lt a q in
    rw (gcd_step (a * k) (b * k) (mul-pos q p), gcd_step a b q, mod_scaled a b k q p) (scaled n b (a % b) k (omega arith) p))
    (eq-zero-or-pos b)

pub gcd_scaled : (a b k : ℕ) → 0 < k → gcd (a * k) (b * k) ≡ gcd a b * k
gcd_scaled a b k p = scaled (suc b) a b k (omega arith) p
