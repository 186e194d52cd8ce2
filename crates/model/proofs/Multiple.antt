-- The least common multiple of two numbers by the greatest common divisor, and of a queue's periods: its hyperperiod.
use Rattle.std.specs.Prelude.{◌≡◌, ◌+◌, ◌*◌, ◌/◌, ◌≤◌, ◌<◌}
use Rattle.common.specs.Words.{refl, sym, ap, ◌∙◌, Bool, true, false, cond, ⊎_elim, ℕ, zero, suc, ◌∣◌, le_refl, le_trans, one-mul}
use Rattle.common.specs.Words.{mul_comm, mul_assoc, le-mul_of_pos_right, le-div_iff_mul-le, le_of_dvd, pos_of_dvd_of_pos, dvd_refl, dvd_trans}
use Rattle.common.specs.Words.{dvd-mul_right, dvd-mul_left, mul-div_cancel', div-mul_cancel, mul-dvd-mul_left, dvd_of_mul-dvd-mul_left, add-one}
use Rattle.common.specs.Words.{arith}
use Rattle.common.specs.Tests.{lt_or_le}
use Rattle.model.specs.Model.{Queue, Valid, Sender, gcd, lcm, multiple, hyperperiod, receiver_period}
use Rattle.model.specs.Source.{CommonMultiple}
use Rattle.model.proofs.Gcd.{gcd_is, gcd_scaled}
use Rattle.model.proofs.Order.{period_pos}

-- ## Two numbers

pub gcd_pos : (a b : ℕ) → 1 ≤ a → 1 ≤ gcd a b
gcd_pos a b p = pos_of_dvd_of_pos (gcd_is a b).left p

part_pos : (a b : ℕ) → 1 ≤ a → 1 ≤ b → 1 ≤ b / gcd a b
part_pos a b p q = (le-div_iff_mul-le (gcd_pos a b p)).1 (rw (one-mul (gcd a b)) (le_of_dvd q (gcd_is a b).right))

pub lcm_grows : (a b : ℕ) → 1 ≤ a → 1 ≤ b → a ≤ lcm a b
unfolding lcm
lcm_grows a b p q = le-mul_of_pos_right a (part_pos a b p q)

-- both divide it
pub lcm_left : (a b : ℕ) → a ∣ lcm a b
unfolding lcm
lcm_left a b = dvd-mul_right a (b / gcd a b)

turned : (a b : ℕ) → a / gcd a b * b ≡ lcm a b
unfolding lcm
turned a b =
    let g = gcd a b in
    ap (λ (x : ℕ). a / g * x) (sym (mul-div_cancel' g (gcd_is a b).right)) ∙ sym (mul_assoc (a / g) g (b / g))
    ∙ ap (λ (x : ℕ). x * (b / g)) (div-mul_cancel g (gcd_is a b).left)

pub lcm_right : (a b : ℕ) → b ∣ lcm a b
lcm_right a b = rw (← turned a b) (dvd-mul_left b (a / gcd a b))

product : (a b : ℕ) → gcd a b * lcm a b ≡ a * b
product a b =
    let g = gcd a b in
    rw (← turned a b) (mul_comm g (a / g * b) ∙ mul_assoc (a / g) b g ∙ rw (mul_comm b g) (sym (mul_assoc (a / g) g b))
    ∙ ap (λ (x : ℕ). x * b) (div-mul_cancel g (gcd_is a b).left))

-- and it divides whatever both divide
pub lcm_least : (a b m : ℕ) → 1 ≤ a → 1 ≤ m → a ∣ m → b ∣ m → lcm a b ∣ m
lcm_least a b m p r x y =
    let whole : a * b ∣ gcd (a * m) (b * m) =
    (gcd_is (a * m) (b * m)).most (a * b) (mul-dvd-mul_left b a y) (rw (mul_comm a b) (mul-dvd-mul_left a b x)) in
    dvd_of_mul-dvd-mul_left (lcm a b) (gcd_pos a b p) (rw (product a b, ← gcd_scaled a b m r) whole)

-- ## A queue's periods

-- a loop over the rows: none, a sender, another row
pub multiple_none : (q : Queue) → multiple q 0 ≡ receiver_period q
unfolding multiple
multiple_none q = refl

multiple_next : (q : Queue) (n : ℕ) → multiple q (suc n) ≡ cond (q.sends n) (lcm (multiple q n) (q.period n)) (multiple q n)
unfolding multiple
multiple_next q n = refl

pub multiple_on : (q : Queue) (n : ℕ) → q.sends n ≡ true → multiple q (n + 1) ≡ lcm (multiple q n) (q.period n)
multiple_on q n h = rw (add-one n, multiple_next q n, h)

pub multiple_off : (q : Queue) (n : ℕ) → q.sends n ≡ false → multiple q (n + 1) ≡ multiple q n
multiple_off q n h = rw (add-one n, multiple_next q n, h)

module _ (q : Queue) (v : Valid q) where
  pub multiple_pos : (n : ℕ) → n ≤ q.rows → 1 ≤ multiple q n
  multiple_pos zero h = rw (multiple_none q) (period_pos q v q.receiver v.receiver_row)
  multiple_pos (suc n) h = rw (multiple_next q n) (go (q.sends n) (multiple_pos n (omega arith)))
    where
      go : (b : Bool) → 1 ≤ multiple q n → 1 ≤ cond b (lcm (multiple q n) (q.period n)) (multiple q n)
      go true p = le_trans p (lcm_grows (multiple q n) (q.period n) p (period_pos q v n (omega arith)))
      go false p = p

  -- one row more makes it no less, and what divided it divides it still
  multiple_up : (n : ℕ) → n < q.rows → (multiple q n ≤ multiple q (suc n)) × (multiple q n ∣ multiple q (suc n))
  multiple_up n l = rw (multiple_next q n) (go (q.sends n))
    where
      go : (b : Bool) → (multiple q n ≤ cond b (lcm (multiple q n) (q.period n)) (multiple q n))
          × (multiple q n ∣ cond b (lcm (multiple q n) (q.period n)) (multiple q n))
      go true = (lcm_grows (multiple q n) (q.period n) (multiple_pos n (omega arith)) (period_pos q v n l), lcm_left (multiple q n) (q.period n))
      go false = (le_refl (multiple q n), dvd_refl (multiple q n))

  pub multiple_mono : (n m : ℕ) → n ≤ m → m ≤ q.rows → (multiple q n ≤ multiple q m) × (multiple q n ∣ multiple q m)
  multiple_mono n zero h g = let e : n ≡ 0 = omega arith in rw e (le_refl (multiple q 0), dvd_refl (multiple q 0))
  multiple_mono n (suc m) h g =
      ⊎_elim
      (λ (l : n < suc m).
      let up = multiple_up m (omega arith) in
      let old = multiple_mono n m (omega arith) (omega arith) in
      (le_trans old.0 up.0, dvd_trans (multiple q n) old.1 up.1))
      (λ (l : suc m ≤ n). let e : n ≡ suc m = omega arith in rw e (le_refl (multiple q (suc m)), dvd_refl (multiple q (suc m))))
      (lt_or_le n (suc m))

  receiver_divides : receiver_period q ∣ hyperperiod q
  unfolding hyperperiod
  receiver_divides = rw (multiple_none q) at (multiple_mono 0 q.rows (omega arith) (le_refl _)).1

  sender_divides : (i : ℕ) → Sender q i → q.period i ∣ hyperperiod q
  unfolding hyperperiod
  sender_divides i s =
      let here : q.period i ∣ multiple q (suc i) = rw (multiple_next q i, s.on) (lcm_right (multiple q i) (q.period i)) in
      dvd_trans (q.period i) here (multiple_mono (suc i) q.rows s.row (le_refl _)).1

  -- the hyperperiod is a common multiple,
  pub hyperperiod_common : CommonMultiple q (hyperperiod q)
  unfolding hyperperiod
  hyperperiod_common = record {
    pos = multiple_pos q.rows (le_refl _);
    receiver = div-mul_cancel (receiver_period q) receiver_divides;
    row = λ i s. div-mul_cancel (q.period i) (sender_divides i s);
  }

  -- and the least: it divides every other
  multiple_least : (H : ℕ) → CommonMultiple q H → (n : ℕ) → n ≤ q.rows → multiple q n ∣ H
  multiple_least H hy zero h = rw (multiple_none q, ← hy.receiver) (dvd-mul_left (receiver_period q) (H / receiver_period q))
  multiple_least H hy (suc n) h = rw (multiple_next q n) (go (q.sends n) refl (multiple_least H hy n (omega arith)))
    where
      go : (b : Bool) → q.sends n ≡ b → multiple q n ∣ H → cond b (lcm (multiple q n) (q.period n)) (multiple q n) ∣ H
      go true on d =
          lcm_least (multiple q n) (q.period n) H (multiple_pos n (omega arith)) hy.pos d
          (rw (← hy.row n (record { row = omega arith; on = on })) (dvd-mul_left (q.period n) (H / q.period n)))
      go false off d = d

  pub hyperperiod_least : (H : ℕ) → CommonMultiple q H → (hyperperiod q ∣ H) × (hyperperiod q ≤ H)
  unfolding hyperperiod
  hyperperiod_least H hy =
      let d : multiple q q.rows ∣ H = multiple_least H hy q.rows (le_refl _) in
      (d, le_of_dvd hy.pos d)
