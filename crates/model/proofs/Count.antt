-- The laws of `count` and `has_deadline` for one task with period P and deadline D.
-- `has_deadline` is known outside only by `has_own` and `has_job`: a new definition of it proves these two again.
use Rattle.std.specs.Prelude.{◌+◌, ◌-◌, ◌*◌, ◌/◌, ◌%◌, ◌<◌, ◌≤◌, ◌↔◌, ◌≡◌}
use Rattle.common.specs.Words.{ℕ, zero, suc, arith, le-div_iff_mul-le, mul-le-mul_left, mul-one, mul-le-mul_right, lt_of_mul-lt-mul_right}
use Rattle.common.specs.Words.{mul-mod_left, div-add-mod', lt-div-mul-add, add-sub_cancel, true, false, true≢false, ⊎_elim, sym, ap, ◌∙◌}
use Rattle.common.specs.Words.{leb, lt-ltb, le-ltb, le-leb, eqb-true, leb-true}
use Rattle.common.specs.Totals.{only, le_by, eq_by}
use Rattle.model.specs.Model.{count, has_deadline}
use Rattle.common.specs.Tests.{lt_or_le, true_or_false, and_left, and_right}

pub count_before : (P D t : ℕ) → t < D → count P D t ≡ 0
unfolding count
count_before P D t h = rw (lt-ltb t D h)

pub count_from : (P D t : ℕ) → D ≤ t → count P D t ≡ (t - D) / P + 1
unfolding count
count_from P D t h = rw (le-ltb t D h)

-- THE law: job k is counted at t exactly when its deadline is at or before t. All that follows is from this one
pub count_iff : (P D k t : ℕ) → 1 ≤ P → (k < count P D t) ↔ (k * P + D ≤ t)
count_iff P D k t pos =
    ⊎_elim (λ (h : t < D). let e : count P D t ≡ 0 = count_before P D t h in (λ l. omega arith, λ l. omega arith))
    (λ (h : D ≤ t).
    let e : count P D t ≡ (t - D) / P + 1 = count_from P D t h in (
      λ l. let m : k * P ≤ t - D = (le-div_iff_mul-le pos).0 (omega arith) in omega arith,
      λ l. let m : k ≤ (t - D) / P = (le-div_iff_mul-le pos).1 (omega arith) in omega arith,
    ))
    (lt_or_le t D)

module _ (P D : ℕ) (pos : 1 ≤ P) where
  pub count_mono : (t u : ℕ) → t ≤ u → count P D t ≤ count P D u
  count_mono t u h = le_by _ _ (λ k l. (count_iff P D k u pos).1 (omega (arith, (count_iff P D k t pos).0 l)))

  -- no more jobs than ticks
  pub count_le : 1 ≤ D → (t : ℕ) → count P D t ≤ t
  count_le dpos t =
      le_by _ _ (λ k l. omega (arith, (count_iff P D k t pos).0 l, mul-le-mul_left k pos, mul-one k))

  -- x ticks hold at most x / P + 1 deadlines
  pub count_within : (t x : ℕ) → count P D (t + x) ≤ count P D t + (x / P + 1)
  count_within t x =
      le_by _ _
      (λ k l.
      let late : k * P + D ≤ t + x = (count_iff P D k (t + x) pos).0 l in
      ⊎_elim (λ (h : k < x / P + 1). omega arith)
      (λ (h : x / P + 1 ≤ k).
      let s : (k - (x / P + 1)) + (x / P + 1) ≡ k = omega arith in
      let g : (k - (x / P + 1)) * P + D ≤ t = omega (arith, lt-div-mul-add {a = x} pos, ap (λ (n : ℕ). n * P) s) in
      omega (arith, (count_iff P D (k - (x / P + 1)) t pos).1 g))
      (lt_or_le k (x / P + 1)))

  -- h periods later: h jobs more
  pub count_later : D ≤ P → (t h : ℕ) → count P D (t + h * P) ≡ count P D t + h
  count_later fits t h =
      eq_by _ _
      (λ k l.
      let late : k * P + D ≤ t + h * P = (count_iff P D k (t + h * P) pos).0 l in
      ⊎_elim (λ (s : k < h). omega arith)
      (λ (s : h ≤ k).
      let e : (k - h) + h ≡ k = omega arith in
      let g : (k - h) * P + D ≤ t = omega (arith, ap (λ (n : ℕ). n * P) e) in
      omega (arith, (count_iff P D (k - h) t pos).1 g))
      (lt_or_le k h))
      (λ k l.
      (count_iff P D k (t + h * P) pos).1
      (⊎_elim (λ (s : k < h). omega (arith, mul-le-mul_right P s))
      (λ (s : h ≤ k).
      let e : (k - h) + h ≡ k = omega arith in
      omega (arith, ap (λ (n : ℕ). n * P) e, (count_iff P D (k - h) t pos).0 (omega arith)))
      (lt_or_le k h)))

  -- a common multiple H later: H / P jobs more, at any t, also below the first deadline
  pub count_hyper : D ≤ P → (t H : ℕ) → H / P * P ≡ H → count P D (t + H) ≡ count P D t + H / P
  count_hyper fits t H e = rw e at (count_later fits t (H / P))

  -- a job counts itself: at its deadline k + 1, just before it k
  pub count_own : (k : ℕ) → count P D (k * P + D) ≡ k + 1
  count_own k =
      eq_by _ _
      (λ l h.
      let g : l * P + D ≤ k * P + D = (count_iff P D l (k * P + D) pos).0 h in
      omega (arith, lt_of_mul-lt-mul_right P {m = l} {n = k + 1} (omega arith)))
      (λ l h. (count_iff P D l (k * P + D) pos).1 (omega (arith, mul-le-mul_right {m = l} {n = k} P (omega arith))))

  pub count_early : (k t : ℕ) → suc t ≡ k * P + D → count P D t ≡ k
  count_early k t e =
      eq_by _ _
      (λ l h.
      let g : l * P + D ≤ t = (count_iff P D l t pos).0 h in
      lt_of_mul-lt-mul_right P {m = l} {n = k} (omega arith))
      (λ l h. (count_iff P D l t pos).1 (omega (arith, mul-le-mul_right {m = suc l} {n = k} P h)))

-- What is known of `has_deadline`.
pub has_own : (P D k : ℕ) → 1 ≤ P → 1 ≤ D → has_deadline P D (k * P + D) ≡ true
unfolding has_deadline
has_own P D k pos dpos =
    rw (le-leb D (k * P + D) (omega arith), add-sub_cancel (k * P) D, mul-mod_left k P)

pub has_job : (P D t : ℕ) → 1 ≤ P → has_deadline P D t ≡ true → (k : ℕ) × (k * P + D ≡ t)
unfolding has_deadline
has_job P D t pos h =
    let le : D ≤ t = leb-true D t (and_left _ _ h) in
    let z : (t - D) % P ≡ 0 = eqb-true _ _ (and_right (leb D t) _ h) in
    ((t - D) / P, omega (arith, div-add-mod' (t - D) P))

-- so a tick adds 1 to the count exactly when a job has its deadline there
pub count_step : (P D t : ℕ) → 1 ≤ P → 1 ≤ D → count P D (suc t) ≡ count P D t + only (has_deadline P D (suc t)) 1
count_step P D t pos dpos =
    ⊎_elim
    (λ (y : has_deadline P D (suc t) ≡ true).
    let j : (k : ℕ) × (k * P + D ≡ suc t) = has_job P D (suc t) pos y in
    rw y (omega (arith, rw j.1 at (count_own P D pos j.0), count_early P D pos j.0 t (sym j.1))))
    (λ (n : has_deadline P D (suc t) ≡ false).
    rw n
    (eq_by _ _
    (λ k l.
    let g : k * P + D ≤ suc t = (count_iff P D k (suc t) pos).0 l in
    let d : k * P + D ≡ suc t → ⊥ = λ e. let z : true ≡ false = sym (rw e at (has_own P D k pos dpos)) ∙ n in absurd (true≢false z) in
    omega (arith, (count_iff P D k t pos).1 (omega arith)))
    (λ k l. let m : count P D t ≤ count P D (suc t) = count_mono P D pos t (suc t) (omega arith) in omega arith)))
    (true_or_false (has_deadline P D (suc t)))

pub count_tick : (P D t : ℕ) → 1 ≤ P → 1 ≤ D → 1 ≤ t → count P D t ≡ count P D (t - 1) + only (has_deadline P D t) 1
count_tick P D zero pos dpos h = absurd (omega arith)
count_tick P D (suc t) pos dpos h = let e : suc t - 1 ≡ t = omega arith in rw e (count_step P D t pos dpos)

pub count_tick_iff : (P D t : ℕ) → 1 ≤ P → 1 ≤ D → 1 ≤ t → (count P D t - count P D (t - 1) ≡ 1) ↔ (has_deadline P D t ≡ true)
count_tick_iff P D t pos dpos h =
    ⊎_elim (λ (y : has_deadline P D t ≡ true). (λ e. y, λ e. omega (arith, rw y at (count_tick P D t pos dpos h))))
    (λ (n : has_deadline P D t ≡ false).
    (λ e. absurd (omega (arith, rw n at (count_tick P D t pos dpos h))), λ e. absurd (true≢false (sym e ∙ n))))
    (true_or_false (has_deadline P D t))
