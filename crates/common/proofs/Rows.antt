-- Laws of tests over the rows below n: that every row passes, and which row is the first that does not.
use Rattle.std.specs.Prelude.{◌+◌, ◌<◌, ◌≤◌, ◌⊎◌, ◌↔◌, ◌≡◌}
use Rattle.common.specs.Words.{ℕ, zero, suc, arith, add-one, Bool, true, false, cond, not, inl, inr, ⊎_elim, refl, sym, subst, ◌∙◌, ltb}
use Rattle.common.specs.Words.{lt-ltb, le-ltb, ltb-true, not-true, not-false}
use Rattle.common.specs.Tests.{lt_or_le, true_or_false, having, clash, and_left, and_right}
unfoldable pub use Rattle.common.specs.Terms.{every, first_bad, some}
pub use Rattle.common.specs.Terms.{FirstBad}

-- ## Every row

pub every_none : (t : ℕ → Bool) → every t 0 ≡ true
unfolding every
every_none t = refl

-- one row more, as a loop counts it
pub every_more : (t : ℕ → Bool) (n : ℕ) → every t n ≡ true → t n ≡ true → every t (n + 1) ≡ true
unfolding every
every_more t n a b = rw (add-one n, a, b)

pub every_at : (t : ℕ → Bool) (n i : ℕ) → every t n ≡ true → i < n → t i ≡ true
unfolding every
every_at t zero i h l = absurd (omega arith)
every_at t (suc n) i h l =
    ⊎_elim (λ (b : i < n). every_at t n i (and_left (every t n) _ h) b)
    (λ (b : n ≤ i). let e : n ≡ i = omega arith in subst (λ (x : ℕ). t x ≡ true) e (and_right (every t n) _ h))
    (lt_or_le i n)

pub every_of : (t : ℕ → Bool) (n : ℕ) → ((i : ℕ) → i < n → t i ≡ true) → every t n ≡ true
unfolding every
every_of t zero h = refl
every_of t (suc n) h = rw (every_of t n (λ i l. h i (omega arith)), h n (omega arith))

pub every_fails : (t : ℕ → Bool) (i n : ℕ) → i < n → t i ≡ false → every t n ≡ false
every_fails t i n l e =
    ⊎_elim (λ (h : every t n ≡ true). absurd (clash (every_at t n i h l) e)) (λ h. h) (true_or_false (every t n))

-- where each row's test says a fact of the row, the test of all says it of all
pub every_iff : {A : ℕ → Type 0} (t : ℕ → Bool) (n : ℕ) → ((i : ℕ) → (t i ≡ true) ↔ A i) →
    (every t n ≡ true) ↔ ((i : ℕ) → i < n → A i)
every_iff t n f = (λ h i l. (f i).0 (every_at t n i h l), λ a. every_of t n (λ i l. (f i).1 (a i l)))

-- ## The first bad row

pub first_bad_none : (t : ℕ → Bool) → first_bad t 0 ≡ 0
unfolding first_bad
first_bad_none t = refl

first_bad_next : (t : ℕ → Bool) (n : ℕ) →
    first_bad t (suc n) ≡ cond (ltb (first_bad t n) n) (first_bad t n) (cond (t n) (suc n) n)
unfolding first_bad
first_bad_next t n = refl

-- a loop that has found no bad row below n goes on, or stops at n
pub first_bad_more : (t : ℕ → Bool) (n : ℕ) → first_bad t n ≡ n → t n ≡ true → first_bad t (n + 1) ≡ n + 1
first_bad_more t n e h = rw (add-one n, first_bad_next t n, e, le-ltb n n (omega arith), h)

pub first_bad_found : (t : ℕ → Bool) (i n : ℕ) → i < n → first_bad t i ≡ i → t i ≡ false → first_bad t n ≡ i
first_bad_found t i zero l e h = absurd (omega arith)
first_bad_found t i (suc n) l e h =
    ⊎_elim (λ (b : i < n). rw (first_bad_next t n, first_bad_found t i n b e h, lt-ltb i n b))
    (λ (b : n ≤ i).
    let s : i ≡ n = omega arith in
    rw (first_bad_next t n, rw s at e, le-ltb n n (omega arith), rw s at h) (sym s))
    (lt_or_le i n)

-- what it says
pub first_bad_is : (t : ℕ → Bool) (n : ℕ) → FirstBad t n (first_bad t n)
first_bad_is t zero = rw (first_bad_none t) (record { within = omega arith; before = λ i l. absurd (omega arith); bad = λ l. absurd (omega arith) })
first_bad_is t (suc n) = go (first_bad_is t n) (lt_or_le (first_bad t n) n) (true_or_false (t n))
  where
    go : FirstBad t n (first_bad t n) → (first_bad t n < n) ⊎ (n ≤ first_bad t n) → (t n ≡ true) ⊎ (t n ≡ false) →
        FirstBad t (suc n) (first_bad t (suc n))
    go f (inl l) s = rw (first_bad_next t n, lt-ltb (first_bad t n) n l)
        (record { within = omega (arith, f.within); before = f.before; bad = λ b. f.bad l })
    go f (inr g) (inl h) =
        let e : first_bad t n ≡ n = omega (arith, f.within) in
        rw (first_bad_next t n, le-ltb (first_bad t n) n g, h)
        (record {
          within = omega arith;
          before = λ i l. ⊎_elim (λ (b : i < n). f.before i (omega arith))
              (λ (b : n ≤ i). let s : n ≡ i = omega arith in subst (λ (x : ℕ). t x ≡ true) s h) (lt_or_le i n);
          bad = λ l. absurd (omega arith);
        })
    go f (inr g) (inr h) =
        let e : first_bad t n ≡ n = omega (arith, f.within) in
        rw (first_bad_next t n, le-ltb (first_bad t n) n g, h)
        (record { within = omega arith; before = λ i l. f.before i (omega arith); bad = λ l. h })

pub every_first_bad : (t : ℕ → Bool) (n : ℕ) → (every t n ≡ true) ↔ (first_bad t n ≡ n)
every_first_bad t n = (
  λ h.
      ⊎_elim (λ (l : first_bad t n < n). absurd (clash (every_at t n (first_bad t n) h l) ((first_bad_is t n).bad l)))
      (λ (g : n ≤ first_bad t n). omega (arith, (first_bad_is t n).within))
      (lt_or_le (first_bad t n) n),
  λ e. every_of t n (λ i l. (first_bad_is t n).before i (omega arith)),
)

-- and only it does
pub first_bad_only : (t : ℕ → Bool) (n b : ℕ) → FirstBad t n b → first_bad t n ≡ b
first_bad_only t n b f =
    having (first_bad_is t n)
    (λ g.
    ⊎_elim (λ (l : first_bad t n < b). absurd (clash (f.before (first_bad t n) l) (g.bad (omega (arith, f.within)))))
    (λ (h : b ≤ first_bad t n).
    ⊎_elim (λ (l : b < first_bad t n). absurd (clash (g.before b l) (f.bad (omega (arith, g.within)))))
    (λ (g : first_bad t n ≤ b). omega arith)
    (lt_or_le b (first_bad t n)))
    (lt_or_le (first_bad t n) b))

-- the first bad row tells whether every row passes
pub every_breaks : (t : ℕ → Bool) (n : ℕ) → first_bad t n < n → every t n ≡ false
every_breaks t n l = every_fails t (first_bad t n) n l ((first_bad_is t n).bad l)

pub every_passes : (t : ℕ → Bool) (n : ℕ) → n ≤ first_bad t n → every t n ≡ true
every_passes t n g = (every_first_bad t n).1 (omega (arith, (first_bad_is t n).within))

-- ## Some row

-- a passing row is shown, or all rows fail
pub some_at : (t : ℕ → Bool) (n : ℕ) → some t n ≡ true → (i : ℕ) × (i < n) × (t i ≡ true)
unfolding some
some_at t n h =
    let l : first_bad (λ i. not (t i)) n < n = ltb-true _ _ h in
    (first_bad (λ i. not (t i)) n, l, not-false _ ((first_bad_is (λ i. not (t i)) n).bad l))

pub some_of : (t : ℕ → Bool) (n i : ℕ) → i < n → t i ≡ true → some t n ≡ true
unfolding some
some_of t n i l h =
    having (first_bad_is (λ i. not (t i)) n)
    (λ f.
    ⊎_elim (λ (b : first_bad (λ i. not (t i)) n < n). lt-ltb _ _ b)
    (λ (b : n ≤ first_bad (λ i. not (t i)) n). absurd (clash h (not-true _ (f.before i (omega arith)))))
    (lt_or_le (first_bad (λ i. not (t i)) n) n))

pub some_iff : (t : ℕ → Bool) (n : ℕ) → (some t n ≡ true) ↔ ((i : ℕ) × (i < n) × (t i ≡ true))
some_iff t n = (some_at t n, λ x. some_of t n x.0 x.1 x.2)

-- ## Tests that agree

pub every_same : (t u : ℕ → Bool) (n : ℕ) → ((i : ℕ) → i < n → t i ≡ u i) → every t n ≡ every u n
unfolding every
every_same t u zero h = refl
every_same t u (suc n) h = rw (every_same t u n (λ i l. h i (omega arith)), h n (omega arith))

pub first_bad_same : (t u : ℕ → Bool) (n : ℕ) → ((i : ℕ) → i < n → t i ≡ u i) → first_bad t n ≡ first_bad u n
first_bad_same t u n h =
    having (first_bad_is u n)
    (λ f.
    first_bad_only t n (first_bad u n) (record {
      within = f.within;
      before = λ i l. h i (omega (arith, f.within)) ∙ f.before i l;
      bad = λ l. h (first_bad u n) l ∙ f.bad l;
    }))
