-- Ranks in a finite set of rows under a strict total order: every rank below the set's size is taken. Nothing here is about queues.
use Rattle.std.specs.Prelude.{◌+◌, ◌-◌, ◌<◌, ◌≤◌, ◌≡◌}
use Rattle.common.specs.Words.{ℕ, zero, suc, arith, Bool, true, false, ⊎_elim, refl}
use Rattle.common.specs.Totals.{only, sum, only_le, sum_le, sum_lt}
use Rattle.common.specs.Tests.{lt_or_le, having}

-- how many of the rows below n are in the set s; and how many of those go before row i
unfoldable pub size : (ℕ → Bool) → ℕ → ℕ
size s n = sum (λ j. only (s j) 1) n

unfoldable pub rank : (ℕ → ℕ → Bool) → (ℕ → Bool) → ℕ → ℕ → ℕ
rank lt s n i = sum (λ j. only (s j) (only (lt j i) 1)) n

only_one : (b : Bool) → only b 1 ≤ 1
only_one true = omega arith
only_one false = omega arith

only_imp : (a b : Bool) → (a ≡ true → b ≡ true) → only a 1 ≤ only b 1
only_imp true b h = rw (h refl) (omega arith)
only_imp false b h = omega arith

module _ (lt : ℕ → ℕ → Bool) (irrefl : (i : ℕ) → lt i i ≡ false)
    (trans : (i j k : ℕ) → lt i j ≡ true → lt j k ≡ true → lt i k ≡ true)
    (total : (i j : ℕ) → (i ≡ j → ⊥) → lt i j ≡ false → lt j i ≡ true) (s : ℕ → Bool) where
  rank_size : (n i : ℕ) → rank lt s n i ≤ size s n
  unfolding rank size
  rank_size n i = sum_le _ _ n (λ j l. only_le (s j) _ _ (λ y. only_one (lt j i)))

  rank_mono : (n i j : ℕ) → lt i j ≡ true → rank lt s n i ≤ rank lt s n j
  unfolding rank
  rank_mono n i j h = sum_le _ _ n (λ x l. only_le (s x) _ _ (λ y. only_imp (lt x i) (lt x j) (λ g. trans x i j g h)))

  pub rank_less : (n i j : ℕ) → i < n → s i ≡ true → lt i j ≡ true → rank lt s n i < rank lt s n j
  unfolding rank
  rank_less n i j l m h =
      sum_lt _ _ n i l (λ x l. only_le (s x) _ _ (λ y. only_imp (lt x i) (lt x j) (λ g. trans x i j g h)))
      (rw (m, irrefl i, h) (omega arith))

  size_zero : size s 0 ≡ 0
  unfolding size sum
  size_zero = refl

  size_next : (n : ℕ) → size s (suc n) ≡ size s n + only (s n) 1
  unfolding size sum
  size_next n = refl

  rank_next : (n i : ℕ) → rank lt s (suc n) i ≡ rank lt s n i + only (s n) (only (lt n i) 1)
  unfolding rank sum
  rank_next n i = refl

  -- row n joins the rows below it: what was ranked r is ranked r or r + 1 now
  stays : (n i r : ℕ) → rank lt s n i ≡ r → s n ≡ true → lt n i ≡ false → rank lt s (suc n) i ≡ r
  stays n i r e m g = omega (arith, rw (m, g) at (rank_next n i))

  moves : (n i r : ℕ) → rank lt s n i ≡ r → s n ≡ true → lt n i ≡ true → rank lt s (suc n) i ≡ r + 1
  moves n i r e m g = omega (arith, rw (m, g) at (rank_next n i))

  Ranked : ℕ → ℕ → Type 0
  Ranked n r = (i : ℕ) × (i < n) × (s i ≡ true) × (rank lt s n i ≡ r)

  -- r lies below row n's rank: whoever has it goes before row n
  below : (n r : ℕ) → s n ≡ true → r < rank lt s n n → Ranked n r → Ranked (suc n) r
  unfolding Ranked
  below n r m h x = go (lt n x.0) refl
    where
      go : (b : Bool) → lt n x.0 ≡ b → Ranked (suc n) r
      go true g = absurd (omega (arith, x.3, rank_mono n n x.0 g))
      go false g = (x.0, omega (arith, x.1), x.2, stays n x.0 r x.3 m g)

  -- r + 1 lies above it: whoever has r goes after row n
  above : (n r : ℕ) → s n ≡ true → rank lt s n n ≤ r → Ranked n r → Ranked (suc n) (r + 1)
  unfolding Ranked
  above n r m h x = go (lt n x.0) refl
    where
      go : (b : Bool) → lt n x.0 ≡ b → Ranked (suc n) (r + 1)
      go true g = (x.0, omega (arith, x.1), x.2, moves n x.0 r x.3 m g)
      go false g = absurd (omega (arith, x.3, rank_less n x.0 n x.1 x.2 (total n x.0 (omega (arith, x.1)) g)))

  pub rank_onto : (n r : ℕ) → r < size s n → (i : ℕ) × (i < n) × (s i ≡ true) × (rank lt s n i ≡ r)
  unfolding Ranked
  rank_onto zero r h = absurd (omega (arith, size_zero))
  rank_onto (suc n) r h = go (rank_onto n) (s n) refl
    where
      go : ((r : ℕ) → r < size s n → Ranked n r) → (b : Bool) → s n ≡ b → Ranked (suc n) r
      go old false m =
          having (old r (omega (arith, rw m at (size_next n))))
          (λ x. (x.0, omega (arith, x.1), x.2, omega (arith, x.3, rw m at (rank_next n x.0))))
      go old true m =
          ⊎_elim (λ (h : r < rank lt s n n). below n r m h (old r (omega (arith, rank_size n n))))
          (λ (g : rank lt s n n ≤ r).
          ⊎_elim
          (λ (a : rank lt s n n < r).
          let e : r - 1 + 1 ≡ r = omega arith in
          rw e at (above n (r - 1) m (omega arith) (old (r - 1) (omega (arith, rw m at (size_next n))))))
          (λ (a : r ≤ rank lt s n n). (n, omega arith, m, stays n n r (omega arith) m (irrefl n)))
          (lt_or_le (rank lt s n n) r))
          (lt_or_le r (rank lt s n n))
