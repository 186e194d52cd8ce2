-- The jobs that need not be asked: as long as the horizon stays where it is, a later job of a sender asks for no less. So a loop that has
-- the most of some jobs asks the last one that is released before the horizon moves, and goes on behind it.
use Rattle.std.specs.Prelude.{◌+◌, ◌<◌, ◌≤◌, ◌≡◌}
use Rattle.common.specs.Words.{ℕ, max, arith, le_refl, mul-le-mul_right, inl, ⊎_elim}
use Rattle.common.specs.Tests.{lt_or_le}
use Rattle.common.specs.Totals.{most, most_le}
use Rattle.model.specs.Model.{Queue, Valid, Sender, release_of, number}
use Rattle.model.proofs.Number.{number_less}
use Rattle.model.proofs.Order.{period_pos}
use Rattle.sizing.specs.Needs.{horizon_for, number_for, need_for, horizon_stays}

-- f j makes up for the values from k to j
most_skip : (f : ℕ → ℕ) (k j : ℕ) → k ≤ j → ((x : ℕ) → k ≤ x → x ≤ j → f x ≤ f j) →
    most f (j + 1) ≡ max (most f k) (f j)
most_skip f k j h g = omega (arith, up, earlier, own)
  where
    up : most f (j + 1) ≤ max (most f k) (f j)
    up =
        (most_le f (j + 1) _).1
        (λ x l.
        ⊎_elim (λ (b : x < k). omega (arith, (most_le f k (most f k)).0 (le_refl _) x b)) (λ (b : k ≤ x). omega (arith, g x b (omega arith)))
        (lt_or_le x k))

    earlier : most f k ≤ most f (j + 1)
    earlier = (most_le f k _).1 (λ x l. (most_le f (j + 1) _).0 (le_refl _) x (omega arith))

    own : f j ≤ most f (j + 1)
    own = (most_le f (j + 1) _).0 (le_refl _) j (omega arith)

module _ (q : Queue) (v : Valid q) (i : ℕ) (s : Sender q i) where
  number_rises : (k l : ℕ) → k ≤ l → number_for q i k ≤ number_for q i l
  unfolding number
  number_rises k l h =
      ⊎_elim
      (λ (b : k < l).
      omega (arith, number_less q v i k i l s s (inl (omega (arith, period_pos q v i s.row, mul-le-mul_right (q.period i) b)))))
      (λ (b : l ≤ k). let e : k ≡ l = omega arith in rw e (le_refl _))
      (lt_or_le k l)

  -- the jobs k to j are all released before the horizon moves
  need_rises : (chart wanted k x j : ℕ) → 1 ≤ chart → k ≤ x → x ≤ j →
      release_of q i j < horizon_for chart wanted (release_of q i k) + wanted + chart → need_for q chart wanted i x ≤ need_for q chart wanted i j
  need_rises chart wanted k x j pos a b h =
      let low : release_of q i k ≤ release_of q i x = mul-le-mul_right (q.period i) a in
      let up : release_of q i x ≤ release_of q i j = mul-le-mul_right (q.period i) b in
      rw (
        horizon_stays chart wanted (release_of q i k) (release_of q i x) pos low (omega arith),
        horizon_stays chart wanted (release_of q i k) (release_of q i j) pos (omega arith) h,
      )
      (omega (arith, number_rises x j b))

  pub needs_jump : (chart wanted o k j : ℕ) → 1 ≤ chart → k ≤ j →
      release_of q i (o + j) < horizon_for chart wanted (release_of q i (o + k)) + wanted + chart →
      most (λ x. need_for q chart wanted i (o + x)) (j + 1)
      ≡ max (most (λ x. need_for q chart wanted i (o + x)) k) (need_for q chart wanted i (o + j))
  needs_jump chart wanted o k j pos l h =
      most_skip (λ x. need_for q chart wanted i (o + x)) k j l
      (λ x a b. need_rises chart wanted (o + k) (o + x) (o + j) pos (omega arith) (omega arith) h)
