-- Message numbers: equation 2 is one more than the count of the messages before. The numbers rise with the order, and each from 1 on
-- belongs to exactly one message, whose deadline is the least tick with so many messages up to it.
use Rattle.std.specs.Prelude.{◌+◌, ◌-◌, ◌*◌, ◌<◌, ◌≤◌, ◌↔◌, ◌≡◌}
use Rattle.common.specs.Words.{ℕ, suc, arith, ℕ_discrete, Bool, true, false, ⊎_elim, refl, sym, subst, ◌∙◌, eqb}
use Rattle.common.specs.Totals.{only, sum, only_le, only_eq, only_most, only_zero, sum_le, sum_bound, sum_ext, sum_add, sum_one, sum_zero, sum_at}
use Rattle.common.specs.Totals.{only_self, only_other, crossing}
use Rattle.model.specs.Model.{Queue, Valid, Sender, has_deadline, deadline_of, count_of, up_to, due_at, precedes, followers, number}
use Rattle.model.specs.Source.{Before, jobs_before}
use Rattle.common.specs.Tests.{lt_or_le, true_or_false, having, clash, and_left, and_right}
use Rattle.common.specs.Rank.{size, rank, rank_less, rank_onto}
use Rattle.model.proofs.Count.{count_mono, count_before, count_le, count_own, count_tick, has_own, has_job}
use Rattle.model.proofs.Ties.{prec_irrefl, prec_trans, prec_total, prec_asym, prec_ne}
use Rattle.model.proofs.Order.{period_pos, deadline_positive, before_total}

module _ (q : Queue) (v : Valid q) where
  pub up_to_mono : (t u : ℕ) → t ≤ u → up_to q t ≤ up_to q u
  unfolding up_to
  up_to_mono t u h = sum_le _ _ q.rows (λ j l. only_le (q.sends j) _ _ (λ y. count_mono _ _ (period_pos q v j l) t u h))

  -- no overflow: no more messages than rows times ticks
  pub up_to_le : (t : ℕ) → up_to q t ≤ q.rows * t
  unfolding up_to
  up_to_le t =
      sum_bound _ q.rows t
      (λ j l.
      only_most (q.sends j) _ t
      (λ y.
      let s : Sender q j = record { row = l; on = y } in
      count_le (q.period j) (q.deadline j) (period_pos q v j s.row) (v.deadline_pos j s.row) t))

  tick_of_lem : (t j : ℕ) → Sender q j → 1 ≤ t → count_of q t j
      ≡ count_of q (t - 1) j + only (has_deadline (q.period j) (q.deadline j) t) 1
  tick_of_lem t j s h = count_tick (q.period j) (q.deadline j) t (period_pos q v j s.row) (v.deadline_pos j s.row) h

  -- one row at tick t: what was counted before, and one if the row is due_at
  row_tick : (t j : ℕ) → j < q.rows → 1 ≤ t →
      only (q.sends j) (count_of q t j) ≡ only (q.sends j) (count_of q (t - 1) j) + only (due_at q t j) 1
  unfolding due_at
  row_tick t j l h =
      ⊎_elim (λ (y : q.sends j ≡ true). rw y (tick_of_lem t j (record { row = l; on = y }) h))
      (λ (n : q.sends j ≡ false). rw n)
      (true_or_false (q.sends j))

  pub up_to_tick : (t : ℕ) → 1 ≤ t → up_to q t ≡ up_to q (t - 1) + size (due_at q t) q.rows
  unfolding up_to size
  up_to_tick t h = sum_ext _ _ q.rows (λ j l. row_tick t j l h) ∙ sum_add _ _ q.rows

  module _ (i k : ℕ) (s : Sender q i) where
    row_numbers : (j : ℕ) → j < q.rows →
        only (q.sends j) (count_of q (deadline_of q i k) j) ≡
        only (due_at q (deadline_of q i k) j) (only (precedes q i j) 1) + only (q.sends j) (jobs_before q i k j) + only (eqb j i) 1
    unfolding due_at jobs_before
    row_numbers j l = go (q.sends j) (precedes q j i) refl refl
      where
        Goal : Type 0
        Goal =
            only (q.sends j) (count_of q (deadline_of q i k) j) ≡
            only (due_at q (deadline_of q i k) j) (only (precedes q i j) 1) + only (q.sends j) (jobs_before q i k j) + only (eqb j i) 1

        tick : q.sends j ≡ true → count_of q (deadline_of q i k) j
            ≡ count_of q (deadline_of q i k - 1) j + only (has_deadline (q.period j) (q.deadline j) (deadline_of q i k)) 1
        tick on = tick_of_lem (deadline_of q i k) j (record { row = l; on = on }) (deadline_positive q v i k s)

        -- the message's own row
        own : q.sends j ≡ true → precedes q j i ≡ false → j ≡ i → Goal
        own on p e =
            let p' : precedes q i j ≡ false = subst (λ (x : ℕ). precedes q i x ≡ false) (sym e) (prec_irrefl q i) in
            let has : has_deadline (q.period j) (q.deadline j) (deadline_of q i k) ≡ true =
            subst (λ (x : ℕ). has_deadline (q.period x) (q.deadline x) (deadline_of q i k) ≡ true) (sym e)
            (has_own _ _ k (period_pos q v i s.row) (v.deadline_pos i s.row)) in
            rw (on, p, p', only_zero) (omega (arith, rw has at (tick on), only_self j i e))

        -- by whether row j sends, and whether it goes before row i
        go : (sent first : Bool) → q.sends j ≡ sent → precedes q j i ≡ first → Goal
        go false first off p = rw off (omega (arith, only_other j i (λ e. clash s.on (subst (λ (x : ℕ). q.sends x ≡ false) e off))))
        go true true on p = rw (on, p, prec_asym q j i p, only_zero) (omega (arith, only_other j i (prec_ne q j i p)))
        go true false on p =
            elim (ℕ_discrete j i) [ yes e ↦ own on p e | no n ↦ rw (on, p, prec_total q j i n p) (omega (arith, only_other j i n, tick on)) ]

    numbers : up_to q (deadline_of q i k) ≡
        followers q (deadline_of q i k) i + sum (λ j. only (q.sends j) (jobs_before q i k j)) q.rows + 1
    unfolding up_to followers
    numbers =
        sum_ext _ _ q.rows row_numbers ∙ sum_add _ _ q.rows ∙
        omega (
          arith,
          sum_add (λ j. only (due_at q (deadline_of q i k) j) (only (precedes q i j) 1)) (λ j. only (q.sends j) (jobs_before q i k j))
              q.rows,
          sum_one q.rows i s.row,
        )

    -- so equation 2's difference does not underflow
    pub followers_less : followers q (deadline_of q i k) i < up_to q (deadline_of q i k)
    followers_less = omega (arith, numbers)

    -- equation 2 is one more than the count of the messages before
    pub number_counts : number q i k ≡ 1 + sum (λ j. only (q.sends j) (jobs_before q i k j)) q.rows
    unfolding number
    number_counts = omega (arith, numbers)

    row_earlier : (j : ℕ) → j < q.rows →
        only (q.sends j) (jobs_before q i k j) ≡
        only (q.sends j) (count_of q (deadline_of q i k - 1) j) + only (due_at q (deadline_of q i k) j) (only (precedes q j i) 1)
    unfolding due_at jobs_before
    row_earlier j l = go (q.sends j) (precedes q j i) refl refl
      where
        go : (sent first : Bool) → q.sends j ≡ sent → precedes q j i ≡ first →
            only (q.sends j) (jobs_before q i k j) ≡
            only (q.sends j) (count_of q (deadline_of q i k - 1) j) + only (due_at q (deadline_of q i k) j) (only (precedes q j i) 1)
        go false first off p = rw off
        go true true on p = rw (on, p) (tick_of_lem (deadline_of q i k) j (record { row = l; on = on }) (deadline_positive q v i k s))
        go true false on p = rw (on, p, only_zero) (omega arith)

    -- the same number, counted from the tick before: a rank among the messages with the same deadline
    pub number_rank : number q i k ≡ 1 + up_to q (deadline_of q i k - 1) + rank (precedes q) (due_at q (deadline_of q i k)) q.rows i
    unfolding up_to rank
    number_rank =
        omega (arith, number_counts, sum_ext _ _ q.rows row_earlier ∙ sum_add _ _ q.rows)

    pub due_at_own : due_at q (deadline_of q i k) i ≡ true
    unfolding due_at
    due_at_own = rw (s.on, has_own (q.period i) (q.deadline i) k (period_pos q v i s.row) (v.deadline_pos i s.row))

    pub number_above : up_to q (deadline_of q i k - 1) < number q i k
    number_above = omega (arith, number_rank)

    pub number_below : number q i k ≤ up_to q (deadline_of q i k)
    unfolding number
    number_below = omega arith

    -- the deadline is the least t with number ≤ up_to q t
    pub number_iff : (t : ℕ) → (number q i k ≤ up_to q t) ↔ (deadline_of q i k ≤ t)
    number_iff t = (
      λ h. ⊎_elim (λ (l : t < deadline_of q i k). absurd (omega (arith, number_above, up_to_mono t (deadline_of q i k - 1) (omega arith))))
          (λ l. l)
          (lt_or_le t (deadline_of q i k)),
      λ h. omega (arith, number_below, up_to_mono (deadline_of q i k) t h),
    )

  -- the numbers rise with Definition 1's order
  pub number_less : (i k j l : ℕ) → Sender q i → Sender q j → Before q i k j l → number q i k < number q j l
  number_less i k j l si sj b =
      ⊎_elim
      (λ (h : deadline_of q i k < deadline_of q j l).
      omega (arith, number_below i k si, number_above j l sj, up_to_mono (deadline_of q i k) (deadline_of q j l - 1) (omega arith)))
      (λ (h : (deadline_of q i k ≡ deadline_of q j l) × (precedes q i j ≡ true)).
      omega (
        arith,
        number_rank i k si,
        rw (← h.0) at (number_rank j l sj),
        rank_less (precedes q) (prec_irrefl q) (prec_trans q) (prec_total q) (due_at q (deadline_of q i k)) q.rows i j si.row (due_at_own i k si)
            h.1,
      ))
      b

  -- one number, one message
  pub number_inj : (i k j l : ℕ) → Sender q i → Sender q j → number q i k ≡ number q j l → (i ≡ j) × (k ≡ l)
  number_inj i k j l si sj e =
      ⊎_elim (λ h. h)
      (λ b. absurd (⊎_elim (λ (h : Before q i k j l). omega (arith, number_less i k j l si sj h))
      (λ (h : Before q j l i k). omega (arith, number_less j l i k sj si h)) b))
      (before_total q v i k j l si sj)

  pub up_to_zero : up_to q 0 ≡ 0
  unfolding up_to
  up_to_zero =
      sum_zero _ q.rows
      (λ j l.
      only_eq (q.sends j) _ 0 (λ y. count_before (q.period j) (q.deadline j) 0 (v.deadline_pos j l))
      ∙ only_zero (q.sends j))

  up_to_reach : (i k : ℕ) → Sender q i → k < up_to q (deadline_of q i k)
  unfolding up_to
  up_to_reach i k s =
      let own : count_of q (deadline_of q i k) i ≡ k + 1 = count_own (q.period i) (q.deadline i) (period_pos q v i s.row) k in
      omega (arith, own, rw s.on at (sum_at (λ j. only (q.sends j) (count_of q (deadline_of q i k) j)) q.rows i s.row))

  -- the message with number n has its deadline at the tick where `up_to` reaches n (what a binary search finds)
  pub number_at : (t n : ℕ) → up_to q t < n → n ≤ up_to q (suc t) →
      (i : ℕ) × (k : ℕ) × Sender q i × (number q i k ≡ n) × (deadline_of q i k ≡ suc t)
  unfolding due_at
  number_at t n lo hi =
      let e : suc t - 1 ≡ t = omega arith in
      let tick : up_to q (suc t) ≡ up_to q t + size (due_at q (suc t)) q.rows = rw e at (up_to_tick (suc t) (omega arith)) in
      having (rank_onto (precedes q) (prec_irrefl q) (prec_trans q) (prec_total q) (due_at q (suc t)) q.rows (n - (up_to q t + 1)) (omega arith))
      (λ x.
      let s : Sender q x.0 = record { row = x.1; on = and_left (q.sends x.0) _ x.2 } in
      having (has_job (q.period x.0) (q.deadline x.0) (suc t) (period_pos q v x.0 x.1) (and_right (q.sends x.0) _ x.2))
      (λ j.
      (x.0, j.0, s, omega (arith, rw (j.1, e) at (number_rank x.0 j.0 s), x.3), j.1)))

  -- so every number from 1 on is some message's, where the queue has a sender
  pub number_onto : (o n : ℕ) → Sender q o → 1 ≤ n → (i : ℕ) × (k : ℕ) × Sender q i × (number q i k ≡ n)
  number_onto o n so pos =
      having (crossing (up_to q) n (deadline_of q o n) (omega (arith, up_to_zero)) (omega (arith, up_to_reach o n so)))
      (λ c. having (number_at c.0 n c.1 c.2) (λ m. (m.0, m.1, m.2, m.3)))
