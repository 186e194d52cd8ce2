-- A hyperperiod later: the same jobs, with as many messages more before each as a hyperperiod has.
use Rattle.std.specs.Prelude.{◌+◌, ◌-◌, ◌/◌, ◌≤◌, ◌≡◌}
use Rattle.common.specs.Words.{ℕ, arith, true, false, ⊎_elim, ◌∙◌}
use Rattle.common.specs.Tests.{true_or_false}
use Rattle.common.specs.Totals.{only, only_eq, only_add, sum_ext, sum_add}
use Rattle.model.specs.Model.{Queue, Valid, Sender, receiver_period, messages, count_of, up_to, release_of, deadline_of, number, precedes, horizon}
use Rattle.model.specs.Model.{wanted_for, outdated}
use Rattle.model.specs.Source.{CommonMultiple, jobs_before}
use Rattle.model.proofs.Count.{count_hyper}
use Rattle.model.proofs.Order.{period_pos, deadline_positive}
use Rattle.model.proofs.Number.{up_to_mono, number_counts}
use Rattle.model.proofs.Outdating.{horizon_later, horizon_later_le}

module _ (q : Queue) (v : Valid q) (H : ℕ) (hy : CommonMultiple q H) where
  -- a hyperperiod later: `messages` messages more
  row_later : (t j : ℕ) → Sender q j → count_of q (t + H) j ≡ count_of q t j + H / q.period j
  row_later t j s = count_hyper (q.period j) (q.deadline j) (period_pos q v j s.row) (v.deadline_fits j s.row) t H (hy.row j s)

  pub up_to_later : (t : ℕ) → up_to q (t + H) ≡ up_to q t + messages q H
  unfolding up_to messages
  up_to_later t =
      sum_ext _ (λ j. only (q.sends j) (count_of q t j) + only (q.sends j) (H / q.period j)) q.rows
      (λ j l. only_eq (q.sends j) _ _ (λ y. row_later t j (record { row = l; on = y })) ∙ only_add (q.sends j) _ _)
      ∙ sum_add _ _ q.rows

  -- the same job of the next hyperperiod
  pub deadline_later : (i k : ℕ) → Sender q i → deadline_of q i (k + H / q.period i) ≡ deadline_of q i k + H
  deadline_later i k s = omega (arith, hy.row i s)

  pub release_later : (i k : ℕ) → Sender q i → release_of q i (k + H / q.period i) ≡ release_of q i k + H
  release_later i k s = omega (arith, hy.row i s)

  before_later : (i k j : ℕ) → Sender q i → Sender q j →
      jobs_before q i (k + H / q.period i) j ≡ jobs_before q i k j + H / q.period j
  unfolding jobs_before
  before_later i k j li lj =
      let e : deadline_of q i k + H - 1 ≡ deadline_of q i k - 1 + H = omega (arith, deadline_positive q v i k li) in
      rw (deadline_later i k li)
      (⊎_elim (λ (p : precedes q j i ≡ true). rw p (row_later (deadline_of q i k) j lj))
      (λ (p : precedes q j i ≡ false). rw (p, e) (row_later (deadline_of q i k - 1) j lj))
      (true_or_false (precedes q j i)))

  pub number_later : (i k : ℕ) → Sender q i → number q i (k + H / q.period i) ≡ number q i k + messages q H
  unfolding messages
  number_later i k s =
      omega (
        arith,
        number_counts q v i k s,
        number_counts q v i (k + H / q.period i) s,
        sum_ext _ (λ j. only (q.sends j) (jobs_before q i k j) + only (q.sends j) (H / q.period j)) q.rows
            (λ j l. only_eq (q.sends j) _ _ (λ y. before_later i k j s (record { row = l; on = y })) ∙ only_add (q.sends j) _ _)
            ∙ sum_add _ _ q.rows,
      )

  -- so are the outdated ones, from tick `wanted_for` on; and never more
  pub outdated_later : (r : ℕ) → wanted_for q ≤ r → outdated q (r + H) ≡ outdated q r + messages q H
  unfolding outdated
  outdated_later r h =
      rw (rw hy.receiver at (horizon_later q v r (H / receiver_period q) h)) (up_to_later (horizon q r))

  pub outdated_later_le : (r : ℕ) → outdated q (r + H) ≤ outdated q r + messages q H
  unfolding outdated
  outdated_later_le r =
      omega (
        arith,
        up_to_later (horizon q r),
        up_to_mono q v _ _ (rw hy.receiver at (horizon_later_le q v r (H / receiver_period q))),
      )
