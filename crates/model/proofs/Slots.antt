-- The least number of slots: the second hyperperiod decides, and its greatest need is the least fit size.
use Rattle.std.specs.Prelude.{◌+◌, ◌-◌, ◌*◌, ◌/◌, ◌<◌, ◌≤◌, ◌↔◌, ◌≡◌}
use Rattle.common.specs.Words.{ℕ, zero, suc, arith, mul-le-mul_right, lt_of_mul-lt-mul_right, le_of_mul-le-mul_right, le_refl, true, false}
use Rattle.common.specs.Words.{⊎_elim, ap}
use Rattle.common.specs.Tests.{lt_or_le, true_or_false}
use Rattle.common.specs.Totals.{most_le}
use Rattle.model.specs.Model.{Queue, Valid, Sender, receiver_period, release_of, wanted_for, need, row_slots, slots_over, slots, hyperperiod}
use Rattle.model.specs.Source.{CommonMultiple, Fit}
use Rattle.model.proofs.Order.{period_pos}
use Rattle.model.proofs.Outdating.{wanted_fits}
use Rattle.model.proofs.Fit.{Free, fit_iff, fit_pos}
use Rattle.model.proofs.Multiple.{hyperperiod_common}
use Rattle.model.proofs.Later.{release_later, number_later, outdated_later, outdated_later_le}

module _ (q : Queue) (v : Valid q) where
  module _ (H : ℕ) (hy : CommonMultiple q H) where
    hyper_jobs : (i : ℕ) → Sender q i → 1 ≤ H / q.period i
    hyper_jobs i s = lt_of_mul-lt-mul_right (q.period i) (omega (arith, hy.row i s, hy.pos))

    hyper_wanted : wanted_for q ≤ H
    hyper_wanted =
        omega (arith, wanted_fits q v, hy.receiver, mul-le-mul_right (receiver_period q) hyper_receiver)
      where
        hyper_receiver : 1 ≤ H / receiver_period q
        hyper_receiver = lt_of_mul-lt-mul_right (receiver_period q) (omega (arith, hy.receiver, hy.pos))

    -- a slot that is free for a message is free for the same job of the next hyperperiod, and the other way round
    free_later : (L i k : ℕ) → Sender q i → wanted_for q ≤ release_of q i k → Free q L i k → Free q L i (k + H / q.period i)
    free_later L i k s h f =
        rw (release_later q v H hy i k s) (omega (arith, number_later q v H hy i k s, outdated_later q v H hy (release_of q i k) h))

    free_back : (L i k : ℕ) → Sender q i → Free q L i (k + H / q.period i) → Free q L i k
    free_back L i k s f =
        omega (arith, number_later q v H hy i k s, outdated_later_le q v H hy (release_of q i k), rw (release_later q v H hy i k s) at f)

    -- the jobs of the second hyperperiod, released at H .. 2 * H - 1, decide all
    pub second_is_enough : (L : ℕ) →
        ((i k : ℕ) → Sender q i → H ≤ release_of q i k → release_of q i k < 2 * H → Free q L i k) →
        (i k : ℕ) → Sender q i → Free q L i k
    second_is_enough L second i k s = go (suc k) k (omega arith)
      where
        go : (fuel k : ℕ) → k < fuel → Free q L i k
        go zero k l = absurd (omega arith)
        go (suc fuel) k l =
            ⊎_elim
            (λ (a : release_of q i k < H).
            free_back L i k s
            (second i (k + H / q.period i) s (omega (arith, release_later q v H hy i k s)) (omega (arith, release_later q v H hy i k s))))
            (λ (a : H ≤ release_of q i k).
            ⊎_elim (λ (b : release_of q i k < 2 * H). second i k s a b)
            (λ (b : 2 * H ≤ release_of q i k).
            let c : H / q.period i ≤ k =
            le_of_mul-le-mul_right {k = q.period i} (omega (arith, hy.row i s)) (period_pos q v i s.row) in
            let e : (k - H / q.period i) + H / q.period i ≡ k = omega arith in
            rw e at
            (free_later L i (k - H / q.period i) s
            (omega (arith, hyper_wanted, release_later q v H hy i (k - H / q.period i) s, ap (release_of q i) e))
            (go fuel (k - H / q.period i) (omega (arith, hyper_jobs i s)))))
            (lt_or_le (release_of q i k) (2 * H)))
            (lt_or_le (release_of q i k) H)

    -- the greatest need of the second hyperperiod is the least fit size
    pub over_iff : (L : ℕ) → Fit q L ↔ (slots_over q H ≤ L)
    unfolding slots_over row_slots need
    over_iff L = (there, back)
      where
        there : Fit q L → slots_over q H ≤ L
        there f =
            (most_le _ q.rows L).1
            (λ i l.
            ⊎_elim
            (λ (y : q.sends i ≡ true).
            rw y
            ((most_le _ (H / q.period i) L).1
            (λ k b. omega (arith, (fit_iff q v L).0 f i (H / q.period i + k) (record { row = l; on = y })))))
            (λ (n : q.sends i ≡ false). rw n (omega arith))
            (true_or_false (q.sends i)))

        row_free : slots_over q H ≤ L → (i k : ℕ) → Sender q i → H / q.period i ≤ k → k < 2 * (H / q.period i) → Free q L i k
        row_free h i k s a b =
            let e : H / q.period i + (k - H / q.period i) ≡ k = omega arith in
            let r : row_slots q H i ≤ L = rw s.on at ((most_le _ q.rows L).0 h i s.row) in
            omega (arith, rw e at ((most_le _ (H / q.period i) L).0 r (k - H / q.period i) (omega arith)))

        back : slots_over q H ≤ L → Fit q L
        back h =
            (fit_iff q v L).1
            (second_is_enough L
            (λ i k s a b.
            row_free h i k s
            (le_of_mul-le-mul_right {k = q.period i} (omega (arith, hy.row i s)) (period_pos q v i s.row))
            (lt_of_mul-lt-mul_right (q.period i) (omega (arith, hy.row i s)))))

  -- "The plan gives each queue its least fit L": L is fit exactly when it is at least `slots`
  pub slots_iff : (L : ℕ) → Fit q L ↔ (slots q ≤ L)
  unfolding slots
  slots_iff L = over_iff (hyperperiod q) (hyperperiod_common q v) L

  pub slots_fit : Fit q (slots q)
  slots_fit = (slots_iff (slots q)).1 (le_refl _)

  pub slots_least : (L : ℕ) → Fit q L → slots q ≤ L
  slots_least L f = (slots_iff L).0 f

  pub slots_pos : (i : ℕ) → Sender q i → 1 ≤ slots q
  slots_pos i s = fit_pos q v (slots q) i s slots_fit

  -- any other common multiple gives the same size
  pub slots_any : (H : ℕ) → CommonMultiple q H → slots_over q H ≡ slots q
  slots_any H hy = omega (
    arith,
    (over_iff H hy (slots q)).0 slots_fit,
    (slots_iff (slots_over q H)).0 ((over_iff H hy (slots_over q H)).1 (le_refl _)),
  )
