-- The way back from a number: it leads to the one message that has the number, and its deadline is the least tick with so many messages.
-- It leans on Number's laws: numbers are one-to-one, and each is some message's.
use Rattle.std.specs.Prelude.{◌-◌, ◌<◌, ◌≤◌, ◌↔◌, ◌≡◌}
use Rattle.common.specs.Words.{ℕ, zero, suc, arith, mul-div_cancel, add-sub_cancel, lt_of_not-le, not-le_of_lt, Bool, true, false, not, ⊎_elim}
use Rattle.common.specs.Words.{refl, sym, ◌∙◌, ltb, lt-ltb, le-ltb, eq-eqb, eqb-true, ltb-false, ltb-true}
use Rattle.common.specs.Tests.{lt_or_le, having, and_left, and_right}
use Rattle.common.proofs.Rows.{first_bad, FirstBad, first_bad_is, first_bad_only}
use Rattle.model.specs.Model.{Queue, Valid, Sender, deadline_of, up_to, due_at, followers, number, tick_of, sent_by, sender_of, job_of}
use Rattle.model.proofs.Count.{has_job}
use Rattle.model.proofs.Order.{period_pos, deadline_positive}
use Rattle.model.proofs.Number.{up_to_mono, up_to_zero, number_iff, number_above, number_below, number_inj, number_at, due_at_own}

module _ (q : Queue) (v : Valid q) where
  -- a tick that has n messages up to it, where the tick before has fewer
  pub tick_of_is : (last_tick n t : ℕ) → 1 ≤ t → t ≤ last_tick → up_to q (t - 1) < n → n ≤ up_to q t → tick_of q last_tick n ≡ t
  unfolding tick_of
  tick_of_is last_tick n t pos h lo hi =
      first_bad_only _ last_tick t (record {
        within = h;
        before = λ u l. lt-ltb (up_to q u) n (omega (arith, up_to_mono q v u (t - 1) (omega arith)));
        bad = λ l. le-ltb _ _ hi;
      })

  -- a row that is due at a tick sends, and one of its jobs has its deadline there
  pub due_at_job : (t i : ℕ) → i < q.rows → due_at q t i ≡ true → (k : ℕ) × Sender q i × (deadline_of q i k ≡ t)
  unfolding due_at
  due_at_job t i l h =
      having (has_job (q.period i) (q.deadline i) t (period_pos q v i l) (and_right (q.sends i) _ h))
      (λ j. (j.0, record { row = l; on = and_left (q.sends i) _ h }, j.1))

  -- no other row's message has the number
  pub sent_by_only : (t n i k j : ℕ) → Sender q i → number q i k ≡ n → j < q.rows → sent_by q t n j ≡ true → j ≡ i
  unfolding number
  sent_by_only t n i k j s e l h =
      having (due_at_job t j l (and_left (due_at q t j) _ h))
      (λ m.
      let x : up_to q t - followers q t j ≡ n = eqb-true _ _ (and_right (due_at q t j) _ h) in
      (number_inj q v j m.0 i k m.1 s (rw m.2 (x ∙ sym e))).0)

  module _ (i k last_tick : ℕ) (s : Sender q i) (early : deadline_of q i k ≤ last_tick) where
    back_tick : tick_of q last_tick (number q i k) ≡ deadline_of q i k
    back_tick = tick_of_is last_tick (number q i k) (deadline_of q i k) (deadline_positive q v i k s) early (number_above q v i k s)
        (number_below q v i k s)

    own_row : sent_by q (deadline_of q i k) (number q i k) i ≡ true
    unfolding number
    own_row = rw (due_at_own q v i k s, eq-eqb (number q i k) (number q i k) refl)

    back_sender : sender_of q last_tick (number q i k) ≡ i
    unfolding sender_of
    back_sender =
        rw back_tick
        (first_bad_only _ q.rows i (record {
          within = omega (arith, s.row);
          before = λ j l. others j l (sent_by q (deadline_of q i k) (number q i k) j) refl;
          bad = λ l. rw own_row;
        }))
      where
        others : (j : ℕ) → j < i → (b : Bool) → sent_by q (deadline_of q i k) (number q i k) j ≡ b → not b ≡ true
        others j l true h = absurd (omega (arith, sent_by_only (deadline_of q i k) (number q i k) i k j s refl (omega (arith, s.row)) h))
        others j l false h = refl

    back_job : job_of q last_tick (number q i k) ≡ k
    unfolding job_of
    back_job = rw (back_tick, back_sender, add-sub_cancel) (mul-div_cancel k (period_pos q v i s.row))

  -- from a message to its number and back: its deadline, its sender and its job
  pub way_back :
      (i k n last_tick : ℕ) → Sender q i → number q i k ≡ n → deadline_of q i k ≤ last_tick →
      (tick_of q last_tick n ≡ deadline_of q i k) × (sender_of q last_tick n ≡ i) × (job_of q last_tick n ≡ k)
  way_back i k n last_tick s e h =
      rw (← e) (back_tick i k last_tick s h, back_sender i k last_tick s h, back_job i k last_tick s h)

  -- what the search for the tick finds
  pub tick_of_found : (last_tick n : ℕ) → 1 ≤ n → n ≤ up_to q last_tick →
      (1 ≤ tick_of q last_tick n) × (tick_of q last_tick n ≤ last_tick) × (up_to q (tick_of q last_tick n - 1) < n)
      × (n ≤ up_to q (tick_of q last_tick n))
  unfolding tick_of
  tick_of_found last_tick n pos h =
      having (first_bad_is (λ t. ltb (up_to q t) n) last_tick)
      (λ f. go (first_bad (λ t. ltb (up_to q t) n) last_tick) f (reached (first_bad (λ t. ltb (up_to q t) n) last_tick) f))
    where
      reached : (t : ℕ) → FirstBad (λ t. ltb (up_to q t) n) last_tick t → n ≤ up_to q t
      reached t f =
          ⊎_elim (λ (l : t < last_tick). ltb-false _ _ (f.bad l))
          (λ (g : last_tick ≤ t). let e : last_tick ≡ t = omega (arith, f.within) in rw e at h)
          (lt_or_le t last_tick)

      go : (t : ℕ) → FirstBad (λ t. ltb (up_to q t) n) last_tick t → n ≤ up_to q t →
          (1 ≤ t) × (t ≤ last_tick) × (up_to q (t - 1) < n) × (n ≤ up_to q t)
      go zero f r = absurd (omega (arith, up_to_zero q v))
      go (suc t) f r =
          let e : suc t - 1 ≡ t = omega arith in
          (omega arith, f.within, rw e (ltb-true (up_to q t) n (f.before t (omega arith))), r)

  -- from a number to its message and back
  pub way_there :
      (n last_tick : ℕ) → 1 ≤ n → n ≤ up_to q last_tick →
      Sender q (sender_of q last_tick n) × (number q (sender_of q last_tick n) (job_of q last_tick n) ≡ n)
      × (deadline_of q (sender_of q last_tick n) (job_of q last_tick n) ≤ last_tick)
  way_there n last_tick pos h =
      having (tick_of_found last_tick n pos h)
      (λ f.
      let e : suc (tick_of q last_tick n - 1) ≡ tick_of q last_tick n = omega (arith, f.0) in
      having (number_at q v (tick_of q last_tick n - 1) n f.2 (rw e f.3))
      (λ m.
      let b : (tick_of q last_tick n ≡ deadline_of q m.0 m.1) × (sender_of q last_tick n ≡ m.0) × (job_of q last_tick n ≡ m.1) =
      way_back m.0 m.1 n last_tick m.2 m.3 (omega (arith, m.4, e, f.1)) in
      rw (b.1, b.2) (m.2, m.3, omega (arith, m.4, e, f.1))))

  -- and the tick that was searched for is that message's deadline
  pub tick_there :
      (n last_tick : ℕ) → 1 ≤ n → n ≤ up_to q last_tick →
      tick_of q last_tick n ≡ deadline_of q (sender_of q last_tick n) (job_of q last_tick n)
  tick_there n last_tick pos h =
      having (way_there n last_tick pos h) (λ m. (way_back (sender_of q last_tick n) (job_of q last_tick n) n last_tick m.0 m.1 m.2).0)

  -- of a number from 1 on: it is beyond the count up to a last tick exactly where its message's deadline is past that tick
  pub past_iff : (i k last_tick : ℕ) → Sender q i → (up_to q last_tick < number q i k) ↔ (last_tick < deadline_of q i k)
  past_iff i k last_tick s = (
    λ h. lt_of_not-le (λ g. not-le_of_lt h ((number_iff q v i k s last_tick).1 g)),
    λ h. lt_of_not-le (λ g. not-le_of_lt h ((number_iff q v i k s last_tick).0 g)),
  )
