-- A queue whose rows stand in another order. Releases, deadlines, windows and the ticks at which messages are outdated do not hang on the
-- order of the rows; and where the messages have the same numbers, the queue has the same slots. Priorities are not asked for here.
use Rattle.std.specs.Prelude.{◌+◌, ◌-◌, ◌*◌, ◌/◌, ◌<◌, ◌≤◌, ◌↔◌, ◌≡◌}
use Rattle.common.specs.Words.{ℕ, arith, sym, ap, subst, ◌∙◌}
use Rattle.common.specs.Totals.{sum, sum_ext}
use Rattle.model.specs.Model.{Queue, Valid, Sender, receiver_period, receiver_deadline, release_of, deadline_of, row_up_to, up_to, due_at, number}
use Rattle.model.specs.Model.{first, last, wanted_for, hyperperiod, row_messages, messages, slots}
use Rattle.model.specs.Source.{Fit, outdated_at, CommonMultiple}
use Rattle.model.proofs.Multiple.{hyperperiod_common, hyperperiod_least}
use Rattle.model.proofs.Slots.{slots_fit, slots_least}
use Rattle.priorities.specs.Priorities.{Permuted}
use Rattle.priorities.proofs.Sums.{sum_permuted}

module _ {q p : Queue} {s r : ℕ → ℕ} (m : Permuted q p s r) where
  pub permuted_sender : (i : ℕ) → Sender q i → Sender p (s i)
  permuted_sender i x = record { row = rw m.rows (m.order.to i x.row); on = m.sends i x.row ∙ x.on }

  pub sender_permuted : (j : ℕ) → Sender p j → Sender q (r j)
  sender_permuted j x =
      let l : j < q.rows = rw m.rows at x.row in
      record { row = m.order.from j l; on = sym (m.sends (r j) (m.order.from j l)) ∙ rw (m.order.forth j l) x.on }

  -- releases and deadlines,
  pub release_permuted : (i k : ℕ) → i < q.rows → release_of p (s i) k ≡ release_of q i k
  release_permuted i k l = rw (m.period i l)

  pub deadline_permuted : (i k : ℕ) → i < q.rows → deadline_of p (s i) k ≡ deadline_of q i k
  deadline_permuted i k l = rw (m.period i l, m.deadline i l)

  pub due_permuted : (t j : ℕ) → j < q.rows → due_at p t (s j) ≡ due_at q t j
  unfolding due_at
  due_permuted t j l = rw (m.sends j l, m.period j l, m.deadline j l)

  -- the count of the messages, and so the windows,
  pub up_to_permuted : (t : ℕ) → up_to p t ≡ up_to q t
  unfolding up_to
  up_to_permuted t =
      ap (sum (row_up_to p t)) m.rows
      ∙ sym (sum_permuted q.rows s r m.order (row_up_to p t))
      ∙ sum_ext _ _ q.rows (λ j l. rw (m.sends j l, m.period j l, m.deadline j l))

  module _ (v : Valid q) where
    receiver_permuted : (receiver_period p ≡ receiver_period q) × (receiver_deadline p ≡ receiver_deadline q)
    receiver_permuted = rw m.receiver (m.period q.receiver v.receiver_row, m.deadline q.receiver v.receiver_row)

    pub window_permuted : (w : ℕ) → (first p w ≡ first q w) × (last p w ≡ last q w)
    unfolding last
    window_permuted w =
        rw receiver_permuted.0 (rw (up_to_permuted ((w - 1) * receiver_period q)), up_to_permuted (w * receiver_period q))

    -- and the tick at which a message is outdated.
    pub outdated_permuted : (d : ℕ) → outdated_at p d ≡ outdated_at q d
    unfolding outdated_at wanted_for
    outdated_permuted d = rw (receiver_permuted.0, receiver_permuted.1)

    permuted_valid : Valid p
    permuted_valid = record {
      receiver_row = rw (m.rows, m.receiver) (m.order.to q.receiver v.receiver_row);
      deadline_pos = λ j l.
          let b : j < q.rows = rw m.rows at l in
          subst (λ (x : ℕ). 1 ≤ p.deadline x) (m.order.forth j b)
          (rw (m.deadline (r j) (m.order.from j b)) (v.deadline_pos (r j) (m.order.from j b)));
      deadline_fits = λ j l.
          let b : j < q.rows = rw m.rows at l in
          subst (λ (x : ℕ). p.deadline x ≤ p.period x) (m.order.forth j b)
          (rw (m.deadline (r j) (m.order.from j b), m.period (r j) (m.order.from j b)) (v.deadline_fits (r j) (m.order.from j b)));
    }

    -- Rules 4 and 5 judge alike: the hyperperiod, and the messages in so many ticks, are the same.
    common_there : (H : ℕ) → CommonMultiple q H → CommonMultiple p H
    common_there H c = record {
      pos = c.pos;
      receiver = rw receiver_permuted.0 c.receiver;
      row = λ j x.
          let l : j < q.rows = rw m.rows at x.row in
          subst (λ (y : ℕ). H / p.period y * p.period y ≡ H) (m.order.forth j l)
          (rw (m.period (r j) (m.order.from j l)) (c.row (r j) (sender_permuted j x)));
    }

    common_back : (H : ℕ) → CommonMultiple p H → CommonMultiple q H
    common_back H c = record {
      pos = c.pos;
      receiver = rw receiver_permuted.0 at c.receiver;
      row = λ i x. rw (m.period i x.row) at (c.row (s i) (permuted_sender i x));
    }

    pub hyperperiod_permuted : hyperperiod p ≡ hyperperiod q
    hyperperiod_permuted =
        omega (
          arith,
          (hyperperiod_least p permuted_valid (hyperperiod q) (common_there (hyperperiod q) (hyperperiod_common q v))).1,
          (hyperperiod_least q v (hyperperiod p) (common_back (hyperperiod p) (hyperperiod_common p permuted_valid))).1,
        )

    pub messages_permuted : (H : ℕ) → messages p H ≡ messages q H
    unfolding messages
    messages_permuted H =
        ap (sum (row_messages p H)) m.rows
        ∙ sym (sum_permuted q.rows s r m.order (row_messages p H))
        ∙ sum_ext _ _ q.rows (λ j l. rw (m.sends j l, m.period j l))

    -- Where each message has the same number in both,
    module _ (alike : (i k : ℕ) → Sender q i → number p (s i) k ≡ number q i k) where
      -- the same sizes are fit,
      fit_permuted : (L : ℕ) → Fit q L ↔ Fit p L
      fit_permuted L = (there, back)
        where
          back : Fit p L → Fit q L
          back f i k j l si sj e =
              omega (
                arith,
                release_permuted j l sj.row,
                outdated_permuted (deadline_of q i k),
                rw (deadline_permuted i k si.row) at
                    (f (s i) k (s j) l (permuted_sender i si) (permuted_sender j sj) (omega (arith, alike i k si, alike j l sj))),
              )

          -- (i, k) is outdated before (j, l) takes its slot
          Late : ℕ → ℕ → ℕ → ℕ → Type 0
          Late i k j l = number p j l ≡ number p i k + L → outdated_at p (deadline_of p i k) ≤ release_of p j l

          moved : Fit q L → (i k j l : ℕ) → Sender q i → Sender q j → Late (s i) k (s j) l
          moved f i k j l si sj e =
              rw (deadline_permuted i k si.row)
              (omega (
                arith,
                release_permuted j l sj.row,
                outdated_permuted (deadline_of q i k),
                f i k j l si sj (omega (arith, alike i k si, alike j l sj)),
              ))

          there : Fit q L → Fit p L
          there f i k j l si sj =
              subst (λ (x : ℕ). Late x k j l) (m.order.forth i (rw m.rows at si.row))
              (subst (λ (x : ℕ). Late (s (r i)) k x l) (m.order.forth j (rw m.rows at sj.row))
              (moved f (r i) k (r j) l (sender_permuted i si) (sender_permuted j sj)))

      -- and the queue has the same slots.
      pub slots_permuted : slots p ≡ slots q
      slots_permuted =
          omega (
            arith,
            slots_least p permuted_valid (slots q) ((fit_permuted (slots q)).0 (slots_fit q v)),
            slots_least q v (slots p) ((fit_permuted (slots p)).1 (slots_fit p permuted_valid)),
          )
