-- Equal deadlines by priority (request b): which of two messages has the lower number; that with one priority all is as by row alone; and
-- that the rows may be sorted where no two senders with a common deadline have one priority. It leans on the laws of Ties and Permuted.
use Rattle.std.specs.Prelude.{◌<◌, ◌≡◌}
use Rattle.common.specs.Words.{ℕ, ℕ_discrete, true, inr, refl, sym, ap, subst, ◌∙◌}
use Rattle.common.specs.Tests.{having}
use Rattle.common.specs.Totals.{sum, only_eq, sum_ext}
use Rattle.model.specs.Model.{Queue, Valid, Sender, deadline_of, up_to, due_at, precedes, row_followers, followers, number, first, last, slots}
use Rattle.model.specs.Source.{Ahead}
use Rattle.model.proofs.Ties.{prec_irrefl, prec_higher, prec_equal, prec_iff}
use Rattle.model.proofs.Number.{number_less}
use Rattle.model.proofs.WayBack.{due_at_job}
use Rattle.priorities.specs.Priorities.{Permuted, OnePriority, Told, by_row}
use Rattle.priorities.proofs.Sums.{sum_permuted}
use Rattle.priorities.proofs.Permuted.{deadline_permuted, due_permuted, up_to_permuted, slots_permuted}

-- "Of two messages of a queue with equal deadlines, the higher priority has the lower number; of equal priorities, the lower row."
pub ahead_lower : (q : Queue) → Valid q → (i k j l : ℕ) → Sender q i → Sender q j →
    deadline_of q i k ≡ deadline_of q j l → Ahead q i j → number q i k < number q j l
ahead_lower q v i k j l si sj e a = number_less q v i k j l si sj (inr (e, (prec_iff q i j).1 a))

-- Where two queues count alike and the messages that are due with a message go before and after it alike, it has the same number in both.
-- Rows may change places: row j of q is row s j of p.
module _ {q p : Queue} {s r : ℕ → ℕ} (m : Permuted q p s r) where
  number_alike : (i k : ℕ) → i < q.rows →
      ((j : ℕ) → j < q.rows → due_at q (deadline_of q i k) j ≡ true → precedes p (s i) (s j) ≡ precedes q i j) →
      number p (s i) k ≡ number q i k
  unfolding number followers
  number_alike i k l h = rw (deadline_permuted m i k l) (rw (up_to_permuted m (deadline_of q i k), follow))
    where
      follow : sum (row_followers p (deadline_of q i k) (s i)) p.rows ≡ sum (row_followers q (deadline_of q i k) i) q.rows
      follow =
          ap (sum (row_followers p (deadline_of q i k) (s i))) m.rows
          ∙ sym (sum_permuted q.rows s r m.order (row_followers p (deadline_of q i k) (s i)))
          ∙ sum_ext _ _ q.rows
          (λ j b.
          rw (due_permuted m (deadline_of q i k) j b)
          (only_eq (due_at q (deadline_of q i k) j) _ _ (λ d. rw (h j b d))))

-- ## One priority

module _ (q : Queue) (v : Valid q) where
  in_place : Permuted q (by_row q) (λ i. i) (λ i. i)
  in_place = record {
    rows = refl;
    order = record { to = λ i l. l; from = λ i l. l; back = λ i l. refl; forth = λ i l. refl };
    period = λ i l. refl;
    deadline = λ i l. refl;
    sends = λ i l. refl;
    receiver = refl;
  }

  -- "so old tables number as before": numbers,
  pub number_by_row : OnePriority q → (i k : ℕ) → Sender q i → number (by_row q) i k ≡ number q i k
  number_by_row one i k x =
      number_alike in_place i k x.row
      (λ j l d.
      having (due_at_job q v (deadline_of q i k) j l d)
      (λ w. prec_equal (by_row q) i j refl ∙ sym (prec_equal q i j (one i j x w.1))))

  -- windows, which never ask for a priority,
  pub window_by_row : (w : ℕ) → (first (by_row q) w ≡ first q w) × (last (by_row q) w ≡ last q w)
  unfolding last up_to
  window_by_row w = (refl, refl)

  -- and sizes.
  pub slots_by_row : OnePriority q → slots (by_row q) ≡ slots q
  slots_by_row one = slots_permuted in_place v (number_by_row one)

-- ## Rows in another order

-- "(distinct priorities are enough)"
pub told_of : (q : Queue) → ((i j : ℕ) → Sender q i → Sender q j → q.priority i ≡ q.priority j → i ≡ j) → Told q
told_of q h i k j l si sj d e = h i j si sj e

module _ {q p : Queue} {s r : ℕ → ℕ} (m : Permuted q p s r) (kept : (i : ℕ) → i < q.rows → p.priority (s i) ≡ q.priority i)
    (v : Valid q) (told : Told q) where
  -- "row i's job k has the same number in the one as its image in the other,
  pub number_sorted : (i k : ℕ) → Sender q i → number p (s i) k ≡ number q i k
  number_sorted i k x = number_alike m i k x.row order
    where
      order : (j : ℕ) → j < q.rows → due_at q (deadline_of q i k) j ≡ true → precedes p (s i) (s j) ≡ precedes q i j
      order j l h =
          elim (ℕ_discrete i j) [
            | yes e ↦ subst (λ (y : ℕ). precedes p (s i) (s y) ≡ precedes q i y) e (prec_irrefl p (s i) ∙ sym (prec_irrefl q i))
            | no n ↦
                having (due_at_job q v (deadline_of q i k) j l h)
                (λ w.
                let d : q.priority i ≡ q.priority j → ⊥ = λ e. n (told i k j w.0 x w.1 (sym w.2) e) in
                prec_higher p (s i) (s j) (λ e. d (sym (kept i x.row) ∙ e ∙ kept j l))
                ∙ rw (kept i x.row, kept j l) (sym (prec_higher q i j d)))
          ]

  -- and each queue has the same size."
  pub slots_sorted : slots p ≡ slots q
  slots_sorted = slots_permuted m v number_sorted
