-- What each receiving job has read after every history: the first numbers of its window, one after the other.
-- It leans on the view of one call and on the laws of windows; fit sizes play no part.
use Rattle.std.specs.Prelude.{◌+◌, ◌-◌, ◌/◌, ◌≤◌, ◌<◌, ◌&&◌, ◌∷◌, ◌++◌, ◌≡◌}
use Rattle.common.specs.Words.{ℕ, zero, suc, max, arith, le_refl, zero-add, add-zero, suc-add, add-suc, ℕ_discrete, Bool, true, false, cond, List}
use Rattle.common.specs.Words.{[], append-nil, refl, sym, ap, subst, ◌∙◌, eqb, length, get_or, length-append, get_or-replicate, get_or-set_same}
use Rattle.common.specs.Words.{get_or-set_other, eq-eqb, ne_eqb}
use Rattle.calendar.specs.Calendar.{message, slot}
use Rattle.model.specs.Model.{Valid, receiver_period, first, last, sender_of}
use Rattle.model.proofs.Order.{period_pos}
use Rattle.model.proofs.Window.{last_mono}
use Rattle.plan.specs.Limits.{queue_limit, last_tick, payload_bytes}
use Rattle.plan.specs.Plan.{queue_at}
use Rattle.history.specs.Types.{Plan, Received}
use Rattle.slots.specs.Slots.{number_in}
use Rattle.mailbox.specs.Calls.{found, slot_for, receiving_job}
use Rattle.history.specs.History.{Call, receive, World, History, start, ◌then◌, Begins, world, receive_says, Reading, readings, reads, read_by}
use Rattle.history.specs.History.{numbers, up_from}
use Rattle.history.proofs.Steps.{CanReceive, next, last_at, read_world, receive_finds, receive_ends, Step, sends, finds, ends, stays, step}
use Rattle.history.proofs.Ground.{div_mono}
use Rattle.history.proofs.Invariant.{Shape}
use Rattle.history.proofs.Holds.{shaped}

-- ## Numbers in a row

pub up_append : (a k j : ℕ) → up_from a k ++ up_from (a + k) j ≡ up_from a (k + j)
up_append a zero j = simp (zero-add, add-zero)
up_append a (suc k) j = rw (suc-add k j, ← up_append (suc a) k j, add-suc a k, suc-add a k)

pub length_up : (a k : ℕ) → length (up_from a k) ≡ k
length_up a zero = refl
length_up a (suc k) = ap suc (length_up (suc a) k)

up_snoc : (a k : ℕ) → up_from a k ++ ((a + k) ∷ []) ≡ up_from a (k + 1)
up_snoc a k = up_append a k 1

length_snoc : (l : List ℕ) (n : ℕ) → length (l ++ (n ∷ [])) ≡ length l + 1
length_snoc l n = length-append l (n ∷ [])

pub numbers_append : (xs ys : List Reading) → numbers (xs ++ ys) ≡ numbers xs ++ numbers ys
numbers_append [] ys = refl
numbers_append (x ∷ xs) ys = rw (numbers_append xs ys)

-- n at the end of l, where a test has passed
abbrev add_if : {A : Type 0} → Dec A → ℕ → List ℕ → List ℕ
add_if (yes h) n l = l ++ (n ∷ [])
add_if (no h) n l = l

-- ## What one call gives to read

module _ (p : Plan) (w : World) where
  found_numbers : (q n : ℕ) (m filler : List ℕ) → numbers (readings (found p w.memory q n) m filler) ≡ n ∷ []
  unfolding found
  found_numbers q n m filler = go (eqb (number_in payload_bytes w.memory (slot_for p q n)) n)
    where
      go : (b : Bool) → numbers (readings
          (cond b (Received.Message (message n) (slot (slot_for p q n))) (Received.Gap (message n) (sender_of (queue_at p q) last_tick n))) m filler)
          ≡ n ∷ []
      go true = refl
      go false = refl

  -- a receive that comes to a number gives it to the job that runs
  numbers_found : (filler : List ℕ) (q t : ℕ) → CanReceive p w q t → next p w q t ≤ last_at p w q t →
      numbers (readings (receive_says p w q t) w.memory filler) ≡ next p w q t ∷ []
  numbers_found filler q t h l =
      ap (λ (a : Received). numbers (readings a w.memory filler)) (receive_finds p w q t h l)
      ∙ found_numbers q (next p w q t) w.memory filler

  read_other : (filler : List ℕ) (r t q k : ℕ) → (r ≡ q → ⊥) → reads p filler w (receive r t) q k ≡ []
  read_other filler r t q k d = rw (ne_eqb r q d)

  read_own : (filler : List ℕ) (q t k : ℕ) (l : List ℕ) → CanReceive p w q t → next p w q t ≤ last_at p w q t →
      l ++ numbers (reads p filler w (receive q t) q k) ≡ add_if (ℕ_discrete (receiving_job (queue_at p q) t) k) (next p w q t) l
  read_own filler q t k l h b = go (ℕ_discrete (receiving_job (queue_at p q) t) k)
    where
      go : (d : Dec (receiving_job (queue_at p q) t ≡ k)) → l ++ numbers (reads p filler w (receive q t) q k) ≡ add_if d (next p w q t) l
      go (yes e) = rw (eq-eqb q q refl, eq-eqb (receiving_job (queue_at p q) t) k e, numbers_found filler q t h b)
      go (no d) = rw (eq-eqb q q refl, ne_eqb (receiving_job (queue_at p q) t) k d) (append-nil l)

-- ## The invariant

-- Queue q in the world w, when its receiver's job k has read the numbers `R k`: they are the first of its window, one after the other;
-- and a job that runs now or later goes on right behind them.
pub record Order (p : Plan) (q : ℕ) (R : ℕ → List ℕ) (w : World) : Type 0 where
  pub in_a_row : (k : ℕ) → R k ≡ up_from (first (queue_at p q) k) (length (R k))
  pub no_further : (k : ℕ) → first (queue_at p q) k + length (R k) ≤ suc (last (queue_at p q) k)
  pub goes_on : (k : ℕ) → w.state.tick.0 / receiver_period (queue_at p q) ≤ k →
      max (get_or w.state.reading q 0) (first (queue_at p q) k) ≡ first (queue_at p q) k + length (R k)

order_same : {p : Plan} {q : ℕ} {R R' : ℕ → List ℕ} {w : World} → ((k : ℕ) → R' k ≡ R k) → Order p q R w → Order p q R' w
order_same e o = record {
  in_a_row = λ k. rw (e k) (o.in_a_row k);
  no_further = λ k. rw (e k) (o.no_further k);
  goes_on = λ k h. rw (e k) (o.goes_on k h);
}

module _ (p : Plan) (q : ℕ) (v : Valid (queue_at p q)) where
  pub every_pos : 1 ≤ receiver_period (queue_at p q)
  every_pos = period_pos (queue_at p q) v (queue_at p q).receiver v.receiver_row

  -- the windows follow one another
  pub window_after : (k j : ℕ) → k < j → last (queue_at p q) k < first (queue_at p q) j
  window_after k j l = omega (arith, last_mono (queue_at p q) v k (j - 1) (omega arith))

  -- a call that gives this queue's receiver nothing to read
  idle : {R : ℕ → List ℕ} {w w' : World} → Order p q R w → w.state.tick.0 ≤ w'.state.tick.0 →
      get_or w'.state.reading q 0 ≡ get_or w.state.reading q 0 → Order p q R w'
  idle {w = w} {w' = w'} o l e = record {
    in_a_row = o.in_a_row;
    no_further = o.no_further;
    goes_on = λ k h. rw e (o.goes_on k
        (omega (arith, div_mono (receiver_period (queue_at p q)) w.state.tick.0 w'.state.tick.0 every_pos l)));
  }

  -- a call that gives it the next number
  goes : {R : ℕ → List ℕ} {w : World} → Order p q R w → (t : ℕ) → q < length w.state.reading → w.state.tick.0 ≤ t →
      next p w q t ≤ last_at p w q t →
      Order p q (λ k. add_if (ℕ_discrete (receiving_job (queue_at p q) t) k) (next p w q t) (R k)) (read_world p w q t)
  goes {R} {w} o t inside h l = record {
    in_a_row = λ k. row k (ℕ_discrete (receiving_job (queue_at p q) t) k);
    no_further = λ k. far k (ℕ_discrete (receiving_job (queue_at p q) t) k);
    goes_on = λ k b. rw place (on k (ℕ_discrete (receiving_job (queue_at p q) t) k) b);
  }
    where
      n : ℕ
      n = next p w q t

      job : ℕ
      job = receiving_job (queue_at p q) t

      place : get_or (read_world p w q t).state.reading q 0 ≡ next p w q t + 1
      place = get_or-set_same w.state.reading q (next p w q t + 1) 0 inside

      still : (k : ℕ) → job ≤ k → w.state.tick.0 / receiver_period (queue_at p q) ≤ k
      still k b = omega (arith, div_mono (receiver_period (queue_at p q)) w.state.tick.0 t every_pos h)

      here : (k : ℕ) → job ≡ k → n ≡ first (queue_at p q) k + length (R k)
      here k e = o.goes_on job (still job (le_refl _)) ∙ ap (λ (j : ℕ). first (queue_at p q) j + length (R j)) e

      row : (k : ℕ) (d : Dec (job ≡ k)) → add_if d n (R k) ≡ up_from (first (queue_at p q) k) (length (add_if d n (R k)))
      row k (yes e) =
          rw (length_snoc (R k) n)
          (ap (λ (l : List ℕ). l ++ (n ∷ [])) (o.in_a_row k)
          ∙ ap (λ (j : ℕ). up_from (first (queue_at p q) k) (length (R k)) ++ (j ∷ [])) (here k e)
          ∙ up_snoc (first (queue_at p q) k) (length (R k)))
      row k (no d) = o.in_a_row k

      far : (k : ℕ) (d : Dec (job ≡ k)) → first (queue_at p q) k + length (add_if d n (R k)) ≤ suc (last (queue_at p q) k)
      far k (yes e) = rw (length_snoc (R k) n) (omega (arith, here k e, l, ap (last (queue_at p q)) e))
      far k (no d) = o.no_further k

      on : (k : ℕ) (d : Dec (job ≡ k)) → job ≤ k →
          max (n + 1) (first (queue_at p q) k) ≡ first (queue_at p q) k + length (add_if d n (R k))
      on k (yes e) b = rw (length_snoc (R k) n) (omega (arith, here k e))
      on k (no d) b =
          let later : job < k = omega arith in
          omega (arith, l, window_after job k later, o.goes_on k (still k b))

  step_order : {R : ℕ → List ℕ} {w w' : World} {c : Call} (filler : List ℕ) → q < queue_limit → Shape p w → Order p q R w →
      Step p w c w' →
      Order p q (λ k. R k ++ numbers (reads p filler w c q k)) w'
  step_order {R} {w} filler h shape o (sends can) = order_same (λ k. append-nil (R k)) (idle o can.in_order refl)
  step_order {R} {w} filler h shape o (finds {q = r} {t = t} can l) = go (ℕ_discrete r q)
    where
      Goal : ℕ → Type 0
      Goal x = CanReceive p w x t → next p w x t ≤ last_at p w x t →
          Order p q (λ k. R k ++ numbers (reads p filler w (receive x t) q k)) (read_world p w x t)

      own : Goal q
      own can' l' = order_same (λ k. read_own p w filler q t k (R k) can' l')
          (goes o t (omega (arith, shape.places)) can'.in_order l')

      go : Dec (r ≡ q) → Order p q (λ k. R k ++ numbers (reads p filler w (receive r t) q k)) (read_world p w r t)
      go (yes e) = subst Goal (sym e) own can l
      go (no d) =
          order_same (λ k. rw (read_other p w filler r t q k d) (append-nil (R k)))
          (idle o can.in_order (get_or-set_other w.state.reading r q (next p w r t + 1) 0 (λ e. d (sym e))))
  step_order {R} {w} filler h shape o (ends {q = r} {t = t} can l) =
      order_same (λ k. quiet k) (idle o can.in_order refl)
    where
      quiet : (k : ℕ) → R k ++ numbers (reads p filler w (receive r t) q k) ≡ R k
      quiet k = rw (receive_ends p w r t can l) (go (eqb r q && eqb (receiving_job (queue_at p q) t) k))
        where
          go : (b : Bool) → R k ++ numbers (cond b [] []) ≡ R k
          go true = append-nil (R k)
          go false = append-nil (R k)
  step_order {R} {w} filler h shape o (stays quiet) =
      order_same (λ k. rw (quiet.no_reading filler q k) (append-nil (R k))) (idle o (le_refl _) refl)

  pub order : {m : List ℕ} → Begins p m → (filler : List ℕ) → q < queue_limit → (H : History) →
      Order p q (λ k. numbers (read_by p m filler H q k)) (world p m H)
  order {m} begins filler h start = record {
    in_a_row = λ k. refl;
    no_further = λ k. omega (arith, last_mono (queue_at p q) v (k - 1) k (omega arith));
    goes_on = λ k b. rw (get_or-replicate {A = ℕ} queue_limit q 0 0 h) (omega arith);
  }
  order {m} begins filler h (H then c) =
      order_same (λ k. numbers_append (read_by p m filler H q k) (reads p filler (world p m H) c q k))
      (step_order filler h (shaped begins H) (order begins filler h H) (step p (world p m H) c))
