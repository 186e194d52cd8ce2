-- No smaller size does: where a message's slot is asked for again before it is outdated, a history of accepted calls loses the message.
-- The message is sent, then the one that takes its slot, and then its receiving job reads up to it.
use Rattle.std.specs.Prelude.{◌+◌, ◌-◌, ◌*◌, ◌%◌, ◌≤◌, ◌<◌, ◌≡◌}
use Rattle.common.specs.Words.{ℕ, zero, suc, max, arith, le_refl, add-mod_right, div-eq_of_lt-le, div-mul-le_self, mul-le-mul_right, ℕ_discrete}
use Rattle.common.specs.Words.{List, inl, inr, ⊎_elim, refl, sym, ap, subst, ◌∙◌, length, get_or, set, replicate, length-replicate}
use Rattle.common.specs.Words.{get_or-replicate, get_or-set_same, get_or-set_other, ne_eqb}
use Rattle.common.specs.Tests.{lt_or_le, having}
use Rattle.calendar.specs.Calendar.{message}
use Rattle.model.specs.Model.{Queue, Valid, Sender, receiver_period, release_of, deadline_of, number, first, last, wanted_until, sender_of}
use Rattle.model.specs.Model.{hyperperiod}
use Rattle.model.specs.Source.{job_for, outdated_at}
use Rattle.model.proofs.Order.{period_pos}
use Rattle.model.proofs.Number.{number_iff, number_below, number_less}
use Rattle.model.proofs.Outdating.{wanted_pos, wanted_fits, job_from}
use Rattle.model.proofs.Window.{window_own}
use Rattle.model.proofs.Multiple.{hyperperiod_common}
use Rattle.plan.specs.Limits.{task_limit, queue_limit, cell_limit, last_tick, longest_hyperperiod, payload_bytes}
use Rattle.plan.specs.Plan.{queue_at, size_at}
use Rattle.plan.specs.Sound.{Sound}
use Rattle.history.specs.Types.{Plan, Received}
use Rattle.slots.specs.Slots.{number_in}
use Rattle.mailbox.specs.Calls.{found, slot_for, running_job, receiving_job}
use Rattle.history.specs.History.{send, receive, World, History, start, ◌then◌, Begins, world, after, receive_says, Sends, accepted_as, SentIn}
use Rattle.history.specs.History.{Tells, stores, tells, AllAccepted}
use Rattle.history.proofs.Steps.{CanSend, CanReceive, number_at, sent_world, next, last_at, read_world, send_stores, receive_finds, after_send}
use Rattle.history.proofs.Steps.{after_finds, found_tells}
use Rattle.history.proofs.Ground.{valid_at}
use Rattle.history.proofs.Invariant.{Shape, held, outdated_late, number_now}
use Rattle.history.proofs.Holds.{shaped}
use Rattle.history.proofs.Short.{Short, periods_fit}
pub use Rattle.history.specs.Smaller.{Lost}

-- ## Jobs and ticks

outdated_is : (Q : Queue) (d : ℕ) → outdated_at Q d ≡ wanted_until Q (job_for Q d)
unfolding outdated_at
outdated_is Q d = refl

-- the job that runs at a tick from its release and before its deadline
job_at : (Q : Queue) → Valid Q → (i k t : ℕ) → Sender Q i → release_of Q i k ≤ t → t < deadline_of Q i k → running_job Q i t ≡ k
job_at Q v i k t s a b = div-eq_of_lt-le (Q.period i) a (omega (arith, v.deadline_fits i s.row))

-- a later number of the same sender is a later job's
later_job : (Q : Queue) → Valid Q → (i k l : ℕ) → Sender Q i → number Q i k < number Q i l → k < l
later_job Q v i k l s h =
    ⊎_elim (λ g. g)
    (λ (g : l ≤ k).
    ⊎_elim
    (λ (b : l < k). absurd (omega (arith, number_less Q v i l i k s s (inl (earlier b)))))
    (λ (b : k ≤ l). let e : k ≡ l = omega arith in absurd (omega (arith, ap (number Q i) e)))
    (lt_or_le l k))
    (lt_or_le k l)
  where
    earlier : l < k → deadline_of Q i l < deadline_of Q i k
    earlier b = omega (arith, mul-le-mul_right (Q.period i) b, period_pos Q v i s.row)

found_gap : (p : Plan) (m : List ℕ) (q n : ℕ) → (number_in payload_bytes m (slot_for p q n) ≡ n → ⊥) →
    found p m q n ≡ Received.Gap (message n) (sender_of (queue_at p q) last_tick n)
unfolding found
found_gap p m q n d = rw (ne_eqb (number_in payload_bytes m (slot_for p q n)) n d)

-- ## The history

-- x receives on queue q at tick t
abbrev reading : History → ℕ → ℕ → ℕ → History
reading H q t zero = H
reading H q t (suc x) = reading H q t x then receive q t

module _ {p : Plan} (sound : Sound p) {m : List ℕ} (begins : Begins p m) (q : ℕ) (counted : q < p.queues) (b : List ℕ)
    (width : length b ≡ payload_bytes) where
  v : Valid (queue_at p q)
  v = valid_at sound q counted

  -- a job can send at a tick between its release and its deadline, if none later has
  can_send_job : (H : History) (i k t : ℕ) → Sender (queue_at p q) i → (world p m H).state.tick.0 ≤ t →
      release_of (queue_at p q) i k ≤ t →
      t < deadline_of (queue_at p q) i k → deadline_of (queue_at p q) i k ≤ last_tick →
      get_or (world p m H).state.sent (q * task_limit + i) 0 ≤ k →
      CanSend p (world p m H) q i t b
  can_send_job H i k t s a c d e u =
      let j : running_job (queue_at p q) i t ≡ k = job_at (queue_at p q) v i k t s c d in
      record {
        ground = record { sound = sound; room = (shaped begins H).room };
        whole = width;
        queue = counted;
        sender = s;
        tick_within = omega arith;
        deadline_within = rw j e;
        in_order = a;
        running = rw j d;
        unsent = rw j u;
      }

  module _ (short : Short (queue_at p q) (size_at p q)) (within : hyperperiod (queue_at p q) ≤ longest_hyperperiod) where
    open short use {i, k, j, l}

    -- the two messages' numbers, deadlines, and the job that reads the first
    abbrev n : ℕ
    n = number (queue_at p q) i k

    abbrev other : ℕ
    other = number (queue_at p q) j l

    abbrev d : ℕ
    d = deadline_of (queue_at p q) i k

    abbrev e : ℕ
    e = deadline_of (queue_at p q) j l

    abbrev R : ℕ
    R = receiver_period (queue_at p q)

    abbrev J : ℕ
    J = job_for (queue_at p q) d

    -- when they are sent, and when the job reads
    abbrev t₁ : ℕ
    t₁ = release_of (queue_at p q) i k

    abbrev t₂ : ℕ
    t₂ = max t₁ (release_of (queue_at p q) j l)

    abbrev t₃ : ℕ
    t₃ = max t₂ (J * R)

    more_than : n < other
    more_than = omega (arith, short.apart, sound.size_pos q counted)

    sendable : t₁ < d
    sendable = omega (arith, v.deadline_pos i short.first_sender_lem.row)

    sendable_other : release_of (queue_at p q) j l < e
    sendable_other = omega (arith, v.deadline_pos j short.second_sender.row)

    due_first : d ≤ e
    due_first =
        (number_iff (queue_at p q) v i k short.first_sender_lem e).0 (omega (arith, more_than, number_below (queue_at p q) v j l short.second_sender))

    -- all of it comes within a few hyperperiods, and so before the last tick
    second_due : e ≤ last_tick
    second_due =
        omega (
          arith,
          short.soon,
          v.deadline_fits j short.second_sender.row,
          (periods_fit (queue_at p q) (hyperperiod (queue_at p q)) (hyperperiod_common (queue_at p q) v)).1 j short.second_sender,
        )

    open_third : t₃ < wanted_until (queue_at p q) J
    open_third =
        omega (
          arith,
          rw (outdated_is (queue_at p q) d) at short.early,
          rw (outdated_is (queue_at p q) d) at (outdated_late (queue_at p q) v i k short.first_sender_lem),
          wanted_pos (queue_at p q) v,
          sendable,
        )

    job_third : receiving_job (queue_at p q) t₃ ≡ J
    job_third = div-eq_of_lt-le R (omega arith) (omega (arith, open_third, wanted_fits (queue_at p q) v))

    third_fits : t₃ ≤ last_tick
    third_fits =
        omega (
          arith,
          second_due,
          due_first,
          sendable,
          sendable_other,
          div-mul-le_self (d + (R - 1)) R,
          (periods_fit (queue_at p q) (hyperperiod (queue_at p q)) (hyperperiod_common (queue_at p q) v)).0,
          short.soon,
          v.deadline_fits j short.second_sender.row,
          (periods_fit (queue_at p q) (hyperperiod (queue_at p q)) (hyperperiod_common (queue_at p q) v)).1 j short.second_sender,
        )

    -- ## The two sends

    abbrev one : History
    one = start then send q i t₁ b

    abbrev two : History
    two = one then send q j t₂ b

    can_first : CanSend p (world p m start) q i t₁ b
    can_first =
        can_send_job start i k t₁ short.first_sender_lem (omega arith) (le_refl _) sendable (omega (arith, due_first, second_due))
        (rw (get_or-replicate {A = ℕ} cell_limit (q * task_limit + i) 0 0 inside) (omega arith))
      where
        inside : q * task_limit + i < cell_limit
        inside = omega (arith, sound.checked.queues_fit, sound.checked.tasks_fit, short.first_sender_lem.row)

    first_job : running_job (queue_at p q) i t₁ ≡ k
    first_job = job_at (queue_at p q) v i k t₁ short.first_sender_lem (le_refl _) sendable

    after_first : world p m one ≡ sent_world p (world p m start) q i t₁ b
    after_first = after_send p (world p m start) q i t₁ b can_first

    -- the second sender has not come past its job
    second_unsent : get_or (world p m one).state.sent (q * task_limit + j) 0 ≤ l
    second_unsent = rw after_first (go (ℕ_discrete j i))
      where
        fresh_cells : List ℕ
        fresh_cells = replicate cell_limit 0

        inside : (x : ℕ) → Sender (queue_at p q) x → q * task_limit + x < cell_limit
        inside x s = omega (arith, sound.checked.queues_fit, sound.checked.tasks_fit, s.row)

        go : Dec (j ≡ i) → get_or (set (replicate cell_limit 0) (q * task_limit + i) (running_job (queue_at p q) i t₁ + 1))
            (q * task_limit + j) 0 ≤ l
        go (yes x) =
            let later : k < l = later_job (queue_at p q) v i k l short.first_sender_lem
            (subst (λ (y : ℕ). n < number (queue_at p q) y l) x more_than) in
            rw (
              x,
              get_or-set_same (replicate cell_limit 0) (q * task_limit + i) (running_job (queue_at p q) i t₁ + 1) 0
                  (omega (arith, inside i short.first_sender_lem, length-replicate {A = ℕ} cell_limit 0)),
            )
            (omega (arith, first_job))
        go (no x) =
            rw (
              get_or-set_other (replicate cell_limit 0) (q * task_limit + i) (q * task_limit + j) (running_job (queue_at p q) i t₁ + 1) 0
                  (λ y. x (omega arith)),
              get_or-replicate {A = ℕ} cell_limit (q * task_limit + j) 0 0 (inside j short.second_sender),
            )
            (omega arith)

    can_second : CanSend p (world p m one) q j t₂ b
    can_second =
        can_send_job one j l t₂ short.second_sender (rw after_first (omega arith)) (omega arith)
        (omega (arith, sendable, due_first, sendable_other)) second_due second_unsent

    second_number : number_at p (world p m one) q j t₂ ≡ other
    second_number =
        ap (number (queue_at p q) j)
        (job_at (queue_at p q) v j l t₂ short.second_sender (omega arith) (omega (arith, sendable, due_first, sendable_other)))

    after_second : world p m two ≡ sent_world p (world p m one) q j t₂ b
    after_second = after_send p (world p m one) q j t₂ b can_second

    -- the slot of the first message holds the other one
    overwritten : held p q (world p m two) n ≡ other
    overwritten =
        rw after_second
        (number_now sound (shaped begins one) q j t₂ b can_second n (same_slot) ∙ second_number)
      where
        same_slot : n % size_at p q ≡ number_at p (world p m one) q j t₂ % size_at p q
        same_slot = rw (second_number, short.apart) (sym (add-mod_right n (size_at p q)))

    -- ## The receives

    reader_pos : 1 ≤ J
    reader_pos = go J (job_from (queue_at p q) v d)
      where
        go : (x : ℕ) → d ≤ x * R → 1 ≤ x
        go zero h = absurd (omega (arith, sendable))
        go (suc x) h = omega arith

    in_window : (first (queue_at p q) J ≤ n) × (n ≤ last (queue_at p q) J)
    in_window = (window_own (queue_at p q) v J i k short.first_sender_lem reader_pos).1 refl

    -- after x receives
    record After (x : ℕ) (w : World) : Type 0 where
      shape : Shape p w
      not_later : w.state.tick.0 ≤ t₃
      at : max (get_or w.state.reading q 0) (first (queue_at p q) J) ≡ first (queue_at p q) J + x
      untouched : held p q w n ≡ other

    module _ {x : ℕ} {w : World} (r : After x w) (here : first (queue_at p q) J + x ≤ n) where
      can : CanReceive p w q t₃
      can = record {
        ground = record { sound = sound; room = r.shape.room };
        queue = counted;
        tick_within = third_fits;
        in_order = r.not_later;
        wanted = rw job_third open_third;
      }

      next_is : next p w q t₃ ≡ first (queue_at p q) J + x
      next_is = ap (λ (y : ℕ). max (get_or w.state.reading q 0) (first (queue_at p q) y)) job_third ∙ r.at

      not_past : next p w q t₃ ≤ last_at p w q t₃
      not_past = omega (arith, next_is, here, ap (last (queue_at p q)) job_third, in_window.1)

      tells_next : Tells (receive_says p w q t₃) (next p w q t₃)
      tells_next = subst (λ (a : Received). Tells a (next p w q t₃)) (sym (receive_finds p w q t₃ can not_past))
          (found_tells p w q (next p w q t₃))

      one_more : Shape p (after p w (receive q t₃)) → After (suc x) (after p w (receive q t₃))
      one_more s = record {
        shape = s;
        not_later = rw moves (le_refl _);
        at = rw place (omega (arith, next_is));
        untouched = rw moves r.untouched;
      }
        where
          moves : after p w (receive q t₃) ≡ read_world p w q t₃
          moves = after_finds p w q t₃ can not_past

          place : get_or (after p w (receive q t₃)).state.reading q 0 ≡ next p w q t₃ + 1
          place =
              ap (λ (y : World). get_or y.state.reading q 0) moves
              ∙ get_or-set_same w.state.reading q (next p w q t₃ + 1) 0 (omega (arith, r.shape.places, sound.checked.queues_fit))

    both_sent : AllAccepted p m two
    both_sent = ((tt, stores (send_stores p (world p m start) q i t₁ b can_first)), stores (send_stores p (world p m one) q j t₂ b can_second))

    reads_on : (x : ℕ) → first (queue_at p q) J + x ≤ n → After x (world p m (reading two q t₃ x)) × AllAccepted p m (reading two q t₃ x)
    reads_on zero h = (
      record { shape = shaped begins two; not_later = rw after_second (omega arith); at = rw untold (omega arith); untouched = overwritten },
      both_sent,
    )
      where
        untold : get_or (world p m two).state.reading q 0 ≡ 0
        untold =
            ap (λ (y : World). get_or y.state.reading q 0) after_second ∙ ap (λ (y : World). get_or y.state.reading q 0) after_first
            ∙ get_or-replicate {A = ℕ} queue_limit q 0 0 (omega (arith, sound.checked.queues_fit))
    reads_on (suc x) h =
        having (reads_on x (omega arith))
        (λ so_far. (
          one_more so_far.0 (omega arith) (shaped begins (reading two q t₃ x then receive q t₃)),
          (so_far.1, tells (tells_next so_far.0 (omega arith))),
        ))

    first_sent : SentIn p m one q n b
    first_sent = inr (subst (λ (y : ℕ). Sends p (world p m start) (send q i t₁ b) q y b) (ap (number (queue_at p q) i) first_job)
        (accepted_as (send_stores p (world p m start) q i t₁ b can_first)))

    was_sent : (x : ℕ) → SentIn p m (reading two q t₃ x) q n b
    was_sent zero = inl first_sent
    was_sent (suc x) = inl (was_sent x)

    -- the last of them comes to the first message, and finds the other one
    reports : (x : ℕ) → first (queue_at p q) J + x ≡ n → After x (world p m (reading two q t₃ x)) →
        receive_says p (world p m (reading two q t₃ x)) q t₃ ≡ Received.Gap (message n) (sender_of (queue_at p q) last_tick n)
    reports x h r =
        let w : World = world p m (reading two q t₃ x) in
        let here : next p w q t₃ ≡ n = next_is r (omega arith) ∙ h in
        receive_finds p w q t₃ (can r (omega arith)) (not_past r (omega arith)) ∙ ap (found p w.memory q) here
        ∙ found_gap p w.memory q n (λ y. omega (arith, r.untouched, more_than))

    pub loses : Lost p q
    loses =
        let x : ℕ = n - first (queue_at p q) J in
        let h : first (queue_at p q) J + x ≡ n = omega (arith, in_window.0) in
        having (reads_on x (omega arith))
        (λ r. record {
          memory = m;
          begins = begins;
          calls = reading two q t₃ x;
          all_accepted = r.1;
          n = n;
          payload = b;
          sent = was_sent x;
          t = t₃;
          row = sender_of (queue_at p q) last_tick n;
          told = reports x h r.0;
        })
