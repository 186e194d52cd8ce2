-- What a receive's answer says of the calls before it and after it. `Theorems` states what comes of it.
use Rattle.std.specs.Prelude.{◌+◌, ◌-◌, ◌*◌, ◌/◌, ◌≤◌, ◌<◌, ◌++◌, ◌≡◌}
use Rattle.common.specs.Words.{ℕ, suc, arith, le_refl, div-mul-le_self, ℕ_discrete, List, inl, inr, refl, sym, ap, subst, ◌∙◌, length}
use Rattle.common.specs.Words.{get_or, set, get_or-set_same, get_or-set_other}
use Rattle.std.proofs.Math.Arith.{lt_of_le-ne}
use Rattle.common.specs.Tests.{having}
use Rattle.calendar.specs.Calendar.{message}
use Rattle.history.specs.Types.{Slot, Plan, Received}
use Rattle.model.specs.Model.{Queue, Sender, receiver_period, release_of, deadline_of, up_to, number, first, last, sender_of, job_of}
use Rattle.model.proofs.Number.{up_to_mono}
use Rattle.model.proofs.WayBack.{way_there}
use Rattle.model.proofs.Window.{window_iff}
use Rattle.plan.specs.Limits.{last_tick, queue_limit, payload_bytes}
use Rattle.plan.specs.Plan.{queue_at}
use Rattle.plan.specs.Sound.{Sound}
use Rattle.mailbox.specs.Calls.{running_job, receiving_job, stored_as}
use Rattle.running.specs.View.{view_of}
use Rattle.history.specs.History.{Call, send, receive, World, send_says, History, start, ◌then◌, ◌⊑◌, same, more, Begins, world}
use Rattle.history.specs.History.{receive_says, Sends, accepted_as, SentIn, Tells, of_gap, AcceptedCall, tells, empty, read_by, numbers, up_from}
use Rattle.history.specs.History.{window_numbers}
use Rattle.history.proofs.Steps.{CanReceive, next, after_finds, receive_moves, Step, sends, finds, ends, stays, step}
use Rattle.history.proofs.Ground.{valid_at, Fitting, slot_waits, div_mono}
use Rattle.history.proofs.Invariant.{Shape, Inv, held, bytes, unsent, sent_is, tick_mono}
use Rattle.history.proofs.Holds.{holds, shaped}
use Rattle.history.proofs.Order.{Order, order, every_pos, up_append, length_up}
use Rattle.history.proofs.Answers.{Answered, finding, missing, ended, answered, answered_so, Told, told, told_window, told_deadline, told_outdated}
use Rattle.history.proofs.Answers.{refused, shown, in_time}

-- ## A send is its job's

-- an accepted send is made by a sender of the queue, in the job whose message has the number that it is answered
pub sent_by_its_job : (p : Plan) (w : World) (q i t n : ℕ) (b : List ℕ) (s : Slot) → send_says p w q i t b ≡ stored_as (message n) s →
    Sender (queue_at p q) i × (number (queue_at p q) i (running_job (queue_at p q) i t) ≡ n)
    × (release_of (queue_at p q) i (running_job (queue_at p q) i t) ≤ t) × (t < deadline_of (queue_at p q) i (running_job (queue_at p q) i t))
sent_by_its_job p w q i t n b s e = go (accepted_as e) (step p w (send q i t b))
  where
    go : {w' : World} → Sends p w (send q i t b) q n b → Step p w (send q i t b) w' →
        Sender (queue_at p q) i × (number (queue_at p q) i (running_job (queue_at p q) i t) ≡ n)
        × (release_of (queue_at p q) i (running_job (queue_at p q) i t) ≤ t) × (t < deadline_of (queue_at p q) i (running_job (queue_at p q) i t))
    go x (sends h) = (h.sender, sym (sent_is h x).1, div-mul-le_self t ((queue_at p q).period i), h.running)
    go x (stays quiet) = absurd (quiet.no_send q n b x)

module _ {p : Plan} {m : List ℕ} (fitting : Fitting p) (begins : Begins p m) where
  -- ## Each as its job sent it

  pub message_as_sent : (H : History) (q t n : ℕ) (s : Slot) (filler : List ℕ) → length filler ≡ payload_bytes →
      receive_says p (world p m H) q t ≡ Received.Message (message n) s →
      SentIn p m H q n (view_of (Received.Message (message n) s) (world p m H).memory filler)
  message_as_sent H q t n s filler width e = go (answered_so p (world p m H) q t (Received.Message (message n) s) e)
    where
      go : {n : ℕ} {s : Slot} → Answered p (world p m H) q t (Received.Message (message n) s) →
          SentIn p m H q n (view_of (Received.Message (message n) s) (world p m H).memory filler)
      go (finding h l e) =
          let n : ℕ = next p (world p m H) q t in
          subst (λ (b : List ℕ). SentIn p m H q n b) (sym (shown fitting.sound (world p m H) n filler h width))
          (subst (λ (k : ℕ). SentIn p m H q k (bytes p q (world p m H) n)) e ((holds begins fitting q h.queue H).fair n (omega arith)).0)

  -- a number is sent at most once
  pub sent_once : (H : History) (c : Call) (q n : ℕ) (b d : List ℕ) → Sends p (world p m H) c q n b → SentIn p m H q n d → ⊥
  sent_once H c q n b d x s = go x (step p (world p m H) c)
    where
      go : {c : Call} {w' : World} → Sends p (world p m H) c q n b → Step p (world p m H) c w' → ⊥
      go (accepted_as {i = i} {t = t} e) (sends h) =
          unsent fitting.sound (shaped begins H) q i t b h (holds begins fitting q h.queue H) d
          (subst (λ (k : ℕ). SentIn p m H q k d) (sent_is {w = world p m H} h (accepted_as e)).1 s)
      go (accepted_as e) (stays quiet) = quiet.no_send q n b (accepted_as e)

  sent_queue : (H : History) (q n : ℕ) (b : List ℕ) → SentIn p m H q n b → q < p.queues
  sent_queue start q n b s = absurd s
  sent_queue (H then c) q n b (inl s) = sent_queue H q n b s
  sent_queue (H then c) q n b (inr x) = (in_time x (step p (world p m H) c)).queue

  -- so it has one payload
  pub sent_same : (H : History) (q n : ℕ) (b d : List ℕ) → SentIn p m H q n b → SentIn p m H q n d → b ≡ d
  sent_same H q n b d s = (holds begins fitting q (sent_queue H q n b s) H).once n b d s

  -- ## A gap only where that job sent nothing, before or after

  -- a message that was sent before: its slot would hold it, or one that cannot have been sent yet
  missed : {S : ℕ → List ℕ → Type 0} {w : World} {q t n row : ℕ} → Inv p q S w → Answered p w q t (Received.Gap (message n) row) →
      (b : List ℕ) → S n b → ⊥
  missed {S} {w} {q} {t} {n} {row} inv answer b s = go answer refl
    where
      go : {a : Received} → Answered p w q t a → a ≡ Received.Gap (message n) row → ⊥
      go (finding h l e) x = cc
      go (ended h l) x = cc
      go refused x = cc
      go (missing h l e) x =
          let told_n : Told p w q t n = told {w = w} {n = n} (missing h l e) (rw x of_gap) in
          let as_held : held p q w n ≡ n → ⊥ = λ y. e (rw (sym told_n.is_next) y) in
          let above : n < held p q w n = lt_of_le-ne (inv.not_older n b s) (λ y. as_held (sym y)) in
          having (inv.fair n (omega arith))
          (λ there.
          having (inv.origin n b s)
          (λ o.
          having (inv.origin (held p q w n) (bytes p q w n) there.0)
          (λ o'.
          omega (
            arith,
            slot_waits fitting.sound q h.queue (fitting.fit q h.queue) o.row o.job o'.row o'.job o.sender o'.sender
                (rw (o.numbered, o'.numbered) above) (rw (o.numbered, o'.numbered) (sym there.1)),
            o'.released,
            h.in_order,
            told_outdated fitting.sound told_n o.row o.job o.sender o.numbered,
          ))))

  pub gap_never_sent : (H K : History) (q t n row : ℕ) → receive_says p (world p m H) q t ≡ Received.Gap (message n) row →
      (H then receive q t) ⊑ K →
      (b : List ℕ) → SentIn p m K q n b → ⊥
  gap_never_sent H K q t n row e r = later r
    where
      answer : Answered p (world p m H) q t (Received.Gap (message n) row)
      answer = answered_so p (world p m H) q t (Received.Gap (message n) row) e

      tells_n : Told p (world p m H) q t n
      tells_n = told answer of_gap

      later : {K : History} → (H then receive q t) ⊑ K → (b : List ℕ) → SentIn p m K q n b → ⊥
      later same b (inl s) = missed (holds begins fitting q tells_n.can.queue H) answer b s
      later same b (inr x) = elim x [ ]
      later (more r) b (inl s) = later r b s
      later (more {K = K} {c = c} r) b (inr x) =
          having (in_time x (step p (world p m K) c))
          (λ a.
          omega (
            arith,
            a.ahead,
            tick_mono p m r,
            told_deadline fitting.sound tells_n a.row a.job a.sender a.numbered,
            receive_moves p (world p m H) q t tells_n.can,
          ))

-- the last number of a window counts the messages up to the job's release
last_is : (Q : Queue) (k n : ℕ) → n ≤ last Q k → n ≤ up_to Q (k * receiver_period Q)
unfolding last
last_is Q k n h = h

module _ {p : Plan} {m : List ℕ} (sound : Sound p) (begins : Begins p m) where
  -- ## The sender that a gap names, and deadlines

  -- a number that is told belongs to a job, by the way back
  pub told_sender : (w : World) (q t n : ℕ) → Told p w q t n →
      Sender (queue_at p q) (sender_of (queue_at p q) last_tick n)
      × (number (queue_at p q) (sender_of (queue_at p q) last_tick n) (job_of (queue_at p q) last_tick n) ≡ n)
  told_sender w q t n k =
      having (way_there (queue_at p q) (valid_at sound q k.can.queue) n last_tick (omega (arith, (told_window sound k).0)) early)
      (λ y. (y.0, y.1))
    where
      R : ℕ
      R = receiver_period (queue_at p q)

      early : n ≤ up_to (queue_at p q) last_tick
      early =
          omega (
            arith,
            last_is (queue_at p q) (t / R) n k.not_past,
            up_to_mono (queue_at p q) (valid_at sound q k.can.queue) (t / R * R) last_tick (omega (arith, div-mul-le_self t R, k.can.tick_within)),
          )

  pub gap_names_sender : (H : History) (q t n row : ℕ) → receive_says p (world p m H) q t ≡ Received.Gap (message n) row →
      (row ≡ sender_of (queue_at p q) last_tick n) × Sender (queue_at p q) row
      × (number (queue_at p q) row (job_of (queue_at p q) last_tick n) ≡ n)
  gap_names_sender H q t n row e = go (answered_so p (world p m H) q t (Received.Gap (message n) row) e)
    where
      go : {n row : ℕ} → Answered p (world p m H) q t (Received.Gap (message n) row) →
          (row ≡ sender_of (queue_at p q) last_tick n) × Sender (queue_at p q) row
          × (number (queue_at p q) row (job_of (queue_at p q) last_tick n) ≡ n)
      go (missing h l d) =
          having (told_sender (world p m H) q t (next p (world p m H) q t) (told (missing h l d) of_gap)) (λ y. (refl, y.0, y.1))

  -- by deadline: after the job's previous release, and not after its own
  pub told_by_deadline : (H : History) (q t n : ℕ) → Tells (receive_says p (world p m H) q t) n →
      (i k : ℕ) × Sender (queue_at p q) i × (number (queue_at p q) i k ≡ n)
      × ((receiving_job (queue_at p q) t - 1) * receiver_period (queue_at p q) < deadline_of (queue_at p q) i k)
      × (deadline_of (queue_at p q) i k ≤ receiving_job (queue_at p q) t * receiver_period (queue_at p q))
  told_by_deadline H q t n s =
      having (told (answered p (world p m H) q t) s)
      (λ k.
      having (told_sender (world p m H) q t n k)
      (λ y.
      having ((window_iff (queue_at p q) (valid_at sound q k.can.queue) (receiving_job (queue_at p q) t) (sender_of (queue_at p q) last_tick n)
      (job_of (queue_at p q) last_tick n) y.0).0 (rw y.1 (told_window sound k)))
      (λ d. (sender_of (queue_at p q) last_tick n, job_of (queue_at p q) last_tick n, y.0, y.1, d.0, d.1))))

  -- ## In number order

  pub told_in_window : (H : History) (q t n : ℕ) → Tells (receive_says p (world p m H) q t) n →
      (first (queue_at p q) (receiving_job (queue_at p q) t) ≤ n) × (n ≤ last (queue_at p q) (receiving_job (queue_at p q) t))
  told_in_window H q t n s = told_window sound (told (answered p (world p m H) q t) s)

  -- what a job has read so far is the first part of its window, one number after the other
  pub read_in_order : (filler : List ℕ) (H : History) (q k : ℕ) → q < p.queues →
      (rest : List ℕ) × (numbers (read_by p m filler H q k) ++ rest ≡ window_numbers (queue_at p q) k)
  read_in_order filler H q k h =
      let Q : Queue = queue_at p q in
      let o = order p q (valid_at sound q h) begins filler (omega (arith, sound.checked.queues_fit)) H in
      let r : List ℕ = numbers (read_by p m filler H q k) in
      let whole : length r + (suc (last Q k) - (first Q k + length r)) ≡ suc (last Q k) - first Q k = omega (arith, o.no_further k) in (
        up_from (first Q k + length r) (suc (last Q k) - (first Q k + length r)),
        ap (λ (l : List ℕ). l ++ up_from (first Q k + length r) (suc (last Q k) - (first Q k + length r))) (o.in_a_row k)
            ∙ up_append (first Q k) (length r) (suc (last Q k) - (first Q k + length r))
            ∙ ap (up_from (first Q k)) whole,
      )

  module _ (filler : List ℕ) (H : History) (q t : ℕ) where
    -- the numbers that the running job has read, and those of its window
    abbrev so_far : List ℕ
    so_far = numbers (read_by p m filler H q (receiving_job (queue_at p q) t))

    abbrev whole : List ℕ
    whole = window_numbers (queue_at p q) (receiving_job (queue_at p q) t)

    so_far_lem : CanReceive p (world p m H) q t → Order p q (λ k. numbers (read_by p m filler H q k)) (world p m H)
    so_far_lem can = order p q (valid_at sound q can.queue) begins filler (omega (arith, can.queue, sound.checked.queues_fit)) H

    -- the next number is the one right behind what the running job has read
    comes_next : CanReceive p (world p m H) q t → next p (world p m H) q t ≡ first (queue_at p q) (receiving_job (queue_at p q) t) + length so_far
    comes_next can =
        (so_far_lem can).goes_on (receiving_job (queue_at p q) t)
        (div_mono (receiver_period (queue_at p q)) (world p m H).state.tick.0 t (every_pos p q (valid_at sound q can.queue)) can.in_order)

    -- an accepted receive is empty exactly when all of the running job's window is read
    pub empty_when_all_read : receive_says p (world p m H) q t ≡ Received.Empty → so_far ≡ whole
    empty_when_all_read e = go (answered_so p (world p m H) q t Received.Empty e)
      where
        go : Answered p (world p m H) q t Received.Empty → so_far ≡ whole
        go (ended can l) =
            let Q : Queue = queue_at p q in
            let k : ℕ = receiving_job Q t in
            let all : length so_far ≡ suc (last Q k) - first Q k = omega (arith, (so_far_lem can).no_further k, comes_next can, l) in
            (so_far_lem can).in_a_row k ∙ ap (up_from (first Q k)) all

    pub all_read_then_empty : AcceptedCall p (world p m H) (receive q t) → so_far ≡ whole → receive_says p (world p m H) q t ≡ Received.Empty
    all_read_then_empty (empty e) all = e
    all_read_then_empty (tells s) all =
        let Q : Queue = queue_at p q in
        let k : ℕ = receiving_job Q t in
        let n = told (answered p (world p m H) q t) s in
        absurd (omega (arith, n.is_next, n.not_past, comes_next n.can, ap length all, length_up (first Q k) (suc (last Q k) - first Q k)))

  -- ## Over the whole history

  step_place : {q : ℕ} {w w' : World} {c : Call} → q < queue_limit → Shape p w → Step p w c w' →
      get_or w.state.reading q 0 ≤ get_or w'.state.reading q 0
  step_place h shape (sends can) = le_refl _
  step_place {q} {w} h shape (finds {q = r} {t = t} can l) = go (ℕ_discrete r q)
    where
      go : Dec (r ≡ q) → get_or w.state.reading q 0 ≤ get_or (set w.state.reading r (next p w r t + 1)) q 0
      go (yes e) =
          subst (λ (x : ℕ). get_or w.state.reading q 0 ≤ get_or (set w.state.reading x (next p w x t + 1)) q 0) (sym e)
          (rw (get_or-set_same w.state.reading q (next p w q t + 1) 0 (omega (arith, shape.places))) (omega arith))
      go (no d) = rw (get_or-set_other w.state.reading r q (next p w r t + 1) 0 (λ e. d (sym e))) (le_refl _)
  step_place h shape (ends can l) = le_refl _
  step_place h shape (stays quiet) = le_refl _

  place_mono : (q : ℕ) {H K : History} → q < queue_limit → H ⊑ K →
      get_or (world p m H).state.reading q 0 ≤ get_or (world p m K).state.reading q 0
  place_mono q h same = le_refl _
  place_mono q h (more {K = K} {c = c} r) = omega (arith, place_mono q h r, step_place h (shaped begins K) (step p (world p m K) c))

  -- of two numbers that a queue's receiver is told the later one is higher: none is told twice
  pub told_rising : (H K : History) (q t u n o : ℕ) → Tells (receive_says p (world p m H) q t) n → (H then receive q t) ⊑ K →
      Tells (receive_says p (world p m K) q u) o → n < o
  told_rising H K q t u n o s r s' =
      let k = told (answered p (world p m H) q t) s in
      let k' = told (answered p (world p m K) q u) s' in
      let moved : get_or (world p m (H then receive q t)).state.reading q 0 ≡ next p (world p m H) q t + 1 =
      ap (λ (x : World). get_or x.state.reading q 0) (after_finds p (world p m H) q t k.can (rw (← k.is_next) k.not_past))
      ∙ get_or-set_same (world p m H).state.reading q (next p (world p m H) q t + 1) 0
      (omega (arith, (shaped begins H).places, k.can.queue, sound.checked.queues_fit)) in
      omega (arith, k.is_next, moved, place_mono q (omega (arith, k.can.queue, sound.checked.queues_fit)) r, k'.is_next)
