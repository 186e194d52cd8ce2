-- What a job reads is settled by what was sent: a job that read to its end has read each number of its window once, a message exactly where
-- one was sent, with its bytes. So two histories with the same sends give it the same readings.
use Rattle.std.specs.Prelude.{◌+◌, ◌-◌, ◌≤◌, ◌<◌, ◌&&◌, ◌∷◌, ◌++◌, ◌↔◌, ◌≡◌}
use Rattle.common.specs.Words.{ℕ, zero, suc, arith, le_refl, ℕ_discrete, Bool, true, false, cond, List, [], inl, inr, refl, sym, ap, subst}
use Rattle.common.specs.Words.{◌∙◌, eqb, length, length-append, eqb-true, eq-eqb}
use Rattle.calendar.specs.Calendar.{message, slot}
use Rattle.model.specs.Model.{Queue, first, last, sender_of}
use Rattle.plan.specs.Limits.{last_tick, payload_bytes}
use Rattle.plan.specs.Plan.{queue_at}
use Rattle.history.specs.Types.{Plan, Received}
use Rattle.mailbox.specs.Calls.{slot_for, receiving_job}
use Rattle.running.specs.View.{view_of}
use Rattle.history.specs.History.{Call, send, receive, ask_number, ask_way_back, ask_window, ask_view, World, History, start, ◌then◌, ◌⊑◌}
use Rattle.history.specs.History.{same, more, Begins, world, receive_says, SentIn, Reading, readings, reads, read_by, numbers, number_told, up_from}
use Rattle.history.specs.History.{window_numbers, Fair, as_sent, nothing_sent, AllFair, Among, ReadToEnd}
use Rattle.history.proofs.Steps.{next}
use Rattle.history.proofs.Ground.{Fitting, valid_at}
use Rattle.history.proofs.Order.{order, numbers_append, length_up}
use Rattle.history.proofs.Answers.{Answered, finding, missing, ended, refused, answered, answered_so}
use Rattle.history.proofs.Reading.{message_as_sent, sent_same, gap_never_sent, empty_when_all_read}

-- ## Histories that go on

pub earlier : {H K : History} {c : Call} → (H then c) ⊑ K → H ⊑ K
earlier {H} {K} {c} x = go x
  where
    go : {L : History} → (H then c) ⊑ L → H ⊑ L
    go same = more same
    go (more r) = more (go r)

pub sent_still : (p : Plan) (m : List ℕ) (q n : ℕ) (b : List ℕ) {H K : History} → H ⊑ K → SentIn p m H q n b → SentIn p m K q n b
sent_still p m q n b same s = s
sent_still p m q n b (more r) s = inl (sent_still p m q n b r s)

-- ## Readings that say what was sent

abbrev head : List ℕ → ℕ
head [] = 0
head (x ∷ xs) = x

abbrev tail : List ℕ → List ℕ
tail [] = []
tail (x ∷ xs) = xs

module _ (p : Plan) (q : ℕ) (filler : List ℕ) where
  fair_append : (S : ℕ → List ℕ → Type 0) (xs ys : List Reading) → AllFair p q filler S xs → AllFair p q filler S ys →
      AllFair p q filler S (xs ++ ys)
  fair_append S [] ys a b = b
  fair_append S (x ∷ xs) ys a b = (a.0, fair_append S xs ys a.1 b)

  -- two such lists with the same numbers are the same, where the same was sent
  module _ {S S' : ℕ → List ℕ → Type 0} (agree : (n : ℕ) (b : List ℕ) → S n b ↔ S' n b)
      (once : (n : ℕ) (b c : List ℕ) → S n b → S n c → b ≡ c) where
    one_same : (x y : Reading) → number_told x.answer ≡ number_told y.answer → Fair p q filler S x → Fair p q filler S' y → x ≡ y
    one_same _ _ e (as_sent {n = n} {payload = b} s) (as_sent {n = n'} {payload = b'} s') =
        ap (λ (k : ℕ). record { answer = Received.Message (message k) (slot (slot_for p q k)); shown = b }) e
        ∙ ap (λ (c : List ℕ). record { answer = Received.Message (message n') (slot (slot_for p q n')); shown = c })
        (once n' b b' (subst (λ (k : ℕ). S k b) e s) ((agree n' b').1 s'))
    one_same _ _ e (as_sent {n = n} {payload = b} s) (nothing_sent {n = n'} d) = absurd (d b ((agree n' b).0 (subst (λ (k : ℕ). S k b) e s)))
    one_same _ _ e (nothing_sent {n = n} d) (as_sent {n = n'} {payload = b'} s') =
        absurd (d b' ((agree n b').1 (subst (λ (k : ℕ). S' k b') (sym e) s')))
    one_same _ _ e (nothing_sent {n = n} d) (nothing_sent {n = n'} d') =
        ap (λ (k : ℕ). record { answer = Received.Gap (message k) (sender_of (queue_at p q) last_tick k); shown = filler }) e

    all_same : (xs ys : List Reading) → numbers xs ≡ numbers ys → AllFair p q filler S xs → AllFair p q filler S' ys → xs ≡ ys
    all_same [] [] e a b = refl
    all_same [] (y ∷ ys) e a b = absurd (omega (arith, ap length e))
    all_same (x ∷ xs) [] e a b = absurd (omega (arith, ap length e))
    all_same (x ∷ xs) (y ∷ ys) e a b =
        ap (λ (z : Reading). z ∷ xs) (one_same x y (ap head e) a.0 b.0)
        ∙ ap (λ (zs : List Reading). y ∷ zs) (all_same xs ys (ap tail e) a.1 b.1)

  -- and of numbers in a row each that was sent is among them
  all_there : {S : ℕ → List ℕ → Type 0} → ((n : ℕ) (b c : List ℕ) → S n b → S n c → b ≡ c) → (n : ℕ) (b : List ℕ) →
      S n b → (a c : ℕ) → a ≤ n → n < a + c →
      (xs : List Reading) → numbers xs ≡ up_from a c → AllFair p q filler S xs →
      Among (record { answer = Received.Message (message n) (slot (slot_for p q n)); shown = b }) xs
  all_there once n b s a zero lo hi xs e f = absurd (omega arith)
  all_there once n b s a (suc c) lo hi [] e f = absurd (omega (arith, ap length e))
  all_there {S} once n b s a (suc c) lo hi (x ∷ xs) e f = go (ℕ_discrete n a) (all_there once n b s (suc a) c)
    where
      it : Reading
      it = record { answer = Received.Message (message n) (slot (slot_for p q n)); shown = b }

      here : (x : Reading) → n ≡ number_told x.answer → Fair p q filler S x → it ≡ x
      here _ d (as_sent {n = n'} {payload = b'} s') =
          ap (λ (k : ℕ). record { answer = Received.Message (message k) (slot (slot_for p q k)); shown = b }) d
          ∙ ap (λ (y : List ℕ). record { answer = Received.Message (message n') (slot (slot_for p q n')); shown = y })
          (once n' b b' (subst (λ (k : ℕ). S k b) d s) s')
      here _ d (nothing_sent none) = absurd (none b (subst (λ (k : ℕ). S k b) d s))

      go : Dec (n ≡ a) →
          (suc a ≤ n → n < suc a + c → (xs : List Reading) → numbers xs ≡ up_from (suc a) c → AllFair p q filler S xs → Among it xs) →
          Among it (x ∷ xs)
      go (yes d) rest = inl (here x (d ∙ sym (ap head e)) f.0)
      go (no d) rest = inr (rest (omega arith) (omega arith) xs (ap tail e) f.1)

-- ## Every reading of a history is such a one

module _ {p : Plan} {m : List ℕ} (fitting : Fitting p) (begins : Begins p m) (q : ℕ) (counted : q < p.queues) (filler : List ℕ)
    (width : length filler ≡ payload_bytes) where
  gap_shows : (n row : ℕ) (bytes : List ℕ) → view_of (Received.Gap (message n) row) bytes filler ≡ filler
  unfolding view_of
  gap_shows n row bytes = rw (eq-eqb (length filler) payload_bytes width)

  answer_fair : (H K : History) (t : ℕ) → (H then receive q t) ⊑ K → (a : Received) → receive_says p (world p m H) q t ≡ a →
      Answered p (world p m H) q t a →
      AllFair p q filler (SentIn p m K q) (readings a (world p m H).memory filler)
  answer_fair H K t r _ e (finding h l d) =
      let n : ℕ = next p (world p m H) q t in (
        as_sent (sent_still p m q n (view_of (Received.Message (message n) (slot (slot_for p q n))) (world p m H).memory filler) (earlier r)
            (message_as_sent fitting begins H q t n (slot (slot_for p q n)) filler width e)),
        tt,
      )
  answer_fair H K t r _ e (missing h l d) =
      let n : ℕ = next p (world p m H) q t in
      let row : ℕ = sender_of (queue_at p q) last_tick n in (
        subst (λ (y : List ℕ). Fair p q filler (SentIn p m K q) (record { answer = Received.Gap (message n) row; shown = y }))
            (sym (gap_shows n row (world p m H).memory)) (nothing_sent (gap_never_sent fitting begins H K q t n row e r)),
        tt,
      )
  answer_fair H K t r _ e (ended h l) = tt
  answer_fair H K t r _ e refused = tt

  receive_fair : (H K : History) (s t k : ℕ) → (H then receive s t) ⊑ K →
      AllFair p q filler (SentIn p m K q) (reads p filler (world p m H) (receive s t) q k)
  receive_fair H K s t k r = go (eqb s q) refl r
    where
      Goal : ℕ → Type 0
      Goal x = (H then receive x t) ⊑ K → AllFair p q filler (SentIn p m K q) (reads p filler (world p m H) (receive x t) q k)

      own : Goal q
      own r' = arm (eqb q q && eqb (receiving_job (queue_at p q) t) k)
        where
          arm : (b : Bool) → AllFair p q filler (SentIn p m K q)
              (cond b (readings (receive_says p (world p m H) q t) (world p m H).memory filler) [])
          arm true = answer_fair H K t r' (receive_says p (world p m H) q t) refl (answered p (world p m H) q t)
          arm false = tt

      go : (b : Bool) → eqb s q ≡ b → Goal s
      go true e = subst Goal (sym (eqb-true s q e)) own
      go false e = λ r'. rw e tt

  call_fair : (H K : History) (c : Call) (k : ℕ) → (H then c) ⊑ K → AllFair p q filler (SentIn p m K q) (reads p filler (world p m H) c q k)
  call_fair H K (receive s t) k r = receive_fair H K s t k r
  call_fair H K (send s i t b) k r = tt
  call_fair H K (ask_number s i j) k r = tt
  call_fair H K (ask_way_back s n) k r = tt
  call_fair H K (ask_window s j) k r = tt
  call_fair H K (ask_view a f) k r = tt

  pub all_fair : (H K : History) (k : ℕ) → H ⊑ K → AllFair p q filler (SentIn p m K q) (read_by p m filler H q k)
  all_fair start K k r = tt
  all_fair (H then c) K k r =
      fair_append p q filler (SentIn p m K q) (read_by p m filler H q k) (reads p filler (world p m H) c q k) (all_fair H K k (earlier r))
      (call_fair H K c k r)

  -- ## A job that was answered empty has read all of its window, and reads no more

  longer : (k : ℕ) {G H : History} → G ⊑ H → length (numbers (read_by p m filler G q k)) ≤ length (numbers (read_by p m filler H q k))
  longer k same = le_refl _
  longer k (more {K = K} {c = c} r) =
      omega (
        arith,
        longer k r,
        ap length (numbers_append (read_by p m filler K q k) (reads p filler (world p m K) c q k)),
        length-append (numbers (read_by p m filler K q k)) (numbers (reads p filler (world p m K) c q k)),
      )

  pub read_to_end : (H : History) (k : ℕ) → ReadToEnd p m H q k → numbers (read_by p m filler H q k) ≡ window_numbers (queue_at p q) k
  read_to_end H k end =
      let Q : Queue = queue_at p q in
      let o = order p q (valid_at fitting.sound q counted) begins filler (omega (arith, fitting.sound.checked.queues_fit)) H in
      let then_all : numbers (read_by p m filler end.before q k) ≡ window_numbers Q k =
      subst (λ (j : ℕ). numbers (read_by p m filler end.before q j) ≡ window_numbers Q j) end.job
      (empty_when_all_read fitting.sound begins filler end.before q end.t end.answer) in
      let all : length (numbers (read_by p m filler H q k)) ≡ suc (last Q k) - first Q k =
      omega (arith, o.no_further k, longer k (earlier end.within), ap length then_all, length_up (first Q k) (suc (last Q k) - first Q k)) in
      o.in_a_row k ∙ ap (up_from (first Q k)) all

end_queue : {p : Plan} {m : List ℕ} {H : History} {q k : ℕ} → ReadToEnd p m H q k → q < p.queues
end_queue {p} {m} {q = q} end = go (answered_so p (world p m end.before) q end.t Received.Empty end.answer)
  where
    go : {w : World} {t : ℕ} → Answered p w q t Received.Empty → q < p.queues
    go (ended can l) = can.queue

pub same_readings : {p : Plan} {m m' : List ℕ} → Fitting p → Begins p m → Begins p m' →
    (H K : History) (q k : ℕ) (filler : List ℕ) →
    length filler ≡ payload_bytes → ((n : ℕ) (b : List ℕ) → SentIn p m H q n b ↔ SentIn p m' K q n b) →
    ReadToEnd p m H q k → ReadToEnd p m' K q k → read_by p m filler H q k ≡ read_by p m' filler K q k
same_readings {p} {m} {m'} fitting begins begins' H K q k filler width agree end end' =
    let counted : q < p.queues = end_queue end in
    all_same p q filler agree (sent_same fitting begins H q) (read_by p m filler H q k) (read_by p m' filler K q k)
    (read_to_end fitting begins q counted filler width H k end ∙ sym (read_to_end fitting begins' q counted filler width K k end'))
    (all_fair fitting begins q counted filler width H H k same) (all_fair fitting begins' q counted filler width K K k same)

-- a message that was sent is read by the job whose window it lies in, if that job reads to its end
pub sent_is_read : {p : Plan} {m : List ℕ} → Fitting p → Begins p m → (H : History) (q k n : ℕ) (b filler : List ℕ) →
    length filler ≡ payload_bytes →
    ReadToEnd p m H q k → first (queue_at p q) k ≤ n → n ≤ last (queue_at p q) k → SentIn p m H q n b →
    Among (record { answer = Received.Message (message n) (slot (slot_for p q n)); shown = b }) (read_by p m filler H q k)
sent_is_read {p} {m} fitting begins H q k n b filler width end lo hi s =
    let counted : q < p.queues = end_queue end in
    let Q : Queue = queue_at p q in
    all_there p q filler (sent_same fitting begins H q) n b s (first Q k) (suc (last Q k) - first Q k) lo (omega arith) (read_by p m filler H q k)
    (read_to_end fitting begins q counted filler width H k end) (all_fair fitting begins q counted filler width H H k same)
