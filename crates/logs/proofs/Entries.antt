-- What one line adds to a log, and that it is what its call adds to the history: an 84 is an accepted send, an 85 or an 86 a reading, an 87 an
-- end. And logs that are one behind the other.
use Rattle.std.specs.Prelude.{◌&&◌, ◌∷◌, ◌++◌, ◌⊎◌, ◌↔◌, ◌≡◌, Result, Ok, Err}
use Rattle.common.specs.Words.{ℕ, arith, Bool, true, false, cond, List, [], map, inl, inr, refl, sym, ap, subst, ◌∙◌, eqb}
use Rattle.calendar.specs.Calendar.{message}
use Rattle.plan.specs.Plan.{queue_at}
use Rattle.plan.specs.Says.{Said}
use Rattle.mailbox.specs.Calls.{receiving_job, sent_says, stored_as}
use Rattle.frames.specs.Answers.{line_of}
use Rattle.calls.specs.CallLines.{sent_bytes, filler, received_bytes}
use Rattle.history.specs.History.{send, receive, World, send_says, receive_says, Sends, accepted_as, readings, reads}
use Rattle.logs.specs.Types.{Tick, Plan, Refusal, Stored, Received, Frame}
use Rattle.logs.specs.Said.{frame_in, payload_of, code_in, said_in, received_told}
use Rattle.logs.specs.Log.{Entry, Log, Stores, StoredIn, asks, tells, lines_to, Ends, EndedIn}
use Rattle.logs.specs.Session.{line_for}
use Rattle.logs.proofs.Widths.{send_fits, receive_fits}
use Rattle.logs.proofs.ReadBack.{sent_back, received_back}
use Rattle.logs.proofs.Turns.{Quiet}

-- ## One log behind the other

regroup : {A B C D : Type 0} → B ↔ (C ⊎ D) → (A ⊎ B) ↔ ((A ⊎ C) ⊎ D)
regroup {A} {B} {C} {D} e = (λ x. to x, λ x. from x)
  where
    on : C ⊎ D → (A ⊎ C) ⊎ D
    on (inl c) = inl (inr c)
    on (inr d) = inr d

    to : A ⊎ B → (A ⊎ C) ⊎ D
    to (inl a) = inl (inl a)
    to (inr b) = on (e.0 b)

    from : (A ⊎ C) ⊎ D → A ⊎ B
    from (inl (inl a)) = inl a
    from (inl (inr c)) = inr (e.1 (inl c))
    from (inr d) = inr (e.1 (inr d))

pub stored_append : (a b : Log) (q n : ℕ) (payload : List ℕ) →
    StoredIn (a ++ b) q n payload ↔ (StoredIn a q n payload ⊎ StoredIn b q n payload)
stored_append [] b q n payload = (λ s. inr s, λ s. elim s [ inl x ↦ absurd x | inr x ↦ x ])
stored_append (e ∷ a) b q n payload = regroup (stored_append a b q n payload)

pub ended_append : (p : Plan) (q k : ℕ) (a b : Log) → EndedIn p q k (a ++ b) → EndedIn p q k a ⊎ EndedIn p q k b
ended_append p q k [] b s = inr s
ended_append p q k (e ∷ a) b (inl s) = inl (inl s)
ended_append p q k (e ∷ a) b (inr s) = go (ended_append p q k a b s)
  where
    go : EndedIn p q k a ⊎ EndedIn p q k b → (Ends p q k e ⊎ EndedIn p q k a) ⊎ EndedIn p q k b
    go (inl x) = inl (inr x)
    go (inr x) = inr x

pub lines_append : (p : Plan) (q k : ℕ) (a b : Log) → lines_to p q k (a ++ b) ≡ lines_to p q k a ++ lines_to p q k b
unfolding lines_to
lines_append p q k [] b = refl
lines_append p q k (e ∷ a) b = go (asks p q k (frame_in e.line) && tells (code_in e.answer)) (lines_append p q k a b)
  where
    go : (c : Bool) → lines_to p q k (a ++ b) ≡ lines_to p q k a ++ lines_to p q k b →
        cond c (e.answer ∷ lines_to p q k (a ++ b)) (lines_to p q k (a ++ b))
        ≡ cond c (e.answer ∷ lines_to p q k a) (lines_to p q k a) ++ lines_to p q k b
    go true h = ap (λ (l : List (List ℕ)). e.answer ∷ l) h
    go false h = h

-- ## Codes

differ : {a b c : ℕ} → a ≡ b → a ≡ c → (b ≡ c → ⊥) → ⊥
differ e f h = h (sym e ∙ f)

said_code : (answer : List ℕ) (s : Said) → said_in answer ≡ s → code_in answer ≡ s.0
unfolding said_in
said_code answer s e = ap (λ (x : Said). x.0) e

neither : (b : Bool) → (b && false) ≡ false
neither true = refl
neither false = refl

-- ## A line that is quiet

module _ (e : Entry) (quiet : Quiet (frame_in e.line) e.answer) where
  pub quiet_stores : (q n : ℕ) (payload : List ℕ) → Stores q n payload e → ⊥
  quiet_stores q n payload s =
      let c : code_in e.answer ≡ 0x7f = subst (λ (f : Frame). Quiet f e.answer) s.asked quiet in
      differ c (said_code e.answer _ s.told) (λ x. omega arith)

  pub quiet_ends : (p : Plan) (q k : ℕ) → Ends p q k e → ⊥
  quiet_ends p q k s =
      let c : code_in e.answer ≡ 0x7f = subst (λ (f : Frame). Quiet f e.answer) s.asked quiet in
      differ c s.told (λ x. omega arith)

  pub quiet_lines : (p : Plan) (q k : ℕ) → lines_to p q k (e ∷ []) ≡ []
  unfolding lines_to
  quiet_lines p q k = go (frame_in e.line) quiet
    where
      go : (f : Frame) → Quiet f e.answer → cond (asks p q k f && tells (code_in e.answer)) (e.answer ∷ []) [] ≡ []
      go (Frame.Receive r t) c = rw (c, neither (asks p q k (Frame.Receive r t)))
      go (Frame.Task period deadline priority) c = refl
      go (Frame.Queue receiver mask) c = refl
      go Frame.Go c = refl
      go (Frame.Send r i t) c = refl
      go Frame.Bad c = refl

-- ## A 04 that is answered by a send

module _ (p : Plan) (w : World) (e : Entry) (q i : ℕ) (t : Tick) (asked : frame_in e.line ≡ Frame.Send q i t)
    (answered : e.answer ≡ line_of (sent_bytes (send_says p w q i t.0 (payload_of e.line)))) where
  abbrev sent : Result Stored Refusal
  sent = send_says p w q i t.0 (payload_of e.line)

  sent_said : said_in e.answer ≡ sent_says sent
  sent_said = rw answered (sent_back sent (send_fits w.state p w.memory q i t.0 (payload_of e.line) sent refl))

  pub sent_stores : (r n : ℕ) (b : List ℕ) → Stores r n b e ↔ Sends p w (send q i t.0 (payload_of e.line)) r n b
  sent_stores r n b = (λ s. to s sent refl (sym sent_said ∙ s.told), λ s. from s)
    where
      to : (s : Stores r n b e) (a : Result Stored Refusal) → sent ≡ a → sent_says sent ≡ (0x84, n ∷ s.slot ∷ []) →
          Sends p w (send q i t.0 (payload_of e.line)) r n b
      to s (Err x) d h = absurd (differ (ap (λ (y : Said). y.0) (ap sent_says (sym d) ∙ h)) refl (λ x. omega arith))
      to s (Ok it) d h =
          let v : it.number.0 ≡ n = ap (λ (y : Said). head_of y.1) (ap sent_says (sym d) ∙ h) in
          let same : q ≡ r = cc in
          subst (λ (x : ℕ). Sends p w (send q i t.0 (payload_of e.line)) x n b) same
          (subst (λ (x : List ℕ). Sends p w (send q i t.0 (payload_of e.line)) q n x) s.carried
          (accepted_as (d ∙ ap (λ (x : ℕ). stored_as (message x) it.slot) v)))
        where
          head_of : List ℕ → ℕ
          head_of [] = 0
          head_of (x ∷ xs) = x

      from : {r n : ℕ} {b : List ℕ} → Sends p w (send q i t.0 (payload_of e.line)) r n b → Stores r n b e
      from (accepted_as {s = at} h) = record {
        task = i;
        tick = t;
        slot = at.0;
        asked = asked;
        carried = refl;
        told = sent_said ∙ ap sent_says h;
      }

  pub sent_ends : (r k : ℕ) → Ends p r k e → ⊥
  sent_ends r k s = let z : ◌≡◌ {A = ℕ} 0 1 = cc in omega arith

  pub sent_lines : (r k : ℕ) → lines_to p r k (e ∷ []) ≡ []
  unfolding lines_to
  sent_lines r k = rw asked

-- ## A 05 that is answered by a receive

module _ (p : Plan) (w : World) (e : Entry) (q : ℕ) (t : Tick) (asked : frame_in e.line ≡ Frame.Receive q t)
    (answered : e.answer ≡ line_of (received_bytes w.memory (receive_says p w q t.0))) where
  abbrev received : Received
  received = receive_says p w q t.0

  received_code : code_in e.answer ≡ (received_told received).0
  received_code =
      said_code e.answer (received_told received)
      (rw answered (received_back w.memory received (receive_fits w.state p w.memory q t.0 received refl)))

  pub received_stores : (r n : ℕ) (b : List ℕ) → Stores r n b e → ⊥
  received_stores r n b s = let z : ◌≡◌ {A = ℕ} 0 1 = cc in omega arith

  -- it is an end where it is told 87
  pub received_empty : code_in e.answer ≡ 0x87 → received ≡ Received.Empty
  received_empty c = go received refl (sym received_code ∙ c)
    where
      go : (a : Received) → received ≡ a → (received_told received).0 ≡ 0x87 → received ≡ Received.Empty
      go (Received.Message n at) d h = absurd (differ (ap (λ (x : Received). (received_told x).0) (sym d) ∙ h) refl (λ x. omega arith))
      go (Received.Gap n row) d h = absurd (differ (ap (λ (x : Received). (received_told x).0) (sym d) ∙ h) refl (λ x. omega arith))
      go Received.Empty d h = d
      go (Received.Refused r) d h = absurd (differ (ap (λ (x : Received). (received_told x).0) (sym d) ∙ h) refl (λ x. omega arith))

  -- and its line is that of the reading
  pub received_lines : (r k : ℕ) → lines_to p r k (e ∷ []) ≡ map line_for (reads p filler w (receive q t.0) r k)
  unfolding lines_to
  received_lines r k =
      rw (asked, received_code, answered) (go (eqb q r && eqb (receiving_job (queue_at p r) t.0) k) received)
    where
      go : (b : Bool) (a : Received) →
          cond (b && tells (received_told a).0) (line_of (received_bytes w.memory a) ∷ []) []
          ≡ map line_for (cond b (readings a w.memory filler) [])
      go true (Received.Message n at) = refl
      go true (Received.Gap n row) = refl
      go true Received.Empty = refl
      go true (Received.Refused x) = refl
      go false a = refl
