-- What an answer has to say fits the bytes that its line has for it: numbers, slots, sizes, senders and rows, on every input. It leans on
-- history's cases of a call and on the limits of a sound plan.
use Rattle.std.specs.Prelude.{◌*◌, ◌%◌, ◌^◌, ◌<◌, ◌≤◌, ◌&&◌, ◌∷◌, ◌++◌, ◌⊎◌, ◌≡◌, Result, Ok, Err}
use Rattle.common.specs.Words.{ℕ, arith, Bool, true, List, [], inl, inr, refl, sym, subst, ap, ◌∙◌, drop, ltb, ltb-true, not-false, mod-lt}
use Rattle.common.specs.Words.{mul-le-mul, div-mul-le_self}
use Rattle.common.specs.Tests.{both, having}
use Rattle.model.specs.Model.{Queue, Sender, receiver_period, deadline_of, number, up_to, last, sender_of}
use Rattle.model.proofs.Number.{up_to_le, up_to_mono, number_below}
use Rattle.model.proofs.WayBack.{way_there}
use Rattle.plan.specs.Limits.{last_tick}
use Rattle.plan.specs.Plan.{queue_at, size_at}
use Rattle.plan.specs.Sound.{Sound, sound_iff}
use Rattle.plan.specs.Facts.{Counts, counts_iff}
use Rattle.plan.specs.Rules.{bad_task, bad_queue}
use Rattle.plan.specs.Refusals.{Line}
use Rattle.plan.specs.Verdicts.{Passed, Stopped, passed_or_stopped, passed_good, stopped_refused}
use Rattle.tables.specs.Table.{tabled}
use Rattle.places.specs.Places.{long_queue}
use Rattle.planning.specs.AcceptedPlan.{plan_lines}
use Rattle.planning.specs.Planning.{first_lines, table_lines, refused_plan, accepted_plan, plan_of}
use Rattle.mailbox.specs.Calls.{start_lines, start_answer, send_lines, send_answer, receive_lines, look, running_job, receiving_job}
use Rattle.mailbox.specs.Refused.{start_refused, send_refused, receive_refused}
use Rattle.history.specs.History.{World, send, accepted_as, of_gap}
use Rattle.history.proofs.Steps.{Step, sends, stays, step, send_stores, number_at, next}
use Rattle.history.proofs.Ground.{valid_at}
use Rattle.history.proofs.Answers.{Answered, finding, missing, ended, refused, answered_so, told, told_window}
use Rattle.history.proofs.Holds.{ready_sound}
use Rattle.logs.specs.Types.{Plan, Refusal, Verdict, clear, Planned, Stored, Received, State}

-- ## Rows of refusals

-- the first line that applies names a row of one byte
abbrev rows_small : List Line → Bool
rows_small [] = true
rows_small (line ∷ lines) = ltb line.given.row 256 && rows_small lines

row_small : (lines : List Line) (r : Refusal) → rows_small lines ≡ true → Stopped lines r → r.row < 256
row_small [] r h s = absurd s
row_small (line ∷ lines) r h (inl s) = rw (← s.1) (ltb-true line.given.row 256 (both (ltb line.given.row 256) h).0)
row_small (line ∷ lines) r h (inr s) = row_small lines r (both (ltb line.given.row 256) h).1 s.1

-- ## Numbers of a sound plan

module _ {p : Plan} (sound : Sound p) (q : ℕ) (counted : q < p.queues) where
  abbrev Q : Queue
  Q = queue_at p q

  -- the most that are counted: 16 tasks, one message a tick
  count_small : (t : ℕ) → t ≤ last_tick → up_to Q t < 256 ^ 6
  count_small t h = omega (arith, up_to_le Q (valid_at sound q counted) t, mul-le-mul sound.checked.tasks_fit h)

  number_small : (i k : ℕ) → Sender Q i → deadline_of Q i k ≤ last_tick → number Q i k < 256 ^ 6
  number_small i k s h = omega (arith, number_below Q (valid_at sound q counted) i k s, count_small (deadline_of Q i k) h)

  slot_small : (n : ℕ) → n % size_at p q < 256 ^ 2
  slot_small n = omega (arith, mod-lt n (sound.size_pos q counted), sound.size_fits q counted)

  -- a window's last number
  last_small : (t : ℕ) → t ≤ last_tick → last Q (receiving_job Q t) < 256 ^ 6
  unfolding last
  last_small t h = count_small (receiving_job Q t * receiver_period Q) (omega (arith, div-mul-le_self t (receiver_period Q)))

  -- the sender of a number that is not past the last tick's
  sender_small : (n : ℕ) → 1 ≤ n → n ≤ up_to Q last_tick → sender_of Q last_tick n < 256
  sender_small n pos h =
      having (way_there Q (valid_at sound q counted) n last_tick pos h) (λ y. omega (arith, y.0.row, sound.checked.tasks_fit))

  last_within : (t : ℕ) → t ≤ last_tick → last Q (receiving_job Q t) ≤ up_to Q last_tick
  unfolding last
  last_within t h =
      up_to_mono Q (valid_at sound q counted) (receiving_job Q t * receiver_period Q) last_tick
      (omega (arith, div-mul-le_self t (receiver_period Q)))

-- ## Send and receive

abbrev pub ReceivedFits : Received → Type 0
ReceivedFits (Received.Message n at) = n.0 < 256 ^ 6
ReceivedFits (Received.Gap n row) = (n.0 < 256 ^ 6) × (row < 256)
ReceivedFits Received.Empty = Unit {0}
ReceivedFits (Received.Refused r) = r.row < 256

abbrev pub SentFits : Result Stored Refusal → Type 0
SentFits (Ok it) = (it.number.0 < 256 ^ 6) × (it.slot.0 < 256 ^ 2)
SentFits (Err r) = r.row < 256

module _ (s : State) (p : Plan) (m : List ℕ) where
  abbrev w : World
  w = record { state = s; memory = m }

  pub send_fits : (q i t : ℕ) (payload : List ℕ) (a : Result Stored Refusal) → send_answer s p m q i t payload ≡ a → SentFits a
  send_fits q i t payload (Err r) e = row_small (send_lines s p m q i t payload) r refl ((send_refused s p m q i t payload r).0 e)
  send_fits q i t payload (Ok it) e = go e (step p w (send q i t payload))
    where
      go : {w' : World} → send_answer s p m q i t payload ≡ Ok it → Step p w (send q i t payload) w' → SentFits (Ok it)
      go e (stays quiet) = absurd (quiet.no_send q it.number.0 payload (accepted_as e))
      go e (sends can) =
          let sound : Sound p = can.ground.sound in
          subst SentFits (sym (send_stores p w q i t payload can) ∙ e) (
            number_small sound q can.queue i (running_job (queue_at p q) i t) can.sender can.deadline_within,
            slot_small sound q can.queue (number_at p w q i t),
          )

  pub receive_fits : (q t : ℕ) (a : Received) → look s p m q t ≡ a → ReceivedFits a
  receive_fits q t a e = go (answered_so p w q t a e) e
    where
      go : {a : Received} → Answered p w q t a → look s p m q t ≡ a → ReceivedFits a
      go (finding can l d) e = omega (arith, l, last_small can.ground.sound q can.queue t can.tick_within)
      go (missing can l d) e =
          let sound : Sound p = can.ground.sound in
          let k = told_window sound (told {w = w} (missing can l d) of_gap) in (
            omega (arith, l, last_small sound q can.queue t can.tick_within),
            sender_small sound q can.queue (next p w q t) (omega (arith, k.0))
                (omega (arith, l, last_within sound q can.queue t can.tick_within)),
          )
      go (ended can l) e = tt
      go (refused {r = r}) e = row_small (receive_lines s p m q t) r refl ((receive_refused s p m q t r).0 e)

-- ## Start

abbrev pub StartedFits : Plan → Verdict → Type 0
StartedFits p (Ok it) = (q : ℕ) → q < p.queues → size_at p q < 256 ^ 2
StartedFits p (Err r) = r.row < 256

pub start_fits : (p : Plan) (m : List ℕ) (a : Verdict) → start_answer p m ≡ a → StartedFits p a
start_fits p m (Ok it) e = λ q h. omega (arith, ((sound_iff p).0 (ready_sound (record { ready = e }))).size_fits q h)
start_fits p m (Err r) e = row_small (start_lines p m) r refl ((start_refused p m r).0 e)

-- ## Planning

module _ (tasks queues : ℕ) (period deadline priority receiver : List ℕ) (square : List (List Bool)) where
  abbrev T : Plan
  T = tabled tasks queues period deadline priority receiver square

  abbrev lines : List Line
  lines = first_lines tasks queues period deadline receiver square ++ table_lines T

  table_queues : T.queues ≡ queues
  unfolding tabled
  table_queues = refl

  -- a row that a refusal names is one of the table's, once rule 1 has passed
  named_small : (r : Refusal) → Stopped lines r → r.row < 256
  named_small r (inl s) = rw (← s.1) (omega arith)
  named_small r (inr s) = go ((counts_iff tasks queues).0 (not-false _ s.0)) s.1
    where
      go : Counts tasks queues → Stopped (drop 1 lines) r → r.row < 256
      go c (inl s) = rw (← s.1) (omega (arith, ltb-true (bad_task period deadline tasks) tasks s.0))
      go c (inr (_, inl s)) = rw (← s.1) (omega (arith, ltb-true (bad_queue square receiver tasks queues) queues s.0))
      go c (inr (_, inr (_, inl s))) =
          rw (← s.1) (omega (arith, table_queues, ltb-true (long_queue T) T.queues (both (ltb (long_queue T) T.queues) s.0).0))
      go c (inr (_, inr (_, inr (_, inl s)))) = rw (← s.1) (omega (arith, table_queues, ltb-true (long_queue T) T.queues s.0))
      go c (inr (_, inr (_, inr (_, inr (_, inl s))))) = rw (← s.1) (omega arith)
      go c (inr (_, inr (_, inr (_, inr (_, inr s))))) = absurd s.1

  pub planning_fits : (r : Refusal) → (plan_of tasks queues period deadline priority receiver square).answer ≡ Err r → r.row < 256
  planning_fits r e = go (passed_or_stopped lines)
    where
      go : Passed lines ⊎ ((s : Refusal) × Stopped lines s) → r.row < 256
      go (inl h) =
          let a : Err r ≡ clear =
          sym e
          ∙ ap (λ (x : Planned). x.answer)
          (plan_lines tasks queues period deadline priority receiver square ∙ passed_good lines refused_plan (accepted_plan T) h) in
          absurd (let z : ◌≡◌ {A = ℕ} 0 1 = cc in omega arith)
      go (inr h) =
          let a : ◌≡◌ {A = Verdict} (Err r) (Err h.0) =
          sym e
          ∙ ap (λ (x : Planned). x.answer)
          (plan_lines tasks queues period deadline priority receiver square ∙ stopped_refused lines h.0 refused_plan (accepted_plan T) h.1) in
          let same : r ≡ h.0 = cc in
          rw same (named_small h.0 h.1)
