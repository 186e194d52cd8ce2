-- What holds of a running call exactly when no line of the table refuses it, in plain facts.
use Rattle.std.specs.Prelude.{◌+◌, ◌-◌, ◌*◌, ◌<◌, ◌≤◌, ◌||◌, ◌∷◌, ◌≡◌}
use Rattle.common.specs.Words.{ℕ, arith, Bool, true, false, not, List, refl, sym, ◌∙◌, ltb, eqb, length, get_or, ltb-true, ltb-false}
use Rattle.common.specs.Words.{leb-false, eqb-true, not-false, le-ltb, lt-ltb, lt-leb, eq-eqb}
use Rattle.common.specs.Tests.{passed}
use Rattle.common.specs.Totals.{sum_next}
use Rattle.model.specs.Model.{Sender, receiver_period, wanted_for, wanted_until}
use Rattle.model.proofs.Order.{period_pos}
use Rattle.model.proofs.Outdating.{wanted_fits}
use Rattle.plan.specs.Limits.{task_limit, queue_limit, longest_period, most_slots, last_tick, payload_bytes, slot_bytes}
use Rattle.plan.specs.Plan.{queue_at, size_at, place_at, slots_of, Usable}
use Rattle.plan.specs.Facts.{connected_iff}
use Rattle.plan.specs.Refusals.{Line, ◌gives◌, unnamed}
use Rattle.plan.specs.Rules.{sound_plan, connected}
use Rattle.plan.specs.Sound.{Sound, sound_iff, usable}
use Rattle.plan.specs.Verdicts.{Verdict, clear, verdict, Passed, clear_passed}
use Rattle.plan.specs.declared.Plan.{Plan}
use Rattle.plan.specs.declared.refusal.Rule.TheVariants.{ShortMemory}
use Rattle.timing.specs.Timing.{running_lines}
use Rattle.judge.specs.Lines.{ground_lines, start_lines, send_lines, receive_lines, running_job, running_deadline, receiving_job}

-- the two parts of a test that failed
or_left : (a b : Bool) → (a || b) ≡ false → a ≡ false
or_left true b h = h
or_left false b h = refl

or_right : (a b : Bool) → (a || b) ≡ false → b ≡ false
or_right true b h = cc
or_right false b h = h

-- ## Of a sound plan

-- the last queue's slots end the plan's
pub slots_end : {p : Plan} → Sound p → place_at p (p.queues - 1) + size_at p (p.queues - 1) ≡ slots_of p
slots_end {p} s =
    let e : p.queues - 1 + 1 ≡ p.queues = omega (arith, s.checked.some_queue) in
    omega (arith, s.place_is (p.queues - 1) (omega (arith, s.checked.some_queue)), rw e at (sum_next (size_at p) (p.queues - 1)))

-- what `slots_of` asks
pub slots_fit : {p : Plan} → Sound p →
    (1 ≤ p.queues) × (p.queues ≤ queue_limit) × (place_at p (p.queues - 1) + size_at p (p.queues - 1) ≤ most_slots)
slots_fit s = (s.checked.some_queue, s.checked.queues_fit, omega (arith, slots_end s, s.total_fits))

-- of a sound plan's lines 7 and 8 the test of its last queue's place decides
pub eight : (p : Plan) → sound_plan p ≡ true → (m : List ℕ) {b : Bool} →
    b ≡ ltb (length m) ((place_at p (p.queues - 1) + size_at p (p.queues - 1)) * slot_bytes) → (rest : List Line) →
    verdict (ground_lines p m rest) ≡ verdict (b gives unnamed ShortMemory ∷ rest)
eight p h m e rest = rw (h, ← slots_end ((sound_iff p).0 h), e)

-- a usable queue's receiver
pub receiver_fits : {p : Plan} {q : ℕ} → Usable p q → (1 ≤ receiver_period (queue_at p q)) × (wanted_for (queue_at p q) ≤ longest_period)
receiver_fits {p} {q} u =
    let r = u.valid.receiver_row in
    (period_pos (queue_at p q) u.valid _ r, omega (arith, wanted_fits (queue_at p q) u.valid, u.periods_fit _ r))

-- and its senders
abbrev pub SenderFits : Plan → ℕ → Type 0
SenderFits p i = (i < task_limit) × ((1 ≤ get_or p.period i 0) × (get_or p.deadline i 0 ≤ longest_period))

pub sender_fits : {p : Plan} {q i : ℕ} → Usable p q → Sender (queue_at p q) i → SenderFits p i
sender_fits {p} {q} {i} u s =
    let l = s.row in (
      omega (arith, u.tasks_fit),
      (
        omega (arith, u.valid.deadline_pos i l, u.valid.deadline_fits i l),
        omega (arith, u.valid.deadline_fits i l, u.periods_fit i l),
      ),
    )

-- where rule 9 was tested and did not apply
pub connected_fits : (p : Plan) → sound_plan p ≡ true → (q i : ℕ) {a : Bool} → a ≡ connected p q i → not a ≡ false →
    SenderFits p i
connected_fits p s q i e h =
    let x = (connected_iff p q i).0 (passed e h) in sender_fits (usable ((sound_iff p).0 s) q x.0) x.1

pub connected_counted : (p : Plan) → sound_plan p ≡ true → (q i : ℕ) {a : Bool} → a ≡ connected p q i → not a ≡ false →
    q < queue_limit
connected_counted p s q i e h = (usable ((sound_iff p).0 s) q ((connected_iff p q i).0 (passed e h)).0).queue_fits

-- ## 7 and 8

pub record Ground (p : Plan) (m : List ℕ) : Type 0 where
  pub sound : Sound p
  pub room : slots_of p * slot_bytes ≤ length m

ground_passed : (p : Plan) (m : List ℕ) → Passed (start_lines p m) → Ground p m
ground_passed p m h = record {
  sound = (sound_iff p).0 (not-false (sound_plan p) h.0);
  room = ltb-false (length m) (slots_of p * slot_bytes) h.1.0;
}

seven : {p : Plan} {m : List ℕ} → Ground p m → not (sound_plan p) ≡ false
seven {p} g = rw ((sound_iff p).1 g.sound)

-- from a verdict v that was made of the lines and told to be clear, as the code's proofs have it
pub ground_clear : (p : Plan) (m : List ℕ) {v : Verdict} → v ≡ verdict (start_lines p m) → v ≡ clear → Ground p m
ground_clear p m e h = ground_passed p m (clear_passed (start_lines p m) (sym e ∙ h))

pub start_sound : (p : Plan) (m : List ℕ) {v : Verdict} → v ≡ verdict (start_lines p m) → v ≡ clear → sound_plan p ≡ true
start_sound p m e h = (sound_iff p).1 (ground_clear p m e h).sound

-- ## Send

pub record SendTaken (before earliest : ℕ) (p : Plan) (m : List ℕ) (q i t : ℕ) (payload : List ℕ) : Type 0 where
  pub ground : Ground p m
  pub whole : length payload ≡ payload_bytes
  pub queue : q < p.queues
  pub sender : Sender (queue_at p q) i
  pub tick_within : t ≤ last_tick
  pub deadline_within : running_deadline (queue_at p q) i t ≤ last_tick
  pub in_order : before ≤ t
  pub running : t < running_deadline (queue_at p q) i t
  pub unsent : earliest ≤ running_job (queue_at p q) i t

pub send_passed : (before unsent : ℕ) (p : Plan) (m : List ℕ) (q i t : ℕ) (payload : List ℕ) →
    Passed (send_lines before unsent p m q i t payload) →
    SendTaken before unsent p m q i t payload
send_passed before unsent p m q i t payload h =
    let g = h.1.1 in
    let c = (connected_iff p q i).0 (not-false (connected p q i) g.1.0) in
    let l = g.1.1 in
    let d = running_deadline (queue_at p q) i t in
    record {
      ground = ground_passed p m (h.0, (h.1.0, tt));
      whole = eqb-true (length payload) payload_bytes (not-false (eqb (length payload) payload_bytes) g.0);
      queue = c.0;
      sender = c.1;
      tick_within = ltb-false last_tick t (or_left (ltb last_tick t) (ltb last_tick d) l.0);
      deadline_within = ltb-false last_tick d (or_right (ltb last_tick t) (ltb last_tick d) l.0);
      in_order = ltb-false t before l.1.0;
      running = leb-false d t l.1.1.0;
      unsent = ltb-false (running_job (queue_at p q) i t) unsent l.1.1.1.0;
    }

pub send_passes : {before unsent : ℕ} {p : Plan} {m : List ℕ} {q i t : ℕ} {payload : List ℕ} → SendTaken before unsent p m q i t payload →
    Passed (send_lines before unsent p m q i t payload)
send_passes {before} {unsent} {p} {m} {q} {i} {t} {payload} h =
    let eleven : (ltb last_tick t || ltb last_tick (running_deadline (queue_at p q) i t)) ≡ false =
    rw (le-ltb last_tick t h.tick_within, le-ltb last_tick (running_deadline (queue_at p q) i t) h.deadline_within) in
    let lines : Passed (running_lines before unsent ((queue_at p q).period i) ((queue_at p q).deadline i) t) =
    (eleven, (le-ltb _ _ h.in_order, (lt-leb _ _ h.running, (le-ltb _ _ h.unsent, tt)))) in
    let nine : not (connected p q i) ≡ false = rw ((connected_iff p q i).1 (h.queue, h.sender)) in
    let fourteen : not (eqb (length payload) payload_bytes) ≡ false = rw (eq-eqb (length payload) payload_bytes h.whole) in
    (seven h.ground, (le-ltb _ _ h.ground.room, (fourteen, (nine, lines))))

pub send_taken : (before unsent : ℕ) (p : Plan) (m : List ℕ) (q i t : ℕ) (payload : List ℕ) {v : Verdict} →
    v ≡ verdict (send_lines before unsent p m q i t payload) → v ≡ clear → SendTaken before unsent p m q i t payload
send_taken before unsent p m q i t payload e f =
    send_passed before unsent p m q i t payload (clear_passed (send_lines before unsent p m q i t payload) (sym e ∙ f))

-- ## Receive

pub record ReceiveTaken (before : ℕ) (p : Plan) (m : List ℕ) (q t : ℕ) : Type 0 where
  pub ground : Ground p m
  pub queue : q < p.queues
  pub tick_within : t ≤ last_tick
  pub in_order : before ≤ t
  pub wanted : t < wanted_until (queue_at p q) (receiving_job (queue_at p q) t)

pub receive_passed : (before : ℕ) (p : Plan) (m : List ℕ) (q t : ℕ) → Passed (receive_lines before p m q t) → ReceiveTaken before p m q t
receive_passed before p m q t h =
    let g = h.1.1 in
    record {
      ground = ground_passed p m (h.0, (h.1.0, tt));
      queue = ltb-true q p.queues (not-false (ltb q p.queues) g.0);
      tick_within = ltb-false last_tick t g.1.0;
      in_order = ltb-false t before g.1.1.0;
      wanted = leb-false (wanted_until (queue_at p q) (receiving_job (queue_at p q) t)) t g.1.1.1.0;
    }

pub receive_passes : {before : ℕ} {p : Plan} {m : List ℕ} {q t : ℕ} → ReceiveTaken before p m q t → Passed (receive_lines before p m q t)
receive_passes {before} {p} {m} {q} {t} h =
    let nine : not (ltb q p.queues) ≡ false = rw (lt-ltb q p.queues h.queue) in (
      seven h.ground,
      (
        le-ltb _ _ h.ground.room,
        (nine, (le-ltb _ _ h.tick_within, (le-ltb _ _ h.in_order, (lt-leb _ _ h.wanted, tt)))),
      ),
    )

pub receive_taken : (before : ℕ) (p : Plan) (m : List ℕ) (q t : ℕ) {v : Verdict} →
    v ≡ verdict (receive_lines before p m q t) → v ≡ clear → ReceiveTaken before p m q t
receive_taken before p m q t e f = receive_passed before p m q t (clear_passed (receive_lines before p m q t) (sym e ∙ f))
