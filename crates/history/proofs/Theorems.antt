-- DEMAND 3. "For a plan we made, one accepted start and no start after it, plan, memory and state carried unaltered: for EVERY sequence of
-- calls, refused ones included, each receiving job reads its messages in number order, each as its job sent it, and a gap only where that
-- job sent nothing. A queue's slot count is the least possible: with any smaller one (at least 1), places reckoned anew, some sequence of
-- accepted sends and receives from a start reports a sent message as a gap."
--
-- How to read it. `Made p`: p is a plan we made, which every accepted planning gives (`accepted_made` of planning). `Begins p m`: a start
-- with p on memory m is accepted, whatever bytes lie in m. A history is the calls after that start, of any kind and with any arguments;
-- `world p m H` is the state and memory that the calls H leave, by the definitions that the contracts of start, send and receive cite.
-- `receive_says p (world p m H) q t` is what a receive on queue q at tick t is answered when it comes after H. A statement over every H is
-- so one over every receive of every sequence of calls; `H ⊑ K` says that K begins with H. `SentIn p m H q n b`: some send on queue q in
-- H, with payload b, was accepted as message n. All definitions stand in History and Smaller; each statement here is proved in the file
-- that its proof names, and nothing is assumed.
use Rattle.std.specs.Prelude.{◌-◌, ◌*◌, ◌≤◌, ◌<◌, ◌∷◌, ◌++◌, ◌↔◌, ◌≡◌}
use Rattle.common.specs.Words.{ℕ, List, subst, length, drop}
use Rattle.calendar.specs.Calendar.{message, slot}
use Rattle.history.specs.Types.{Slot, Plan, Received}
use Rattle.model.specs.Model.{Sender, receiver_period, release_of, deadline_of, number, first, last, sender_of, job_of}
use Rattle.plan.specs.Limits.{last_tick, payload_bytes, slot_bytes}
use Rattle.plan.specs.Plan.{queue_at, size_at, slots_of}
use Rattle.mailbox.specs.Calls.{running_job, receiving_job, slot_for, stored_as}
use Rattle.running.specs.View.{view_of}
use Rattle.history.specs.History.{Call, receive, World, History, start, ◌then◌, ◌⊑◌, Begins, world, after, send_says, receive_says, history}
use Rattle.history.specs.History.{go_on, Sends, SentIn, Tells, read_by, numbers, window_numbers, AllFair, Among, ReadToEnd, AcceptedCall}
use Rattle.history.proofs.Made.{made_fits, loses_one}
use Rattle.planning.specs.Planning.{Made}
use Rattle.history.specs.Smaller.{resized, Lost}
use Rattle.history.proofs.Lists.{go_on_append, goes_on}
use Rattle.history.proofs.Steps
use Rattle.history.proofs.Holds
use Rattle.history.proofs.Reading
use Rattle.history.proofs.Same

module _ {p : Plan} (made : Made p) {m : List ℕ} (begins : Begins p m) where
  -- ## All at once

  -- "each receiving job reads its messages in number order, each as its job sent it, and a gap only where that job sent nothing": whatever
  -- job k of queue q's receiver has read after the calls H are the first numbers of its window, in a row; and each reading is fair to all
  -- that is ever sent in a history K that begins with H: a message shows the bytes that were sent under its number, a gap's number is
  -- sent nowhere in K.
  pub each_job_reads : (H K : History) (q k : ℕ) (filler : List ℕ) → q < p.queues → length filler ≡ payload_bytes → H ⊑ K →
      ((rest : List ℕ) × (numbers (read_by p m filler H q k) ++ rest ≡ window_numbers (queue_at p q) k))
      × AllFair p q filler (SentIn p m K q) (read_by p m filler H q k)
  each_job_reads H K q k filler counted width r = (
    Reading.read_in_order (made_fits made).sound begins filler H q k counted,
    Same.all_fair (made_fits made) begins q counted filler width H K k r,
  )

  -- A message that was sent is read, as it was sent, by the job whose window it lies in, if that job reads to its end.
  pub sent_is_read : (H : History) (q k n : ℕ) (b filler : List ℕ) → length filler ≡ payload_bytes → ReadToEnd p m H q k →
      first (queue_at p q) k ≤ n → n ≤ last (queue_at p q) k → SentIn p m H q n b →
      Among (record { answer = Received.Message (message n) (slot (slot_for p q n)); shown = b }) (read_by p m filler H q k)
  sent_is_read = Same.sent_is_read (made_fits made) begins

  -- ## "each as its job sent it"

  -- A receive answered with message n: before it a send on this queue was accepted as message n, and its payload is what the view of
  -- the answer shows at that moment.
  pub message_as_sent : (H : History) (q t n : ℕ) (s : Slot) (filler : List ℕ) → length filler ≡ payload_bytes →
      receive_says p (world p m H) q t ≡ Received.Message (message n) s →
      SentIn p m H q n (view_of (Received.Message (message n) s) (world p m H).memory filler)
  message_as_sent = Reading.message_as_sent (made_fits made) begins

  -- Message n is its job's: whoever's send is accepted as message n is n's sender, and sends in the job that has the number n.
  pub sent_by_its_job : (H : History) (q i t n : ℕ) (b : List ℕ) (s : Slot) →
      send_says p (world p m H) q i t b ≡ stored_as (message n) s →
      Sender (queue_at p q) i × (number (queue_at p q) i (running_job (queue_at p q) i t) ≡ n)
      × (release_of (queue_at p q) i (running_job (queue_at p q) i t) ≤ t) × (t < deadline_of (queue_at p q) i (running_job (queue_at p q) i t))
  sent_by_its_job H = Reading.sent_by_its_job p (world p m H)

  -- Where a call is accepted as message n of queue q, no call before it was: a number is sent at most once,
  pub sent_once : (H : History) (c : Call) (q n : ℕ) (b d : List ℕ) → Sends p (world p m H) c q n b → ¬ SentIn p m H q n d
  sent_once = Reading.sent_once (made_fits made) begins

  -- and so it has one payload.
  pub sent_same : (H : History) (q n : ℕ) (b d : List ℕ) → SentIn p m H q n b → SentIn p m H q n d → b ≡ d
  sent_same = Reading.sent_same (made_fits made) begins

  -- ## "and a gap only where that job sent nothing"

  -- A receive answered with a gap at n: no send on this queue is accepted as message n, before it or ever after it.
  pub gap_never_sent : (H K : History) (q t n row : ℕ) → receive_says p (world p m H) q t ≡ Received.Gap (message n) row →
      (H then receive q t) ⊑ K → (b : List ℕ) → ¬ SentIn p m K q n b
  gap_never_sent = Reading.gap_never_sent (made_fits made) begins

  -- The row that it names is n's sender: the one that the way back answers, whose job has the number n.
  pub gap_names_sender : (H : History) (q t n row : ℕ) → receive_says p (world p m H) q t ≡ Received.Gap (message n) row →
      (row ≡ sender_of (queue_at p q) last_tick n) × Sender (queue_at p q) row
      × (number (queue_at p q) row (job_of (queue_at p q) last_tick n) ≡ n)
  gap_names_sender = Reading.gap_names_sender (made_fits made).sound begins

  -- The same of a history that is given as a list of calls.
  pub gap_never_sent_in_list : (before later : List Call) (q t n row : ℕ) →
      receive_says p (world p m (history before)) q t ≡ Received.Gap (message n) row →
      (b : List ℕ) → ¬ SentIn p m (history (before ++ receive q t ∷ later)) q n b
  gap_never_sent_in_list before later q t n row e b s =
      Reading.gap_never_sent (made_fits made) begins (history before) (go_on (history before) (receive q t ∷ later)) q t n row e
      (goes_on (history before then receive q t) later) b
      (subst (λ (H : History). SentIn p m H q n b) (go_on_append start before (receive q t ∷ later)) s)

  -- ## "in number order"

  -- What job k has read at any time is the first part of its window: its first number, the next one, and so on.
  pub read_in_order : (filler : List ℕ) (H : History) (q k : ℕ) → q < p.queues →
      (rest : List ℕ) × (numbers (read_by p m filler H q k) ++ rest ≡ window_numbers (queue_at p q) k)
  read_in_order = Reading.read_in_order (made_fits made).sound begins

  -- An accepted receive is answered empty exactly when the running job has read all of its window.
  pub empty_when_all_read : (filler : List ℕ) (H : History) (q t : ℕ) → receive_says p (world p m H) q t ≡ Received.Empty →
      numbers (read_by p m filler H q (receiving_job (queue_at p q) t)) ≡ window_numbers (queue_at p q) (receiving_job (queue_at p q) t)
  empty_when_all_read = Reading.empty_when_all_read (made_fits made).sound begins

  pub all_read_then_empty : (filler : List ℕ) (H : History) (q t : ℕ) → AcceptedCall p (world p m H) (receive q t) →
      numbers (read_by p m filler H q (receiving_job (queue_at p q) t)) ≡ window_numbers (queue_at p q) (receiving_job (queue_at p q) t) →
      receive_says p (world p m H) q t ≡ Received.Empty
  all_read_then_empty = Reading.all_read_then_empty (made_fits made).sound begins

  -- A number that a job is told lies in its window,
  pub told_in_window : (H : History) (q t n : ℕ) → Tells (receive_says p (world p m H) q t) n →
      (first (queue_at p q) (receiving_job (queue_at p q) t) ≤ n) × (n ≤ last (queue_at p q) (receiving_job (queue_at p q) t))
  told_in_window = Reading.told_in_window (made_fits made).sound begins

  -- that is, it is the number of a message with its deadline after the job's previous release and not after its own.
  pub told_by_deadline : (H : History) (q t n : ℕ) → Tells (receive_says p (world p m H) q t) n →
      (i k : ℕ) × Sender (queue_at p q) i × (number (queue_at p q) i k ≡ n)
      × ((receiving_job (queue_at p q) t - 1) * receiver_period (queue_at p q) < deadline_of (queue_at p q) i k)
      × (deadline_of (queue_at p q) i k ≤ receiving_job (queue_at p q) t * receiver_period (queue_at p q))
  told_by_deadline = Reading.told_by_deadline (made_fits made).sound begins

  -- Of two receives on a queue the later one is told the higher number, whichever jobs they are: no number comes twice.
  pub told_rising : (H K : History) (q t u n o : ℕ) → Tells (receive_says p (world p m H) q t) n → (H then receive q t) ⊑ K →
      Tells (receive_says p (world p m K) q u) o → n < o
  told_rising = Reading.told_rising (made_fits made).sound begins

  -- ## "Bytes behind the last slot stay as they were in every call."

  pub behind_stays : (H : History) → drop (slots_of p * slot_bytes) (world p m H).memory ≡ drop (slots_of p * slot_bytes) m
  behind_stays = Holds.behind_stays (made_fits made).sound begins

-- ## Refused calls, lookups and idle time make no difference

-- A call that is no accepted send or receive leaves state and memory as they were.
pub others_change_nothing : (p : Plan) (w : World) (c : Call) → ¬ AcceptedCall p w c → after p w c ≡ w
others_change_nothing = Steps.others_change_nothing

-- Two histories on one plan, on any memories, with the same messages sent on queue q, in whatever order and at whatever ticks, and with
-- whatever other calls between them: a job of q's receiver that read to its end in both has read the same, answer by answer and byte by byte.
pub same_readings : {p : Plan} (made : Made p) {m m' : List ℕ} → Begins p m → Begins p m' →
    (H K : History) (q k : ℕ) (filler : List ℕ) →
    length filler ≡ payload_bytes → ((n : ℕ) (b : List ℕ) → SentIn p m H q n b ↔ SentIn p m' K q n b) →
    ReadToEnd p m H q k → ReadToEnd p m' K q k → read_by p m filler H q k ≡ read_by p m' filler K q k
same_readings made = Same.same_readings (made_fits made)

-- ## "A queue's slot count is the least possible"

-- "with any smaller one (at least 1), places reckoned anew, some sequence of accepted sends and receives from a start reports a sent
-- message as a gap"
pub least : {p : Plan} (made : Made p) (q L : ℕ) → q < p.queues → 1 ≤ L → L < size_at p q → Lost (resized p q L) q
least = loses_one
