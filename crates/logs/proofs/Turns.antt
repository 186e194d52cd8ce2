-- What a line does, by the desk that it finds: on a desk that runs it is a send, a receive or nothing; before that it starts the run or
-- changes no byte of memory.
use Rattle.std.specs.Prelude.{◌≡◌, Ok, Err}
use Rattle.common.specs.Words.{ℕ, Bool, true, false, cond, List, [], refl, sym, subst, leb}
use Rattle.plan.specs.Limits.{task_limit, queue_limit}
use Rattle.planning.specs.AcceptedPlan.{Made, accepted_made}
use Rattle.mailbox.specs.Calls.{fresh, start_answer, start_memory}
use Rattle.frames.specs.Answers.{sizes_bytes}
use Rattle.desk.specs.Desk.{Turn, silent, says, bad, row_turn, with_task, with_queue, square_of, planned, with_run, start_turn, plan_turn, go_turn}
use Rattle.logs.specs.Types.{Tick, Plan, Verdict, clear, Frame, Desk}
use Rattle.logs.specs.Said.{code_in}
use Rattle.logs.proofs.Lines.{bad_code}
use Rattle.logs.proofs.Frames.{sending, receiving, turn_of}
use Rattle.logs.specs.Log.{call_made}

-- ## On a desk that runs

pub data Acts (d : Desk) (m payload : List ℕ) : Frame → Turn → Type 0 where
  sends : {q i : ℕ} {t : Tick} → Acts d m payload (Frame.Send q i t) (sending d m q i t payload)
  receives : {q : ℕ} {t : Tick} → Acts d m payload (Frame.Receive q t) (receiving d m q t)
  idles : {f : Frame} → call_made payload f ≡ [] → Acts d m payload f (bad d m)

pub running_acts : (d : Desk) (m payload : List ℕ) (f : Frame) → d.running ≡ true → Acts d m payload f (turn_of d m payload f)
unfolding row_turn go_turn
running_acts d m payload (Frame.Task period deadline priority) e = rw e (idles refl)
running_acts d m payload (Frame.Queue receiver mask) e = rw e (idles refl)
running_acts d m payload Frame.Go e = rw e (idles refl)
running_acts d m payload (Frame.Send q i t) e = rw e sends
running_acts d m payload (Frame.Receive q t) e = rw e receives
running_acts d m payload Frame.Bad e = idles refl

-- ## Before that

-- a line that is no 04 or 05, or is answered with a refusal
abbrev pub Quiet : Frame → List ℕ → Type 0
Quiet (Frame.Send q i t) answer = code_in answer ≡ 0x7f
Quiet (Frame.Receive q t) answer = code_in answer ≡ 0x7f
Quiet (Frame.Task period deadline priority) answer = Unit {0}
Quiet (Frame.Queue receiver mask) answer = Unit {0}
Quiet Frame.Go answer = Unit {0}
Quiet Frame.Bad answer = Unit {0}

pub data Waits (d : Desk) (m : List ℕ) : Frame → Turn → Type 0 where
  starts : {p : Plan} → p ≡ (planned d).plan → Made p → start_answer p m ≡ clear →
      Waits d m Frame.Go (says (with_run d p fresh) (start_memory p m) (sizes_bytes p.size p.queues))
  waits : {f : Frame} {t : Turn} → t.desk.running ≡ false → t.memory ≡ m → Quiet f t.answer → Waits d m f t

module _ (d : Desk) (m : List ℕ) (e : d.running ≡ false) where
  -- the arm of a desk that does not run
  stopped : {f : Frame} (x y : Turn) → Waits d m f y → Waits d m f (cond d.running x y)
  stopped {f} x y h = subst (λ (b : Bool). Waits d m f (cond b x y)) (sym e) h

  row_waits : (f : Frame) (full : Bool) (more : Desk) → more.running ≡ false → ((answer : List ℕ) → Quiet f answer) →
      Waits d m f (row_turn d m full more)
  unfolding row_turn
  row_waits f full more g quiet = stopped (bad d m) _ (go full)
    where
      go : (b : Bool) → Waits d m f (cond b (bad d m) (silent more m))
      go true = waits e refl (quiet _)
      go false = waits g refl (quiet _)

  start_waits : (a : Verdict) → Made (planned d).plan → start_answer (planned d).plan m ≡ a →
      Waits d m Frame.Go (start_turn d (planned d).plan m a)
  start_waits (Ok it) made s = starts refl made s
  start_waits (Err r) made s = waits refl refl tt

  plan_waits : (a : Verdict) → (planned d).answer ≡ a → Waits d m Frame.Go (plan_turn d (planned d).plan m a)
  unfolding planned
  plan_waits (Ok it) a =
      start_waits (start_answer (planned d).plan m)
      (accepted_made d.tasks d.queues d.period d.deadline d.priority d.receiver (square_of d.senders) a) refl
  plan_waits (Err r) a = waits refl refl tt

  pub waiting : (payload : List ℕ) (f : Frame) → Waits d m f (turn_of d m payload f)
  unfolding with_task with_queue go_turn
  waiting payload (Frame.Task period deadline priority) =
      row_waits (Frame.Task period deadline priority) (leb task_limit d.tasks) (with_task d period deadline priority) e (λ answer. tt)
  waiting payload (Frame.Queue receiver mask) =
      row_waits (Frame.Queue receiver mask) (leb queue_limit d.queues) (with_queue d receiver mask) e (λ answer. tt)
  waiting payload Frame.Go = stopped (bad d m) _ (plan_waits (planned d).answer refl)
  waiting payload (Frame.Send q i t) = stopped _ (bad d m) (waits e refl bad_code)
  waiting payload (Frame.Receive q t) = stopped _ (bad d m) (waits e refl bad_code)
  waiting payload Frame.Bad = waits e refl tt
