-- What every turn keeps of a desk: the plan that it runs is sound, so that a call on it need not test rule 7 again.
use Rattle.std.specs.Prelude.{◌≡◌, Ok, Err}
use Rattle.common.specs.Words.{ℕ, Bool, true, false, cond, List, refl, leb, ltb, length}
use Rattle.common.specs.Tests.{clash}
use Rattle.plan.specs.Limits.{task_limit, queue_limit}
use Rattle.plan.specs.Refusals.{clear}
use Rattle.plan.specs.Rules.{sound_plan}
use Rattle.planning.specs.AcceptedPlan.{accepted_made}
use Rattle.mailbox.specs.Calls.{start_answer}
use Rattle.digits.specs.Hex.{is_line, bytes_in}
use Rattle.frames.specs.Answers.{longest_answer}
use Rattle.frames.specs.Frames.{frame_of, payload_in}
use Rattle.console.specs.Types.{Plan, Verdict, State, Frame, Desk}
pub use Rattle.desk.specs.Desk.{SoundDesk}
use Rattle.desk.specs.Desk.{new_desk, square_of, planned, with_task, with_queue, with_run, with_state, Turn, silent, bad, row_turn, start_turn}
use Rattle.desk.specs.Desk.{plan_turn, go_turn, call_turn, table_turn, frame_turn, bytes_turn, line_turn}
use Rattle.console.specs.Step.{step_of}
use Rattle.calls.specs.CallLines.{is_call}

pub sound_new : SoundDesk new_desk
sound_new = record { sound = λ e. absurd (clash e refl) }

sound_run : (d : Desk) (p : Plan) (s : State) → sound_plan p ≡ true → SoundDesk (with_run d p s)
unfolding with_run
sound_run d p s h = record { sound = λ e. h }

sound_state : (d : Desk) (s : State) → SoundDesk d → SoundDesk (with_state d s)
unfolding with_state
sound_state d s k = record { sound = k.sound }

-- ## A turn

abbrev Keeps : Turn → Type 0
Keeps t = SoundDesk t.desk

keeps_if : (b : Bool) (s t : Turn) → Keeps s → Keeps t → Keeps (cond b s t)
keeps_if true s t g h = g
keeps_if false s t g h = h

keeps_row : (d : Desk) (m : List ℕ) (full : Bool) (more : Desk) → SoundDesk d → SoundDesk more → Keeps (row_turn d m full more)
unfolding row_turn
keeps_row d m full more k h =
    keeps_if d.running (bad d m) (cond full (bad d m) (silent more m)) k (keeps_if full (bad d m) (silent more m) k h)

keeps_start : (d : Desk) (p : Plan) (m : List ℕ) (s : Verdict) → sound_plan p ≡ true → Keeps (start_turn d p m s)
keeps_start d p m (Ok it) h = sound_run d p _ h
keeps_start d p m (Err r) h = sound_new

keeps_plan : (d : Desk) (p : Plan) (m : List ℕ) (a : Verdict) → (a ≡ clear → sound_plan p ≡ true) → Keeps (plan_turn d p m a)
keeps_plan d p m (Ok it) h = keeps_start d p m (start_answer p m) (h refl)
keeps_plan d p m (Err r) h = sound_new

-- an accepted planning makes a sound plan
planned_sound : (d : Desk) → (planned d).answer ≡ clear → sound_plan (planned d).plan ≡ true
unfolding planned
planned_sound d e = (accepted_made d.tasks d.queues d.period d.deadline d.priority d.receiver (square_of d.senders) e).sound

keeps_table : (d : Desk) (m : List ℕ) (f : Frame) → SoundDesk d → Keeps (table_turn d m f)
unfolding with_task with_queue go_turn
keeps_table d m (Frame.Task period deadline priority) k =
    keeps_row d m (leb task_limit d.tasks) (with_task d period deadline priority) k (record { sound = k.sound })
keeps_table d m (Frame.Queue receiver mask) k =
    keeps_row d m (leb queue_limit d.queues) (with_queue d receiver mask) k (record { sound = k.sound })
keeps_table d m Frame.Go k = keeps_if d.running (bad d m) _ k (keeps_plan d (planned d).plan m (planned d).answer (planned_sound d))
keeps_table d m (Frame.Send q i t) k = k
keeps_table d m (Frame.Receive q t) k = k
keeps_table d m Frame.Bad k = k

keeps_frame : (d : Desk) (m payload : List ℕ) (f : Frame) → SoundDesk d → Keeps (frame_turn d m payload f)
unfolding call_turn
keeps_frame d m payload f k = keeps_if (is_call f) (call_turn d m payload f) (table_turn d m f) (sound_state d _ k) (keeps_table d m f k)

pub line_keeps : (d : Desk) (m line : List ℕ) → SoundDesk d → SoundDesk (line_turn d m line).desk
unfolding line_turn bytes_turn
line_keeps d m line k =
    keeps_if (is_line line) (bytes_turn d m (bytes_in line)) (bad d m) (keeps_frame d m (payload_in (bytes_in line)) (frame_of (bytes_in line)) k) k

pub step_keeps : (d : Desk) (m line out : List ℕ) → SoundDesk d → SoundDesk (step_of d m line out).desk
unfolding step_of
step_keeps d m line out k = keeps_if (ltb (length out) longest_answer) (silent d m) (line_turn d m line) k (line_keeps d m line k)
