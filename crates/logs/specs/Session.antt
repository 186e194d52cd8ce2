-- A session as a history: what it means that the lines since an accepted 03 are one, and that the log shows what its calls came to.
use Rattle.std.specs.Prelude.{◌∷◌, ◌++◌, ◌↔◌, ◌≡◌}
use Rattle.common.specs.Words.{ℕ, true, List, [], map}
use Rattle.planning.specs.AcceptedPlan.{Made}
use Rattle.frames.specs.Answers.{message_bytes, gap_bytes, line_of}
use Rattle.desk.specs.Desk.{planned}
use Rattle.calls.specs.CallLines.{filler}
use Rattle.feed.specs.Answers as feed
use Rattle.history.specs.History.{World, History, Begins, world, history, SentIn, Reading, read_by, ReadToEnd}
use Rattle.logs.specs.Types.{Plan, Received, Frame}
use Rattle.logs.specs.Said.{frame_in}
use Rattle.logs.specs.Log.{Log, opened, session_log, desk_after, calls_in, StoredIn, lines_to, EndedIn}

-- ## The line of a reading. An empty answer and a refusal are no readings.

abbrev pub reading_bytes : Received → List ℕ → List ℕ
reading_bytes (Received.Message n at) shown = message_bytes n.0 shown
reading_bytes (Received.Gap n row) shown = gap_bytes n.0 row
reading_bytes Received.Empty shown = []
reading_bytes (Received.Refused r) shown = []

abbrev pub line_for : Reading → List ℕ
line_for r = line_of (reading_bytes r.answer r.shown)

-- ## A run

-- of a console the state and the memory, which are a history's world
abbrev pub state_and_memory : feed.Console → World
state_and_memory w = record { state = w.desk.state; memory = w.memory }

-- plan p was started on memory m, the calls H were made since then, and the log shows what they came to
pub record Runs (p : Plan) (m : List ℕ) (H : History) (w : feed.Console) (log : Log) : Type 0 where
  pub on : w.desk.running ≡ true
  -- the plan is the one that was started, which is the one that the table's planning makes
  pub plan_is : w.desk.plan ≡ p
  pub planned_is : p ≡ (planned w.desk).plan
  -- state and memory are those that the calls leave
  pub world_is : state_and_memory w ≡ world p m H
  -- an 84 in the log is an accepted send, and the other way round
  pub stored : (q n : ℕ) (payload : List ℕ) → StoredIn log q n payload ↔ SentIn p m H q n payload
  -- a job's lines 85 and 86 are the lines of its readings
  pub told : (q k : ℕ) → lines_to p q k log ≡ map line_for (read_by p m filler H q k)
  -- an 87 is an end
  pub ended : (q k : ℕ) → EndedIn p q k log → ReadToEnd p m H q k

-- ## A session

-- "one accepted start and no start after it": the lines since the accepted 03 are the calls of a history
pub record AsHistory (m : List ℕ) (lines : List (List ℕ)) : Type 0 where
  pub before : List (List ℕ)
  pub go : List ℕ
  pub since : List (List ℕ)
  pub whole : lines ≡ before ++ (go ∷ since)
  pub asked : frame_in go ≡ Frame.Go
  pub made : Made (desk_after m lines).plan
  pub begins : Begins (desk_after m lines).plan m
  pub runs : Runs (desk_after m lines).plan m (history (calls_in since)) (feed.console_after (opened m) lines) (session_log m lines)

abbrev pub calls : {m : List ℕ} {lines : List (List ℕ)} → AsHistory m lines → History
calls s = history (calls_in s.since)
