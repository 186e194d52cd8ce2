-- WHAT A SAVED LOG TELLS. A session of the program is any list of lines, from a new desk and memory with any bytes in it; its log is each line
-- with its answer. These are demand 3's sentences, said of the lines themselves: nothing stands in them but the log's digits and the plan
-- of the table that was accepted. All definitions stand in Log, Said and Session.
--
-- How to read it. `AcceptedIn log`: an 03 was answered 81. `lines_to p q k log`: the lines 85 and 86 of queue q that job k of its receiver
-- got, in the order of the log. `StoredIn log q n payload`: a line 04 on queue q with this payload was answered 84 with number n.
-- `EndedIn p q k log`: a line 05 of job k was answered 87. `window_numbers`: the numbers of a job's window, from its first on. `RightLines`:
-- one by one, the line is the one that the number ought to get, by what was stored.
use Rattle.std.specs.Prelude.{◌≤◌, ◌<◌, ◌∷◌, ◌++◌, ◌↔◌, ◌≡◌}
use Rattle.common.specs.Words.{ℕ, List, [], refl, sym, ap, subst, ◌∙◌, drop}
use Rattle.model.specs.Model.{first, last}
use Rattle.plan.specs.Plan.{queue_at}
use Rattle.digits.specs.Hex.{digits}
use Rattle.digits.specs.Numbers.{in_bytes}
use Rattle.frames.specs.Answers.{message_bytes, line_of}
use Rattle.calls.specs.CallLines.{filler}
use Rattle.lines.specs.Lines.{line_feed, ended}
use Rattle.lines.specs.Whole.{lines_of}
use Rattle.feed.specs.Answers.{console_after, answers_to}
use Rattle.feed.specs.Feed.{Feeding}
use Rattle.feed.specs.Session.{Answered, session}
use Rattle.history.specs.History.{History, Begins, go_on, read_by, numbers, window_numbers, ReadToEnd}
use Rattle.history.proofs.Lists.{goes_on}
use Rattle.history.proofs.Made.{made_fits}
use Rattle.history.proofs.Same.{read_to_end}
use Rattle.history.proofs.Theorems as history
use Rattle.logs.specs.Types.{Plan}
use Rattle.logs.specs.Log.{Entry, Log, written, opened, session_log, desk_after, calls_in, AcceptedIn, Stores, StoredIn, lines_to, SameTable, EndedIn}
use Rattle.logs.specs.Log.{RightLines, AmongLines}
use Rattle.logs.proofs.Verbatim.{message_verbatim}
use Rattle.logs.specs.Session.{Runs, AsHistory, calls}
use Rattle.logs.proofs.Started.{has_started, accepted_runs, log_written, runs_later, right_lines, among_lines, end_queue, same_plan, same_runs}

-- What the program writes of a text, in whatever blocks the text came and with or without a line feed at its end, is the log's answers.
pub output_is_the_log : (m text : List ℕ) (f : Feeding) → Answered (opened m) [] text f →
    f.answers ++ answers_to f.console (ended f.carry) ≡ written (session_log m (lines_of text))
output_is_the_log m text f a = session (opened m) text f a ∙ log_written (opened m) (lines_of text)

-- The right 85 for a message is 85, its number in 6 bytes, and then the very digits that stood behind the tick in the 04 that stored it.
pub message_is_verbatim : (q n : ℕ) (payload : List ℕ) (e : Entry) → Stores q n payload e →
    line_of (message_bytes n payload) ≡ digits (in_bytes 1 0x85 ++ in_bytes 6 n) ++ (drop 16 e.line ++ (line_feed ∷ []))
message_is_verbatim = message_verbatim

module _ (m : List ℕ) (lines : List (List ℕ)) (accepted : AcceptedIn (session_log m lines)) where
  abbrev p : Plan
  p = (desk_after m lines).plan

  abbrev log : Log
  log = session_log m lines

  -- The lines since the accepted 03 are a history, in history's sense, on a plan that was made and with one accepted start.
  pub lines_are_a_history : AsHistory m lines
  lines_are_a_history = has_started m lines (accepted_runs (opened m) lines accepted)

  -- the lines of a job are right for the numbers that it has read
  right_so_far : (later : List (List ℕ)) (q k : ℕ) → q < p.queues →
      RightLines p q (StoredIn (session_log m (lines ++ later)) q) (numbers (read_by p m filler (calls lines_are_a_history) q k)) (lines_to p q k log)
  right_so_far later q k counted =
      let s : AsHistory m lines = lines_are_a_history in
      let H : History = calls s in
      let K : History = go_on H (calls_in later) in
      let reads = history.each_job_reads s.made s.begins H K q k filler counted refl (goes_on H (calls_in later)) in
      subst (RightLines p q (StoredIn (session_log m (lines ++ later)) q) (numbers (read_by p m filler H q k))) (sym (s.runs.told q k))
      (right_lines p q ((runs_later m lines later s).stored q) (read_by p m filler H q k) reads.1)

  -- "The 85 and 86 lines of a queue that one job got, in order, are the readings": they are the right lines for the first numbers of the job's
  -- window, in a row. Where a 04 was answered 84 with the number, it is the 85 with the number and that 04's payload. Otherwise it is the 86
  -- with the number and its sender's row, and no later 04 is answered with that number.
  pub each_job_is_told : (later : List (List ℕ)) (q k : ℕ) → q < p.queues →
      (told rest : List ℕ) × (told ++ rest ≡ window_numbers (queue_at p q) k)
      × RightLines p q (StoredIn (session_log m (lines ++ later)) q) told (lines_to p q k log)
  each_job_is_told later q k counted =
      let s : AsHistory m lines = lines_are_a_history in
      let order = history.read_in_order s.made s.begins filler (calls s) q k counted in
      (numbers (read_by p m filler (calls s) q k), order.0, order.1, right_so_far later q k counted)

  -- A job that was answered 87 has got the right line for every number of its window, in order, and no line more.
  pub whole_window_told : (later : List (List ℕ)) (q k : ℕ) → EndedIn p q k log →
      RightLines p q (StoredIn (session_log m (lines ++ later)) q) (window_numbers (queue_at p q) k) (lines_to p q k log)
  whole_window_told later q k end =
      let s : AsHistory m lines = lines_are_a_history in
      let ends : ReadToEnd p m (calls s) q k = s.runs.ended q k end in
      let counted : q < p.queues = end_queue ends in
      subst (λ (ns : List ℕ). RightLines p q (StoredIn (session_log m (lines ++ later)) q) ns (lines_to p q k log))
      (read_to_end (made_fits s.made) s.begins q counted filler refl (calls s) k ends) (right_so_far later q k counted)

  -- A reading whose 04 was answered 84 stands in the log of the job whose window has its number, once that job was answered 87.
  pub stored_is_told : (q k n : ℕ) (payload : List ℕ) → StoredIn log q n payload → EndedIn p q k log →
      first (queue_at p q) k ≤ n → n ≤ last (queue_at p q) k → AmongLines (line_of (message_bytes n payload)) (lines_to p q k log)
  stored_is_told q k n payload stored end low high =
      let s : AsHistory m lines = lines_are_a_history in
      subst (AmongLines (line_of (message_bytes n payload))) (sym (s.runs.told q k))
      (among_lines _ (read_by p m filler (calls s) q k)
      (history.sent_is_read s.made s.begins (calls s) q k n payload filler refl (s.runs.ended q k end) low high
      ((s.runs.stored q n payload).0 stored)))

-- Two sessions with the same table, in which the same was stored on queue q, in whatever order and at whatever ticks, and with whatever other
-- lines between: a job of q's receiver that was answered 87 in both got the same 85 and 86 lines, digit by digit.
pub same_lines : (m m' : List ℕ) (lines lines' : List (List ℕ)) →
    AcceptedIn (session_log m lines) → AcceptedIn (session_log m' lines') →
    SameTable (desk_after m lines) (desk_after m' lines') → (q k : ℕ) →
    ((n : ℕ) (payload : List ℕ) → StoredIn (session_log m lines) q n payload ↔ StoredIn (session_log m' lines') q n payload) →
    EndedIn (desk_after m lines).plan q k (session_log m lines) → EndedIn (desk_after m' lines').plan q k (session_log m' lines') →
    lines_to (desk_after m lines).plan q k (session_log m lines) ≡ lines_to (desk_after m' lines').plan q k (session_log m' lines')
same_lines m m' lines lines' accepted accepted' table q k agree end end' =
    let s : AsHistory m lines = lines_are_a_history m lines accepted in
    let s' : AsHistory m' lines' = lines_are_a_history m' lines' accepted' in
    let e : (desk_after m' lines').plan ≡ (desk_after m lines).plan = same_plan s s' table in
    same_runs s.made s.begins (subst (λ (x : Plan). Begins x m') e s'.begins) s.runs
    (subst (λ (x : Plan). Runs x m' (calls s') (console_after (opened m') lines') (session_log m' lines')) e s'.runs) q k agree end
    (subst (λ (x : Plan). EndedIn x q k (session_log m' lines')) e end')
    ∙ ap (λ (x : Plan). lines_to x q k (session_log m' lines')) (sym e)
