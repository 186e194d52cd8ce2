-- A session in which an 03 was accepted: the lines before it, the 03, and the lines since then, which are a history on the desk's plan.
use Rattle.std.specs.Prelude.{◌<◌, ◌∷◌, ◌++◌, ◌↔◌, ◌≡◌, Ok, Err}
use Rattle.common.specs.Words.{ℕ, arith, Bool, true, false, cond, List, [], map, inl, inr, refl, sym, ap, subst, ◌∙◌}
use Rattle.common.specs.Tests.{clash}
use Rattle.planning.specs.AcceptedPlan.{Made}
use Rattle.mailbox.specs.Calls.{start_answer}
use Rattle.desk.specs.Desk.{Turn, bad, planned, with_run, start_turn, plan_turn, go_turn, with_state, line_turn}
use Rattle.calls.specs.CallLines.{filler}
use Rattle.feed.specs.Answers as feed
use Rattle.history.specs.History.{World, History, Begins, world, history, go_on, Reading, number_told, numbers, Fair, as_sent, nothing_sent, SentIn}
use Rattle.history.specs.History.{AllFair, Among, ReadToEnd}
use Rattle.history.proofs.Answers.{Answered, ended, answered_so}
use Rattle.history.proofs.Theorems.{same_readings}
use Rattle.logs.specs.Types.{Plan, Verdict, Planned, Received, Frame, Desk}
use Rattle.logs.specs.Said.{frame_in, payload_of, code_in}
use Rattle.logs.proofs.Lines.{refusal_code}
use Rattle.logs.proofs.Frames.{turn_of, line_turn_lem}
use Rattle.logs.proofs.Turns.{Acts, sends, receives, idles, running_acts}
use Rattle.logs.specs.Log.{Log, log_of, written, opened, session_log, desk_after, calls_in, AcceptedIn, SameTable, StoredIn, lines_to, EndedIn}
use Rattle.logs.specs.Log.{RightLine, as_stored, nothing_stored, RightLines, AmongLines}
use Rattle.logs.specs.Session.{line_for, Runs, AsHistory, calls}
use Rattle.logs.proofs.Follows.{run_lines, SessionComes, never, started, session_comes}

pub has_started : (m : List ℕ) (lines : List (List ℕ)) → (desk_after m lines).running ≡ true → AsHistory m lines
has_started m lines on = go (session_comes m lines)
  where
    go : SessionComes m (opened m) [] lines → AsHistory m lines
    go (never off) = absurd (clash on off)
    go (started p before since line whole asked made begins r) =
        let e : p ≡ (desk_after m lines).plan = sym r.plan_is in
        record {
          before = before;
          go = line;
          since = since;
          whole = whole;
          asked = asked;
          made = subst Made e made;
          begins = subst (λ (x : Plan). Begins x m) e begins;
          runs = subst (λ (x : Plan). Runs x m (history (calls_in since)) (feed.console_after (opened m) lines) (session_log m lines)) e r;
        }

-- ## An 81

not_81 : {code : ℕ} → code ≡ 0x7f → code ≡ 0x81 → ⊥
not_81 e f = let z : ◌≡◌ {A = ℕ} 0x7f 0x81 = sym e ∙ f in omega arith

module _ (d : Desk) (m : List ℕ) where
  abbrev Says81 : Turn → Type 0
  Says81 t = code_in t.answer ≡ 0x81 → t.desk.running ≡ true

  start_81 : (p : Plan) (a : Verdict) → Says81 (start_turn d p m a)
  unfolding with_run
  start_81 p (Ok it) c = refl
  start_81 p (Err r) c = absurd (not_81 (refusal_code r) c)

  plan_81 : (p : Plan) (a : Verdict) → Says81 (plan_turn d p m a)
  plan_81 p (Ok it) c = start_81 p (start_answer p m) c
  plan_81 p (Err r) c = absurd (not_81 (refusal_code r) c)

  go_81 : Says81 (go_turn d m)
  unfolding go_turn
  go_81 = pick d.running refl
    where
      pick : (b : Bool) → d.running ≡ b → Says81 (cond b (bad d m) (plan_turn d (planned d).plan m (planned d).answer))
      pick true e c = e
      pick false e c = plan_81 (planned d).plan (planned d).answer c

  -- a desk that runs runs on
  acts_on : {payload : List ℕ} {f : Frame} {t : Turn} → d.running ≡ true → Acts d m payload f t → t.desk.running ≡ true
  unfolding with_state
  acts_on on sends = on
  acts_on on receives = on
  acts_on on (idles e) = on

runs_on : (w : feed.Console) (ls : List (List ℕ)) → w.desk.running ≡ true → (feed.console_after w ls).desk.running ≡ true
unfolding feed.console_after
runs_on w [] on = on
runs_on w (l ∷ ls) on =
    let d : Desk = w.desk in
    runs_on (feed.next w l) ls
    (rw (line_turn_lem d w.memory l) (acts_on d w.memory on (running_acts d w.memory (payload_of l) (frame_in l) on)))

-- an 03 that is answered 81 is accepted
pub accepted_runs : (w : feed.Console) (ls : List (List ℕ)) → AcceptedIn (log_of w ls) → (feed.console_after w ls).desk.running ≡ true
unfolding feed.console_after log_of
accepted_runs w [] a = absurd a
accepted_runs w (l ∷ ls) (inl a) =
    let d : Desk = w.desk in
    let e : line_turn d w.memory l ≡ go_turn d w.memory =
    line_turn_lem d w.memory l ∙ ap (λ (f : Frame). turn_of d w.memory (payload_of l) f) a.asked in
    runs_on (feed.next w l) ls (subst (Says81 d w.memory) (sym e) (go_81 d w.memory) a.told)
accepted_runs w (l ∷ ls) (inr a) = accepted_runs (feed.next w l) ls a

-- ## Logs of lines one after another

pub log_append : (w : feed.Console) (a b : List (List ℕ)) → log_of w (a ++ b) ≡ log_of w a ++ log_of (feed.console_after w a) b
unfolding log_of feed.console_after
log_append w [] b = refl
log_append w (l ∷ a) b = ap (λ (x : Log). record { line = l; answer = feed.reply w l } ∷ x) (log_append (feed.next w l) a b)

-- what the fold of feed writes is the log's answers
pub log_written : (w : feed.Console) (ls : List (List ℕ)) → feed.answers_to w ls ≡ written (log_of w ls)
unfolding log_of written feed.answers_to
log_written w [] = refl
log_written w (l ∷ ls) = ap (λ (x : List ℕ). feed.reply w l ++ x) (log_written (feed.next w l) ls)

-- a session that goes on
pub runs_later : (m : List ℕ) (lines later : List (List ℕ)) (s : AsHistory m lines) →
    Runs (desk_after m lines).plan m (go_on (calls s) (calls_in later)) (feed.console_after (feed.console_after (opened m) lines) later)
    (session_log m (lines ++ later))
runs_later m lines later s =
    subst
    (λ (x : Log). Runs (desk_after m lines).plan m (go_on (calls s) (calls_in later))
    (feed.console_after (feed.console_after (opened m) lines) later) x)
    (sym (log_append (opened m) lines later)) (run_lines s.runs later)

-- ## Readings and their lines

module _ (p : Plan) (q : ℕ) {S S' : ℕ → List ℕ → Type 0} (agree : (n : ℕ) (payload : List ℕ) → S' n payload ↔ S n payload) where
  right_line : {r : Reading} → Fair p q filler S r → RightLine p q S' (number_told r.answer) (line_for r)
  right_line (as_sent {n = n} {payload = payload} s) = as_stored ((agree n payload).1 s)
  right_line (nothing_sent {n = n} none) = nothing_stored (λ payload s. none payload ((agree n payload).0 s))

  pub right_lines : (rs : List Reading) → AllFair p q filler S rs → RightLines p q S' (numbers rs) (map line_for rs)
  right_lines [] f = tt
  right_lines (r ∷ rs) f = (right_line f.0, right_lines rs f.1)

pub among_lines : (r : Reading) (rs : List Reading) → Among r rs → AmongLines (line_for r) (map line_for rs)
among_lines r [] a = a
among_lines r (x ∷ rs) (inl e) = inl (ap line_for e)
among_lines r (x ∷ rs) (inr a) = inr (among_lines r rs a)

-- a queue that was read to its end is one of the plan's
pub end_queue : {p : Plan} {m : List ℕ} {H : History} {q k : ℕ} → ReadToEnd p m H q k → q < p.queues
end_queue {p} {m} {q = q} end = go (answered_so p (world p m end.before) q end.t Received.Empty end.answer)
  where
    go : {w : World} {t : ℕ} → Answered p w q t Received.Empty → q < p.queues
    go (ended can l) = can.queue

-- ## Two sessions

-- the same table gives the same plan
pub same_plan : {m m' : List ℕ} {lines lines' : List (List ℕ)} → AsHistory m lines → AsHistory m' lines' →
    SameTable (desk_after m lines) (desk_after m' lines') → (desk_after m' lines').plan ≡ (desk_after m lines).plan
unfolding planned
same_plan {m} {m'} {lines} {lines'} s s' same =
    let e : planned (desk_after m' lines') ≡ planned (desk_after m lines) = cc in
    s'.runs.planned_is ∙ ap (λ (x : Planned). x.plan) e ∙ sym s.runs.planned_is

pub same_runs : {p : Plan} → Made p → {m m' : List ℕ} → Begins p m → Begins p m' →
    {H K : History} {w w' : feed.Console} {log log' : Log} →
    Runs p m H w log → Runs p m' K w' log' → (q k : ℕ) →
    ((n : ℕ) (payload : List ℕ) → StoredIn log q n payload ↔ StoredIn log' q n payload) → EndedIn p q k log → EndedIn p q k log' →
    lines_to p q k log ≡ lines_to p q k log'
same_runs {p} made {m} {m'} begins begins' {H} {K} r r' q k agree end end' =
    r.told q k
    ∙ ap (map line_for) (same_readings made begins begins' H K q k filler refl sent (r.ended q k end) (r'.ended q k end'))
    ∙ sym (r'.told q k)
  where
    sent : (n : ℕ) (payload : List ℕ) → SentIn p m H q n payload ↔ SentIn p m' K q n payload
    sent n payload = (
      λ x. (r'.stored q n payload).0 ((agree n payload).0 ((r.stored q n payload).1 x)),
      λ x. (r.stored q n payload).0 ((agree n payload).1 ((r'.stored q n payload).1 x)),
    )
