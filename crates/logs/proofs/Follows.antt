-- A session follows a history: from the accepted 03 on, the desk, the memory and the log are those of the calls that the lines make.
use Rattle.std.specs.Prelude.{◌∷◌, ◌++◌, ◌⊎◌, ◌↔◌, ◌≡◌}
use Rattle.common.specs.Words.{ℕ, arith, true, false, List, [], append_assoc, append-nil, map, inl, inr, refl, sym, ap, subst, ◌∙◌}
use Rattle.plan.specs.Plan.{queue_at}
use Rattle.planning.specs.AcceptedPlan.{Made}
use Rattle.mailbox.specs.Calls.{fresh, start_answer, start_memory, send_answer, send_state, send_memory, look, receive_state, receiving_job}
use Rattle.frames.specs.Answers.{sizes_bytes, bad_bytes, line_of}
use Rattle.desk.specs.Desk.{Turn, says, planned, with_run, with_state, line_turn}
use Rattle.calls.specs.CallLines.{sent_bytes, filler, received_bytes}
use Rattle.feed.specs.Answers as feed
use Rattle.history.specs.History.{Call, send, receive, World, History, start, ◌then◌, same, more, Begins, after, world, send_says, receive_says}
use Rattle.history.specs.History.{go_on, history, SentIn, Sends, reads, read_by, ReadToEnd}
use Rattle.history.proofs.Lists.{go_on_append}
use Rattle.logs.specs.Types.{Tick, Plan, clear, Received, Frame, Desk}
use Rattle.logs.specs.Said.{frame_in, payload_of}
use Rattle.logs.specs.Log.{Entry, Log, log_of, opened, call_made, calls_in, Stores, StoredIn, lines_to, Ends, EndedIn}
use Rattle.logs.specs.Session.{line_for, state_and_memory, Runs}
use Rattle.logs.proofs.Frames.{sending, receiving, line_turn_lem}
use Rattle.logs.proofs.Turns.{Acts, sends, receives, idles, running_acts, Quiet, Waits, starts, waits, waiting}
use Rattle.logs.proofs.Entries.{stored_append, ended_append, lines_append, quiet_stores, quiet_ends, quiet_lines, sent_stores, sent_ends, sent_lines}
use Rattle.logs.proofs.Entries.{received_stores, received_empty, received_lines}

-- ## One line more

abbrev next_by : Turn → feed.Console
next_by t = record { desk = t.desk; memory = t.memory }

abbrev entry_by : List ℕ → Turn → Entry
entry_by line t = record { line = line; answer = t.answer }

map_append : {A B : Type 0} (f : A → B) (xs ys : List A) → map f (xs ++ ys) ≡ map f xs ++ map f ys
map_append f [] ys = refl
map_append f (x ∷ xs) ys = rw (map_append f xs ys)

-- a log of one line more, and a history of one call more
grow : {A B C D E : Type 0} → A ↔ (B ⊎ (C ⊎ ⊥)) → B ↔ D → C ↔ E → A ↔ (D ⊎ E)
grow {A} {B} {C} {D} {E} e f g = (λ a. to (e.0 a), λ x. e.1 (from x))
  where
    to : B ⊎ (C ⊎ ⊥) → D ⊎ E
    to (inl b) = inl (f.0 b)
    to (inr (inl c)) = inr (g.0 c)
    to (inr (inr x)) = absurd x

    from : D ⊎ E → B ⊎ (C ⊎ ⊥)
    from (inl d) = inl (f.1 d)
    from (inr x) = inr (inl (g.1 x))

module _ {p : Plan} {m : List ℕ} {H : History} {w : feed.Console} {log : Log} (r : Runs p m H w log) (line : List ℕ) where
  abbrev d : Desk
  d = w.desk

  abbrev payload : List ℕ
  payload = payload_of line

  abbrev Goal : Frame → Turn → Type 0
  Goal f t = Runs p m (go_on H (call_made payload f)) (next_by t) (log ++ (entry_by line t ∷ []))

  still_ended : {c : Call} {q k : ℕ} → ReadToEnd p m H q k → ReadToEnd p m (H then c) q k
  still_ended e = record { before = e.before; t = e.t; within = more e.within; job = e.job; answer = e.answer }

  end_at : {q s t u k : ℕ} → q ≡ s → t ≡ u → receive_says p (world p m H) q t ≡ Received.Empty →
      receiving_job (queue_at p s) u ≡ k →
      ReadToEnd p m (H then receive q t) s k
  end_at {q} {s} {t} {u} {k} e f a j =
      subst (λ (x : ℕ). ReadToEnd p m (H then receive x t) s k) (sym e)
      (subst (λ (x : ℕ). ReadToEnd p m (H then receive s x) s k) (sym f)
      (record { before = H; t = u; within = same; job = j; answer = rw (← e, ← f) a }))

  -- a call's line
  module _ (c : Call) (t : Turn) (running : t.desk.running ≡ true) (plan : t.desk.plan ≡ p) (table : p ≡ (planned t.desk).plan)
      (now : state_and_memory (next_by t) ≡ after p (world p m H) c)
      (stores : (q n : ℕ) (b : List ℕ) → Stores q n b (entry_by line t) ↔ Sends p (world p m H) c q n b)
      (tells : (q k : ℕ) → lines_to p q k (entry_by line t ∷ []) ≡ map line_for (reads p filler (world p m H) c q k))
      (ends : (q k : ℕ) → Ends p q k (entry_by line t) → ReadToEnd p m (H then c) q k) where
    call_runs : Runs p m (H then c) (next_by t) (log ++ (entry_by line t ∷ []))
    call_runs = record {
      on = running;
      plan_is = plan;
      planned_is = table;
      world_is = now;
      stored = λ q n b. grow (stored_append log (entry_by line t ∷ []) q n b) (r.stored q n b) (stores q n b);
      told = λ q k.
          lines_append p q k log (entry_by line t ∷ []) ∙ rw (r.told q k, tells q k)
          (sym (map_append line_for (read_by p m filler H q k) (reads p filler (world p m H) c q k)));
      ended = λ q k s. go q k (ended_append p q k log (entry_by line t ∷ []) s);
    }
      where
        go : (q k : ℕ) → EndedIn p q k log ⊎ EndedIn p q k (entry_by line t ∷ []) → ReadToEnd p m (H then c) q k
        go q k (inl s) = still_ended (r.ended q k s)
        go q k (inr (inl s)) = ends q k s
        go q k (inr (inr x)) = absurd x

  -- a line that makes no call
  idle_quiet : (f : Frame) → call_made payload f ≡ [] → (answer : List ℕ) → Quiet f answer
  idle_quiet (Frame.Send q i t) e answer = absurd (let z : ◌≡◌ {A = ℕ} 0 1 = cc in omega arith)
  idle_quiet (Frame.Receive q t) e answer = absurd (let z : ◌≡◌ {A = ℕ} 0 1 = cc in omega arith)
  idle_quiet (Frame.Task period deadline priority) e answer = tt
  idle_quiet (Frame.Queue receiver mask) e answer = tt
  idle_quiet Frame.Go e answer = tt
  idle_quiet Frame.Bad e answer = tt

  idle_runs : (answer : List ℕ) → Quiet (frame_in line) answer → Runs p m H w (log ++ (record { line = line; answer = answer } ∷ []))
  idle_runs answer quiet = record {
    on = r.on;
    plan_is = r.plan_is;
    planned_is = r.planned_is;
    world_is = r.world_is;
    stored = λ q n b. (
      λ s. from q n b ((stored_append log (e ∷ []) q n b).0 s),
      λ s. (stored_append log (e ∷ []) q n b).1 (inl ((r.stored q n b).1 s)),
    );
    told = λ q k. lines_append p q k log (e ∷ []) ∙ rw (quiet_lines e quiet p q k) (append-nil (lines_to p q k log) ∙ r.told q k);
    ended = λ q k s. go q k (ended_append p q k log (e ∷ []) s);
  }
    where
      e : Entry
      e = record { line = line; answer = answer }

      from : (q n : ℕ) (b : List ℕ) → StoredIn log q n b ⊎ StoredIn (e ∷ []) q n b → SentIn p m H q n b
      from q n b (inl s) = (r.stored q n b).0 s
      from q n b (inr (inl s)) = absurd (quiet_stores e quiet q n b s)
      from q n b (inr (inr x)) = absurd x

      go : (q k : ℕ) → EndedIn p q k log ⊎ EndedIn p q k (e ∷ []) → ReadToEnd p m H q k
      go q k (inl s) = r.ended q k s
      go q k (inr (inl s)) = absurd (quiet_ends e quiet p q k s)
      go q k (inr (inr x)) = absurd x

  -- a 04
  module _ (q i : ℕ) (t : Tick) (asked : frame_in line ≡ Frame.Send q i t) where
    abbrev sending_turn : Turn
    sending_turn = sending d w.memory q i t payload

    abbrev send_call : Call
    send_call = send q i t.0 payload

    sent_now : state_and_memory (next_by sending_turn) ≡ after p (world p m H) send_call
    unfolding with_state after
    sent_now =
        subst
        (λ (x : Plan).
        ◌≡◌ {A = World}
        (record { state = send_state d.state x w.memory q i t.0 payload; memory = send_memory d.state x w.memory q i t.0 payload })
        (after p (world p m H) send_call))
        (sym r.plan_is) (ap (λ (x : World). after p x send_call) r.world_is)

    sent_answer : sending_turn.answer ≡ line_of (sent_bytes (send_says p (world p m H) q i t.0 payload))
    sent_answer =
        ap (λ (x : Plan). line_of (sent_bytes (send_answer d.state x w.memory q i t.0 payload))) r.plan_is
        ∙ ap (λ (x : World). line_of (sent_bytes (send_says p x q i t.0 payload))) r.world_is

    send_runs : Goal (Frame.Send q i t) sending_turn
    unfolding with_state planned
    send_runs =
        let e : Entry = entry_by line sending_turn in
        call_runs send_call sending_turn r.on r.plan_is r.planned_is sent_now (sent_stores p (world p m H) e q i t asked sent_answer)
        (sent_lines p (world p m H) e q i t asked sent_answer)
        (λ s k x. absurd (sent_ends p (world p m H) e q i t asked sent_answer s k x))

  -- a 05
  module _ (q : ℕ) (t : Tick) (asked : frame_in line ≡ Frame.Receive q t) where
    abbrev receiving_turn : Turn
    receiving_turn = receiving d w.memory q t

    abbrev receive_call : Call
    receive_call = receive q t.0

    received_now : state_and_memory (next_by receiving_turn) ≡ after p (world p m H) receive_call
    unfolding with_state after
    received_now =
        subst
        (λ (x : Plan).
        ◌≡◌ {A = World} (record { state = receive_state d.state x w.memory q t.0; memory = w.memory }) (after p (world p m H) receive_call))
        (sym r.plan_is) (ap (λ (x : World). after p x receive_call) r.world_is)

    received_answer : receiving_turn.answer ≡ line_of (received_bytes (world p m H).memory (receive_says p (world p m H) q t.0))
    received_answer =
        ap (λ (x : Plan). line_of (received_bytes w.memory (look d.state x w.memory q t.0))) r.plan_is
        ∙ ap (λ (x : World). line_of (received_bytes x.memory (receive_says p x q t.0))) r.world_is

    receive_runs : Goal (Frame.Receive q t) receiving_turn
    unfolding with_state planned
    receive_runs =
        let e : Entry = entry_by line receiving_turn in
        call_runs receive_call receiving_turn r.on r.plan_is r.planned_is received_now
        (λ s n b. (λ x. absurd (received_stores p (world p m H) e q t asked received_answer s n b x), λ x. elim x [ ]))
        (received_lines p (world p m H) e q t asked received_answer)
        (λ s k x.
        let queue : q ≡ s = cc in
        let at : t ≡ x.tick = cc in
        end_at queue (ap (λ (y : Tick). y.0) at) (received_empty p (world p m H) e q t asked received_answer x.told) x.job)

  acts : {f : Frame} {t : Turn} → frame_in line ≡ f → Acts d w.memory payload f t → Goal f t
  acts asked (sends {q = q} {i = i} {t = t}) = send_runs q i t asked
  acts asked (receives {q = q} {t = t}) = receive_runs q t asked
  acts {f} asked (idles e) =
      let answer : List ℕ = line_of bad_bytes in
      subst (λ (cs : List Call). Runs p m (go_on H cs) w (log ++ (record { line = line; answer = answer } ∷ []))) (sym e)
      (idle_runs answer (subst (λ (g : Frame). Quiet g answer) (sym asked) (idle_quiet f e answer)))

  pub run_line : Runs p m (go_on H (call_made payload (frame_in line))) (feed.next w line)
      (log ++ (record { line = line; answer = feed.reply w line } ∷ []))
  run_line =
      subst (Goal (frame_in line)) (sym (line_turn_lem d w.memory line)) (acts refl (running_acts d w.memory payload (frame_in line) r.on))

-- ## Lines one after another

pub run_lines : {p : Plan} {m : List ℕ} {H : History} {w : feed.Console} {log : Log} → Runs p m H w log → (ls : List (List ℕ)) →
    Runs p m (go_on H (calls_in ls)) (feed.console_after w ls) (log ++ log_of w ls)
unfolding feed.console_after log_of
run_lines {p} {m} {H} {w} {log} r [] = subst (λ (x : Log). Runs p m H w x) (sym (append-nil log)) r
run_lines {p} {m} {H} {w} {log} r (l ∷ ls) =
    let e : Entry = record { line = l; answer = feed.reply w l } in
    let calls : List Call = call_made (payload_of l) (frame_in l) in
    subst (λ (x : Log). Runs p m (go_on H (calls ++ calls_in ls)) (feed.console_after (feed.next w l) ls) x)
    (append_assoc log (e ∷ []) (log_of (feed.next w l) ls))
    (subst (λ (K : History). Runs p m K (feed.console_after (feed.next w l) ls) ((log ++ (e ∷ [])) ++ log_of (feed.next w l) ls))
    (sym (go_on_append H calls (calls_in ls)))
    (run_lines {p = p} {m = m} {H = go_on H calls} {w = feed.next w l} {log = log ++ (e ∷ [])} (run_line r l) ls))

-- ## Before the accepted 03

-- a log that shows nothing of a run
record Silent (log : Log) : Type 0 where
  no_store : (q n : ℕ) (payload : List ℕ) → StoredIn log q n payload → ⊥
  no_line : (p : Plan) (q k : ℕ) → lines_to p q k log ≡ []
  no_end : (p : Plan) (q k : ℕ) → EndedIn p q k log → ⊥

silent_none : Silent []
unfolding lines_to
silent_none = record { no_store = λ q n payload s. s; no_line = λ p q k. refl; no_end = λ p q k s. s }

silent_more : {log : Log} → Silent log → (e : Entry) → Quiet (frame_in e.line) e.answer → Silent (log ++ (e ∷ []))
silent_more {log} h e quiet = record {
  no_store = λ q n payload s. store q n payload ((stored_append log (e ∷ []) q n payload).0 s);
  no_line = λ p q k. lines_append p q k log (e ∷ []) ∙ rw (h.no_line p q k) (quiet_lines e quiet p q k);
  no_end = λ p q k s. end p q k (ended_append p q k log (e ∷ []) s);
}
  where
    store : (q n : ℕ) (payload : List ℕ) → StoredIn log q n payload ⊎ StoredIn (e ∷ []) q n payload → ⊥
    store q n payload (inl s) = h.no_store q n payload s
    store q n payload (inr (inl s)) = quiet_stores e quiet q n payload s
    store q n payload (inr (inr x)) = x

    end : (p : Plan) (q k : ℕ) → EndedIn p q k log ⊎ EndedIn p q k (e ∷ []) → ⊥
    end p q k (inl s) = h.no_end p q k s
    end p q k (inr (inl s)) = quiet_ends e quiet p q k s
    end p q k (inr (inr x)) = x

-- Lines from a desk that does not run: it never runs, or one of them is the accepted 03, and the rest are a history.
pub data SessionComes (m : List ℕ) (w : feed.Console) (log : Log) (ls : List (List ℕ)) : Type 0 where
  never : (feed.console_after w ls).desk.running ≡ false → SessionComes m w log ls
  started : (p : Plan) (before since : List (List ℕ)) (go : List ℕ) → ls ≡ before ++ (go ∷ since) →
      frame_in go ≡ Frame.Go → Made p → Begins p m →
      Runs p m (history (calls_in since)) (feed.console_after w ls) (log ++ log_of w ls) → SessionComes m w log ls

module _ (m : List ℕ) where
  -- the run begins with this line
  start_runs : {p : Plan} {log : Log} (d : Desk) (e : Entry) → p ≡ (planned d).plan → Silent log → Quiet (frame_in e.line) e.answer →
      Runs p m start (record { desk = with_run d p fresh; memory = start_memory p m }) (log ++ (e ∷ []))
  unfolding with_run planned
  start_runs {p} {log} d e table h quiet =
      let s : Silent (log ++ (e ∷ [])) = silent_more h e quiet in
      record {
        on = refl;
        plan_is = refl;
        planned_is = table;
        world_is = refl;
        stored = λ q n payload. (λ x. s.no_store q n payload x, λ x. absurd x);
        told = λ q k. s.no_line p q k;
        ended = λ q k x. absurd (s.no_end p q k x);
      }

  -- a line in front
  first : (w : feed.Console) (log : Log) (l : List ℕ) (ls : List (List ℕ)) →
      SessionComes m (feed.next w l) (log ++ (record { line = l; answer = feed.reply w l } ∷ [])) ls → SessionComes m w log (l ∷ ls)
  unfolding feed.console_after log_of
  first w log l ls (never h) = never h
  first w log l ls (started p before since go e asked made begins r) =
      started p (l ∷ before) since go (ap (λ (x : List (List ℕ)). l ∷ x) e) asked made begins
      (subst (λ (x : Log). Runs p m (history (calls_in since)) (feed.console_after (feed.next w l) ls) x)
      (append_assoc log (record { line = l; answer = feed.reply w l } ∷ []) (log_of (feed.next w l) ls)) r)

  -- the line that starts, and lines after it
  begun : {p : Plan} (w : feed.Console) (log : Log) (l : List ℕ) (ls : List (List ℕ)) → frame_in l ≡ Frame.Go → Made p → Begins p m →
      Runs p m start (feed.next w l) (log ++ (record { line = l; answer = feed.reply w l } ∷ [])) → SessionComes m w log (l ∷ ls)
  unfolding feed.console_after log_of
  begun {p} w log l ls asked made begins r =
      started p [] ls l refl asked made begins
      (subst (λ (x : Log). Runs p m (history (calls_in ls)) (feed.console_after (feed.next w l) ls) x)
      (append_assoc log (record { line = l; answer = feed.reply w l } ∷ []) (log_of (feed.next w l) ls)) (run_lines r ls))

  module _ (w : feed.Console) (log : Log) (l : List ℕ) (ls : List (List ℕ)) (lent : w.memory ≡ m) (silent : Silent log) where
    by_turn : {f : Frame} {t : Turn} → frame_in l ≡ f → line_turn w.desk w.memory l ≡ t → Waits w.desk w.memory f t →
        ((v : feed.Console) (log' : Log) → v.desk.running ≡ false → v.memory ≡ m → Silent log' → SessionComes m v log' ls) →
        SessionComes m w log (l ∷ ls)
    by_turn {f} {t} asked e (waits off here quiet) rest =
        first w log l ls
        (subst (λ (x : Turn). SessionComes m (next_by x) (log ++ (entry_by l x ∷ [])) ls) (sym e)
        (rest (next_by t) (log ++ (entry_by l t ∷ [])) off (here ∙ lent)
        (silent_more silent (entry_by l t) (subst (λ (g : Frame). Quiet g t.answer) (sym asked) quiet))))
    by_turn asked e (starts {p = p} table made ready) rest =
        begun w log l ls asked made (record { ready = subst (λ (x : List ℕ). start_answer p x ≡ clear) lent ready })
        (subst (λ (x : Turn). Runs p m start (next_by x) (log ++ (entry_by l x ∷ []))) (sym e)
        (subst
        (λ (x : List ℕ).
        Runs p m start (record { desk = with_run w.desk p fresh; memory = start_memory p x }) (log ++ (entry_by l (opening p) ∷ [])))
        (sym lent) (start_runs w.desk (entry_by l (opening p)) table silent (subst (λ (g : Frame). Quiet g (opening p).answer) (sym asked) tt))))
      where
        opening : Plan → Turn
        opening p = says (with_run w.desk p fresh) (start_memory p w.memory) (sizes_bytes p.size p.queues)

  comes : (w : feed.Console) (log : Log) (ls : List (List ℕ)) → w.desk.running ≡ false → w.memory ≡ m → Silent log →
      SessionComes m w log ls
  unfolding feed.console_after
  comes w log [] off lent silent = never off
  comes w log (l ∷ ls) off lent silent =
      by_turn w log l ls lent silent refl (line_turn_lem w.desk w.memory l) (waiting w.desk w.memory off (payload_of l) (frame_in l))
      (λ v log' a b c. comes v log' ls a b c)

  -- a session of the program
  pub session_comes : (ls : List (List ℕ)) → SessionComes m (opened m) [] ls
  session_comes ls = comes (opened m) [] ls refl refl silent_none
