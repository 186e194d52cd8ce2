-- Frame 03 as the code takes it: planning decides, and then the start; and what a started plan allows.
use Rattle.std.specs.Prelude.{◌≤◌, ◌≡◌, Err}
use Rattle.common.specs.Words.{ℕ, true, false, List, sym, ap, ◌∙◌, not-false}
use Rattle.plan.specs.Limits.{queue_limit}
use Rattle.plan.specs.Rules.{sound_plan}
use Rattle.plan.specs.Sound.{sound_iff}
use Rattle.plan.specs.Verdicts.{clear, stopped_refused, verdict_stopped, clear_passed}
use Rattle.mailbox.specs.Calls.{fresh, start_lines, start_answer, start_memory, StartGives}
use Rattle.frames.specs.Answers.{sizes_bytes}
use Rattle.frames.specs.Writing.{Written}
use Rattle.desk.specs.Types.{Plan, Refusal, Planned, Starting, Desk}
use Rattle.desk.specs.Desk.{bad, refused_go, planned, with_run, start_turn, go_turn, plan_turn, Takes}
use Rattle.desk.specs.Turns.{when_true, when_false, written}

-- a plan that is started counts no queue beyond the limit
pub started_queues : (p : Plan) (m : List ℕ) → start_answer p m ≡ clear → p.queues ≤ queue_limit
unfolding start_answer
started_queues p m e = ((sound_iff p).0 (not-false (sound_plan p) (clear_passed (start_lines p m) e).0)).checked.queues_fit

-- a refused start touches no byte
pub refused_untouched : (p : Plan) (m : List ℕ) (r : Refusal) → start_answer p m ≡ Err r → start_memory p m ≡ m
unfolding start_answer start_memory
refused_untouched p m r e = stopped_refused (start_lines p m) r (λ s. m) _ (verdict_stopped (start_lines p m) r e)

module _ (d : Desk) (p : Plan) (m out : List ℕ) (x : Starting) (memory : List ℕ) (is : StartGives p m x memory) where
  pub start_refused : (r : Refusal) {next : Desk} {n : ℕ} {out' : List ℕ} → x.answer ≡ Err r →
      ((b : List ℕ) → Takes (refused_go b r) out next n b out') → Takes (start_turn d p m (start_answer p m)) out next n memory out'
  start_refused r e t =
      let f : start_answer p m ≡ Err r = ap (λ (y : Starting). y.answer) (sym is.0) ∙ e in
      rw (f, is.1, refused_untouched p m r f) (t m)

  pub start_ready : {next : Desk} {n : ℕ} {out' : List ℕ} → x.answer ≡ clear → next ≡ with_run d p x.state →
      Written (sizes_bytes p.size p.queues) out n out' →
      Takes (start_turn d p m (start_answer p m)) out next n memory out'
  start_ready {next} {n} {out'} e g w =
      let f : start_answer p m ≡ clear = ap (λ (y : Starting). y.answer) (sym is.0) ∙ e in
      let o : next ≡ with_run d p fresh = g ∙ ap (λ (y : Starting). with_run d p y.state) is.0 in
      rw (f, is.1, o) (written _ _ _ out out' n w)

module _ (d : Desk) (m : List ℕ) where
  pub go_running : d.running ≡ true → go_turn d m ≡ bad d m
  unfolding go_turn
  go_running h = when_true _ _ h

  -- the answer of planning decides
  go_planned : (x : Planned) → d.running ≡ false → x ≡ planned d → go_turn d m ≡ plan_turn d x.plan m x.answer
  unfolding go_turn
  go_planned x h e = when_false _ _ h ∙ ap (λ (y : Planned). plan_turn d y.plan m y.answer) (sym e)

  module _ (out : List ℕ) (x : Planned) {next : Desk} {n : ℕ} {memory out' : List ℕ} (stopped : d.running ≡ false)
      (is : x ≡ planned d) where
    pub go_refused : (r : Refusal) → x.answer ≡ Err r → Takes (refused_go m r) out next n memory out' →
        Takes (go_turn d m) out next n memory out'
    go_refused r e t = rw (go_planned x stopped is, e) t

    pub go_accepted : x.answer ≡ clear → Takes (start_turn d x.plan m (start_answer x.plan m)) out next n memory out' →
        Takes (go_turn d m) out next n memory out'
    go_accepted e t = rw (go_planned x stopped is, e) t
