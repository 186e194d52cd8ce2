-- `receiving::look_on`: by the verdict, and by the window's last number.
use Rattle.std.specs.Prelude.{◌≡◌, ◌+◌, ◌<◌, ◌≤◌, Err}
use Rattle.common.specs.Words.{cond, List, sym, ap, ◌∙◌, ℕ, max, arith, ltb, get_or, rules, lt-ltb, le-ltb}
use Rattle.model.specs.Model.{receiver_period, up_to}
use Rattle.calendar.specs.Calendar.{message}
use Rattle.plan.specs.Plan.{queue_at, Usable}
use Rattle.plan.specs.Sound.{usable}
use Rattle.plan.specs.Verdicts.{verdict, outcome, by_verdict}
use Rattle.judge.specs.Taken.{ReceiveTaken, receive_taken}
use Rattle.window.specs.Window.{plan_window, high_within, window_first, window_last, before_fits, remembers_window}
use Rattle.running.specs.Types.{Number, Plan, Verdict, clear, WindowEnds, Remembered}
use Rattle.running.specs.declared.Received.{Received}
use Rattle.running.specs.Calls.{receive_lines, found, accepted_receive, look}
use Rattle.receiving.proofs.look_on.Goals as goal

module _ (p : Plan) (m : List ℕ) (q t before : ℕ) {v : Verdict} (judged : v ≡ verdict (receive_lines before p m q t)) where
  -- the verdict decides
  decides : (unread : ℕ) (told : Verdict) → v ≡ told →
      outcome told Received.Refused (accepted_receive unread p m q t) ≡ look before unread p m q t
  unfolding look
  decides unread told e =
      rw (← e, judged) (sym (by_verdict (receive_lines before p m q t) Received.Refused (accepted_receive unread p m q t)))

  -- where it is clear
  module _ (passed : v ≡ clear) where
    taken : ReceiveTaken before p m q t
    taken = receive_taken before p m q t judged passed

    known : Usable p q
    known = usable taken.ground.sound q taken.queue

    -- the window w and the next number n choose the answer
    module _ {w : WindowEnds} {n : Number} (unread : ℕ) (a : w ≡ plan_window p q t) (b : n ≡ message (max unread (w.before.0 + 1))) where
      in_window : n.0 ≤ w.end.0 → (up_to (queue_at p q) w.low.0 < n.0) × (n.0 ≤ up_to (queue_at p q) w.high.0)
      in_window h =
          let c : w.before.0 ≡ up_to (queue_at p q) w.low.0 = rw a in
          let d : w.end.0 ≡ up_to (queue_at p q) w.high.0 = rw a in
          let e : n.0 ≡ max unread (w.before.0 + 1) = rw b in
          (omega (arith, c, e), omega (arith, d))

      looks : {r : Received} → r ≡ cond (ltb w.end.0 n.0) Received.Empty (found p m q n.0) → r ≡ look before unread p m q t
      looks e =
          let chosen : accepted_receive unread p m q t ≡ cond (ltb w.end.0 n.0) Received.Empty (found p m q n.0) =
          rw (b, a, window_first p q t, window_last p q t) in
          e ∙ sym chosen ∙ decides unread clear passed

pub returns-in-Err : goal.returns-in-Err
returns-in-Err c =
    let a = c.args in
    (decides a.tested.plan.now a.memory.now a.queue a.at.0 a.before.0 c.judge_receive.ensures _ (Err c.in-Err.refusal) c.in-Err.is, c.requires)

pub running_window-seen-requires : goal.running_window-seen-requires
running_window-seen-requires c =
    let a = c.args in
    let x = taken a.tested.plan.now a.memory.now a.queue a.at.0 a.before.0 c.judge_receive.ensures c.in_default.is in
    (known a.tested.plan.now a.memory.now a.queue a.at.0 a.before.0 c.judge_receive.ensures c.in_default.is, x.tick_within, c.requires)

pub offset_bounds-reading-queue : goal.offset_bounds-reading-queue
offset_bounds-reading-queue c =
    let a = c.args in
    search (rules, (known a.tested.plan.now a.memory.now a.queue a.at.0 a.before.0 c.judge_receive.ensures c.in_default.is).queue_fits)

pub bounds-reading-queue : goal.bounds-reading-queue
bounds-reading-queue c =
    let a = c.args in
    (known a.tested.plan.now a.memory.now a.queue a.at.0 a.before.0 c.judge_receive.ensures c.in_default.is).queue_fits

pub next_number-next-requires : goal.next_number-next-requires
next_number-next-requires c =
    let a = c.args in
    let k = known a.tested.plan.now a.memory.now a.queue a.at.0 a.before.0 c.judge_receive.ensures c.in_default.is in
    let x = taken a.tested.plan.now a.memory.now a.queue a.at.0 a.before.0 c.judge_receive.ensures c.in_default.is in
    rw (ap (λ (r : Remembered). r.window) c.running_window-seen.ensures) (before_fits a.tested.plan.now a.queue a.at.0 k x.tick_within)

pub found-answer-requires : goal.found-answer-requires
found-answer-requires c =
    let a = c.args in
    let x = taken a.tested.plan.now a.memory.now a.queue a.at.0 a.before.0 c.judge_receive.ensures c.in_default.is in
    let s = ap (λ (r : Remembered). r.window) c.running_window-seen.ensures in
    let h : c.next_number-next.result.0 ≤ c.running_window-seen.result.window.end.0 = grind arith in
    let o = in_window a.tested.plan.now a.memory.now a.queue a.at.0 a.before.0 c.judge_receive.ensures c.in_default.is
    _ s c.next_number-next.ensures h in
    let high = high_within (receiver_period (queue_at a.tested.plan.now a.queue)) a.at.0 in
    (x.ground, x.queue, rw s (omega (arith, x.tick_within, high)), o.0, o.1)

pub returns-then-lt : goal.returns-then-lt
returns-then-lt c =
    let a = c.args in
    let h : c.running_window-seen.result.window.end.0 < c.next_number-next.result.0 = grind arith in (
      looks a.tested.plan.now a.memory.now a.queue a.at.0 a.before.0 c.judge_receive.ensures c.in_default.is (get_or a.reading.now a.queue 0)
          (ap (λ (r : Remembered). r.window) c.running_window-seen.ensures) c.next_number-next.ensures
          (rw (lt-ltb _ _ h)),
      remembers_window a.tested.plan.now a.queue a.at.0 c.running_window-seen.ensures,
    )

pub returns-else-lt : goal.returns-else-lt
returns-else-lt c =
    let a = c.args in
    let h : c.next_number-next.result.0 ≤ c.running_window-seen.result.window.end.0 = grind arith in (
      looks a.tested.plan.now a.memory.now a.queue a.at.0 a.before.0 c.judge_receive.ensures c.in_default.is (get_or a.reading.now a.queue 0)
          (ap (λ (r : Remembered). r.window) c.running_window-seen.ensures) c.next_number-next.ensures
          (rw (le-ltb _ _ h, c.found-answer.ensures)),
      remembers_window a.tested.plan.now a.queue a.at.0 c.running_window-seen.ensures,
    )
