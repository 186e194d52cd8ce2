-- `sizing::sizes::row_slots`: the loop keeps the greatest need of the jobs passed, and asks one job for each horizon: the last that is
-- released before it moves. The second hyperperiod ends before the last tick.
use Rattle.std.specs.Prelude.{◌*◌, ◌+◌, ◌/◌, ◌<◌, ◌≤◌, ◌≡◌}
use Rattle.common.specs.Words.{ℕ, max, arith, refl, sym, ap, ◌∙◌, div-le_self, div-mul-le_self, mul-le-mul_right}
use Rattle.common.specs.Totals.{most}
use Rattle.model.specs.Model.{Queue, Valid, Sender, release_of, deadline_of, receiver_period}
use Rattle.model.proofs.Order.{period_pos}
use Rattle.model.proofs.Outdating.{wanted_fits}
use Rattle.calendar.specs.declared.Tick.{Tick}
use Rattle.plan.specs.Limits.{last_tick, longest_period, longest_hyperperiod}
use Rattle.plan.specs.Plan.{queue_at, Usable}
use Rattle.plan.specs.declared.Plan.{Plan}
use Rattle.counting.specs.Lent.{lent}
use Rattle.counting.specs.Bounds.{row_positive}
use Rattle.sizing.specs.Needs.{horizon_for, need_for, row_slots_own, horizon_back, horizon_ahead, horizon_stays}
use Rattle.sizing.specs.Jumps.{needs_jump}
use Rattle.sizing.proofs.sizes.row_slots.Goals as goal
use Rattle.sizing.proofs.sizes.row_slots.Goals.{After-horizon_at-horizon}

-- the jobs of the second hyperperiod
in_time : (q : Queue) → Valid q → (i H k : ℕ) → Sender q i → q.period i ≤ longest_period → H ≤ longest_hyperperiod →
    k < H / q.period i → deadline_of q i (H / q.period i + k) ≤ last_tick
in_time q v i H k s f h l =
    omega (
      arith,
      div-mul-le_self H (q.period i),
      v.deadline_fits i s.row,
      mul-le-mul_right {m = k} {n = H / q.period i} (q.period i) (omega arith),
    )

module _ {p : Plan} {q : ℕ} (u : Usable p q) (chart wanted task ticks : ℕ) where
  abbrev columns : Queue
  columns = queue_at p q

  abbrev jobs : ℕ
  jobs = ticks / columns.period task

  -- where the horizon is at the release of job x of the second hyperperiod
  abbrev horizon : ℕ → ℕ
  horizon x = horizon_for chart wanted (release_of columns task (jobs + x))

  module _ (pos : 1 ≤ chart) (s : Sender columns task) (few : ticks ≤ longest_hyperperiod) where
    within : (x : ℕ) → x < jobs → deadline_of columns task (jobs + x) ≤ last_tick
    within x h = in_time columns u.valid task ticks x s (u.periods_fit task s.row) few h

    jobs_small : jobs ≤ longest_hyperperiod
    jobs_small = omega (arith, div-le_self ticks (columns.period task), few)

    -- job x is released before the horizon moves
    ahead : (x : ℕ) → release_of columns task (jobs + x) < horizon x + wanted + chart
    ahead x = horizon_ahead chart wanted (release_of columns task (jobs + x)) pos

    horizon_within : (x : ℕ) → x < jobs → horizon x ≤ last_tick
    horizon_within x h = omega (arith, within x h, horizon_back chart wanted (release_of columns task (jobs + x)))

    -- a later job that is released before the horizon moves has the same horizon
    same : (x y : ℕ) → x ≤ y → release_of columns task (jobs + y) < horizon x + wanted + chart → horizon x ≡ horizon y
    same x y h early =
        sym (horizon_stays chart wanted (release_of columns task (jobs + x)) (release_of columns task (jobs + y)) pos
        (mul-le-mul_right (columns.period task) (omega arith)) early)

    outdated_before : (x : ℕ) → horizon x < deadline_of columns task (jobs + x)
    outdated_before x =
        omega (arith, horizon_back chart wanted (release_of columns task (jobs + x)), (row_positive (lent p q u) task s.row).1)

    -- the job that is asked: it has the same horizon, h
    module _ (k last h : ℕ) (f : h ≡ horizon k) (t : k < jobs) (e : (last < jobs) × ((jobs + last) * columns.period task < h + wanted + chart) ×
        ((x : ℕ) → x < jobs → (jobs + x) * columns.period task < h + wanted + chart → x ≤ last)) where
      reached : k ≤ last
      reached = e.2 k t (rw f (ahead k))

      early : release_of columns task (jobs + last) < horizon k + wanted + chart
      early = rw (← f) e.1

      same_last : h ≡ horizon last
      same_last = f ∙ same k last reached early

      asked : (h < deadline_of columns task (jobs + last)) × (deadline_of columns task (jobs + last) ≤ last_tick)
      asked = (rw same_last (outdated_before last), within last e.0)

      needs_last : max (most (λ x. need_for columns chart wanted task (jobs + x)) k) (need_for columns chart wanted task (jobs + last))
          ≡ most (λ x. need_for columns chart wanted task (jobs + x)) (last + 1)
      needs_last = sym (needs_jump columns u.valid task s chart wanted jobs k last pos reached early)

-- the horizon that was found, of a receiver with its own period that wants its messages for so long
module _ (c : After-horizon_at-horizon) where
  abbrev queue_of : Queue
  queue_of = queue_at c.args.plan.now c.args.queue

  abbrev chart_of : ℕ
  chart_of = receiver_period queue_of

  abbrev wanted_of : ℕ
  wanted_of = c.wanted_for-wanted.result

  chart_pos : 1 ≤ chart_of
  chart_pos = let u = c.requires.0 in period_pos queue_of u.valid queue_of.receiver u.valid.receiver_row

  chart_fits : chart_of ≤ longest_period
  chart_fits = let u = c.requires.0 in u.periods_fit queue_of.receiver u.valid.receiver_row

  wanted_small : wanted_of ≤ longest_period
  wanted_small = omega (arith, c.wanted_for-wanted.ensures queue_of refl, wanted_fits queue_of c.requires.0.valid, chart_fits)

  found : c.horizon_at-horizon.result.0 ≡ horizon c.requires.0 chart_of wanted_of c.args.task c.args.ticks c.loop-k.k
  found = rw c.release_of-release.ensures at (ap (λ (t : Tick). t.0) c.horizon_at-horizon.ensures)

  found_within : c.horizon_at-horizon.result.0 ≤ last_tick
  found_within =
      let r = c.requires in
      omega (arith, found, horizon_within r.0 chart_of wanted_of c.args.task c.args.ticks chart_pos r.1 r.2 c.loop-k.k c.loop-k-test.true)

pub loop-k-init : goal.loop-k-init
unfolding most
loop-k-init c = (omega arith, refl)

pub overflow_add-horizon-in-loop-k : goal.overflow_add-horizon-in-loop-k
overflow_add-horizon-in-loop-k c =
    let v = (goal.at.overflow_add-horizon-in-loop-k c).After-horizon_at-horizon in
    omega (arith, found_within v, wanted_small v, chart_fits v)

pub need_of-need-requires : goal.need_of-need-requires
need_of-need-requires c =
    let v = (goal.at.need_of-need-requires c).After-horizon_at-horizon in
    let r = c.requires in
    let p = asked r.0 (chart_of v) (wanted_of v) c.args.task c.args.ticks (chart_pos v) r.1 r.2 c.loop-k.k c.last_before-last.result
    c.horizon_at-horizon.result.0 (found v) c.loop-k-test.true c.last_before-last.ensures in
    rw c.deadline_of-due.ensures (lent _ _ r.0, p.0, p.1, r.1.row)

pub loop-k-preserved : goal.loop-k-preserved
loop-k-preserved c =
    let v = (goal.at.loop-k-preserved c).After-horizon_at-horizon in
    let a = c.args in
    let r = c.requires in
    let last = c.last_before-last.result in
    let h = c.horizon_at-horizon.result.0 in
    let q = queue_of v in
    let same = same_last r.0 (chart_of v) (wanted_of v) a.task a.ticks (chart_pos v) r.1 r.2 c.loop-k.k last h (found v) c.loop-k-test.true
    c.last_before-last.ensures in
    let e : c.need_of-need.result ≡ need_for q (chart_of v) (wanted_of v) a.task (a.ticks / q.period a.task + last) =
    rw (← same) (rw c.deadline_of-due.ensures at c.need_of-need.ensures) in
    let jump = needs_last r.0 (chart_of v) (wanted_of v) a.task a.ticks (chart_pos v) r.1 r.2 c.loop-k.k last h (found v) c.loop-k-test.true
    c.last_before-last.ensures in
    (omega (arith, c.last_before-last.ensures.0), c.max-most.ensures ∙ rw (e, c.loop-k.invariant.1) jump)

pub returns : goal.returns
returns c =
    let a = c.args in
    let q = queue_at a.plan.now a.queue in
    let e : c.loop-k.k ≡ a.ticks / q.period a.task = omega (arith, c.loop-k.invariant.0, c.loop-k-test.false) in
    rw (e, c.wanted_for-wanted.ensures q refl) at c.loop-k.invariant.1 ∙ row_slots_own q a.ticks a.task
