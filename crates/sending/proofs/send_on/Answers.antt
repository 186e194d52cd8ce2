-- `sending::send_on`: by the verdict; an accepted send does what `sent_clear` says.
use Rattle.std.specs.Prelude.{◌≡◌, ◌+◌, ◌*◌, ◌/◌}
use Rattle.std.proofs.lemmas.Result.{err_from_is_err_and}
use Rattle.common.specs.Words.{List, ℕ, refl, get_or, set, rules}
use Rattle.calendar.specs.Calendar.{tick, message, slot, job}
use Rattle.calendar.specs.declared.Job.{Job}
use Rattle.plan.specs.Limits.{task_limit, payload_bytes}
use Rattle.plan.specs.Plan.{queue_at}
use Rattle.plan.specs.Sound.{usable}
use Rattle.plan.specs.Verdicts.{verdict}
use Rattle.counting.specs.Lent.{lent}
use Rattle.slots.specs.Slots.{stored}
use Rattle.judge.specs.Taken.{send_taken}
use Rattle.running.specs.Types.{Number, Slot, Plan, Verdict, clear}
use Rattle.running.specs.Calls.{unsent_at, running_number, slot_in, slot_for, send_lines, stored_as, SendLeaves}
use Rattle.running.specs.Bounds.{slots_small, slot_inside_lem}
use Rattle.running.specs.Outcomes.{sent_refused, sent_clear}
use Rattle.running.specs.Stepping.{storing}
use Rattle.sending.proofs.send_on.Goals as goal

-- the steps of an accepted send
module _ (before : ℕ) (sent : List ℕ) (p : Plan) (m : List ℕ) (q i t : ℕ) (payload : List ℕ) {v : Verdict}
    (judged : v ≡ verdict (send_lines before (unsent_at sent q i) p m q i t payload)) (passed : v ≡ clear) where
  stores : {n : Number} {from within : Slot} {m' : List ℕ} {k : Job} → n ≡ message (running_number (queue_at p q) i t) →
      from ≡ slot (slot_for p q n.0) → m' ≡ stored payload_bytes m from.0 n.0 payload → k ≡ job (t / get_or p.period i 0) →
      within ≡ slot (slot_in p q n.0) →
      SendLeaves before sent p m q i t payload (stored_as n within) (tick t) (set sent (q * task_limit + i) (k.0 + 1)) m'
  stores a b c d e =
      let o = sent_clear before (unsent_at sent q i) p m q i t payload judged passed in
      rw (o.0, o.1, c, d, e, b, a) (refl, refl, refl, refl)

pub returns-in_err-judge_send : goal.returns-in_err-judge_send
returns-in_err-judge_send c =
    let o = sent_refused _ _ c.args.tested.plan.now _ _ _ _ _ _ c.judge_send.ensures c.in_err-judge_send.was in
    let e = err_from_is_err_and c.from_residual.result c.from_residual.ensures.1 in
    rw (e.1, e.2, o.0, o.1) (refl, refl, refl, refl)

pub running_number-number-requires : goal.running_number-number-requires
running_number-number-requires c =
    let x = send_taken _ _ c.args.tested.plan.now _ _ _ _ _ c.judge_send.ensures c.in_ok-judge_send.was in
    (lent _ _ (usable x.ground.sound _ x.queue), x.sender.row, x.deadline_within)

pub offset_bounds-plan-queue : goal.offset_bounds-plan-queue
offset_bounds-plan-queue c =
    let x = send_taken _ _ c.args.tested.plan.now _ _ _ _ _ c.judge_send.ensures c.in_ok-judge_send.was in
    search (rules, (storing x).queue_fits)

pub slot_for-slot-requires : goal.slot_for-slot-requires
slot_for-slot-requires c =
    let x = send_taken _ _ c.args.tested.plan.now _ _ _ _ _ c.judge_send.ensures c.in_ok-judge_send.was in
    slots_small x.ground.sound _ x.queue

pub store-requires : goal.store-requires
store-requires c =
    let x = send_taken _ _ c.args.tested.plan.now _ _ _ _ _ c.judge_send.ensures c.in_ok-judge_send.was in
    rw c.slot_for-slot.ensures (slot_inside_lem x.ground _ x.queue _, x.whole)

pub job_at-job-requires : goal.job_at-job-requires
job_at-job-requires c =
    (storing (send_taken _ _ c.args.tested.plan.now _ _ _ _ _ c.judge_send.ensures c.in_ok-judge_send.was)).period_counts

pub slot_in-requires : goal.slot_in-requires
slot_in-requires c =
    let x = send_taken _ _ c.args.tested.plan.now _ _ _ _ _ c.judge_send.ensures c.in_ok-judge_send.was in
    x.ground.sound.size_pos _ x.queue

pub returns : goal.returns
returns c =
    stores _ c.args.sent.now c.args.tested.plan.now _ _ _ _ _ c.judge_send.ensures c.in_ok-judge_send.was
    c.running_number-number.ensures c.slot_for-slot.ensures c.store.ensures c.job_at-job.ensures c.slot_in.ensures
