-- `origin::origin_of`: the tick and the row that were found are those of the message with the number.
use Rattle.std.specs.Prelude.{◌<◌, ◌≤◌, ◌≡◌}
use Rattle.common.specs.Words.{ℕ, arith, not, ◌∙◌, get_or}
use Rattle.common.proofs.Rows.{first_bad}
use Rattle.common.specs.Tests.{having}
use Rattle.model.specs.Model.{up_to, tick_of, sent_by, sender_of, job_of}
use Rattle.model.proofs.Number.{up_to_zero}
use Rattle.model.proofs.Order.{period_pos}
use Rattle.model.proofs.WayBack.{tick_of_found, tick_there, way_there}
use Rattle.calendar.specs.Calendar.{tick}
use Rattle.calendar.specs.declared.Tick.{Tick}
use Rattle.plan.specs.Limits.{task_limit, last_tick}
use Rattle.plan.specs.Plan.{queue_at, Usable}
use Rattle.plan.specs.declared.Plan.{Plan}
use Rattle.counting.specs.Lent.{lent}
use Rattle.numbering.proofs.origin.origin_of.Goals as goal

module _ (p : Plan) (q n : ℕ) (t : Tick) (e : t ≡ tick (tick_of (queue_at p q) last_tick n))
    (i : ℕ) (f : i ≡ first_bad (λ j. not (sent_by (queue_at p q) t.0 n j)) p.tasks) where
  sender : i ≡ sender_of (queue_at p q) last_tick n
  unfolding sender_of
  sender = f ∙ rw e

  row_good : Usable p q → 1 ≤ n → n ≤ up_to (queue_at p q) last_tick →
      (i < task_limit) × (1 ≤ get_or p.period i 0) × (get_or p.deadline i 0 ≤ t.0)
  row_good u pos h =
      having (way_there (queue_at p q) u.valid n last_tick pos h)
      (λ m.
      rw (sender, e) (
        omega (arith, m.0.row, u.tasks_fit),
        period_pos (queue_at p q) u.valid _ m.0.row,
        omega (arith, tick_there (queue_at p q) u.valid n last_tick pos h),
      ))

pub tick_between-at-requires : goal.tick_between-at-requires
tick_between-at-requires c = (
  lent _ _ c.requires.0,
  omega arith,
  rw (up_to_zero (queue_at c.args.plan.now c.args.queue) c.requires.0.valid) c.requires.1,
  c.requires.2,
)

pub sender_at-task-requires : goal.sender_at-task-requires
sender_at-task-requires c = (
  lent _ _ c.requires.0,
  rw c.tick_between-at.ensures (tick_of_found _ c.requires.0.valid last_tick c.args.n.0 c.requires.1 c.requires.2).1,
)

pub job_due-requires : goal.job_due-requires
job_due-requires c =
    row_good _ _ _ _ c.tick_between-at.ensures _ c.sender_at-task.ensures c.requires.0 c.requires.1 c.requires.2

pub returns : goal.returns
unfolding job_of
returns c =
    rw (c.job_due.ensures, sender c.args.plan.now _ _ _ c.tick_between-at.ensures _ c.sender_at-task.ensures, c.tick_between-at.ensures)
