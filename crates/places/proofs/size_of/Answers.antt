-- `places::size_of`: no counted queue's hyperperiod is over the limit, so its least size is the greatest need over it.
use Rattle.std.specs.Prelude.{◌<◌, ◌≤◌, ◌&&◌, ◌≡◌}
use Rattle.common.specs.Words.{ℕ, arith, sym, ◌∙◌, leb-true, lt-ltb}
use Rattle.common.specs.Tests.{and_left}
use Rattle.common.proofs.Rows.{first_bad_is}
use Rattle.model.specs.Model.{hyperperiod, slots}
use Rattle.calendar.specs.Calendar.{capped_within, capped_over}
use Rattle.plan.specs.Limits.{longest_hyperperiod}
use Rattle.plan.specs.Plan.{queue_at}
use Rattle.plan.specs.Sound.{checked_usable}
use Rattle.plan.specs.declared.Plan.{Plan}
use Rattle.sizing.specs.Cycle.{cycle_short, messages_few}
use Rattle.places.specs.Places.{long_queue}
use Rattle.places.proofs.size_of.Goals as goal

short : (t : Plan) (q : ℕ) → long_queue t ≡ t.queues → q < t.queues → hyperperiod (queue_at t q) ≤ longest_hyperperiod
unfolding long_queue
short t q e l =
    leb-true _ _ (and_left (cycle_short t q) (messages_few t q)
    ((first_bad_is (λ q. cycle_short t q && messages_few t q) t.queues).before q (rw e l)))

pub returns-in_default : goal.returns-in_default
returns-in_default c =
    let over : longest_hyperperiod < hyperperiod (queue_at c.args.table.now c.args.queue) =
    capped_over longest_hyperperiod _ (sym c.hyperperiod_of.ensures ∙ c.in_default.is) in
    absurd (omega (arith, over, short c.args.table.now c.args.queue c.requires.1 c.if-table-queue.false))

pub slots_over-requires : goal.slots_over-requires
slots_over-requires c =
    let w = capped_within longest_hyperperiod _ _ (sym c.hyperperiod_of.ensures ∙ c.in-Some.is) in
    (checked_usable c.requires.0 c.args.queue c.if-table-queue.false, rw w.0 w.1)

pub returns : goal.returns
unfolding slots
returns c =
    let w = capped_within longest_hyperperiod _ _ (sym c.hyperperiod_of.ensures ∙ c.in-Some.is) in
    rw (c.slots_over.ensures, w.0, lt-ltb _ _ c.if-table-queue.false)
