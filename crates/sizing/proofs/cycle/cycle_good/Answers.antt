-- `sizing::cycle::cycle_good`: a hyperperiod over the limit fails rule 4; of one within it the messages are counted for rule 5.
use Rattle.std.specs.Prelude.{◌<◌}
use Rattle.common.specs.Words.{sym, ◌∙◌}
use Rattle.common.specs.Tests.{tests}
use Rattle.model.specs.Model.{hyperperiod}
use Rattle.calendar.specs.Calendar.{capped_within, capped_over}
use Rattle.plan.specs.Limits.{longest_hyperperiod}
use Rattle.plan.specs.Plan.{queue_at}
use Rattle.sizing.proofs.cycle.cycle_good.Goals as goal

pub returns-in_default : goal.returns-in_default
returns-in_default c =
    let h : longest_hyperperiod < hyperperiod (queue_at c.args.plan.now c.args.queue) =
    capped_over longest_hyperperiod _ (sym c.hyperperiod_of.ensures ∙ c.in_default.is) in
    search tests

pub messages_in-requires : goal.messages_in-requires
messages_in-requires c =
    let w = capped_within longest_hyperperiod (hyperperiod (queue_at c.args.plan.now c.args.queue)) _
    (sym c.hyperperiod_of.ensures ∙ c.in-Some.is) in
    (c.requires, rw w.0 w.1)

pub returns : goal.returns
returns c =
    let w = capped_within longest_hyperperiod (hyperperiod (queue_at c.args.plan.now c.args.queue)) _
    (sym c.hyperperiod_of.ensures ∙ c.in-Some.is) in
    let h = w.1 in
    rw (c.messages_in.ensures, w.0) (search tests)
