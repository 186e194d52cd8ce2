-- `planning::make_plan`: each test in document 01's order, and what the tests passed so far say.
use Rattle.std.specs.Prelude.{◌≤◌, ◌≡◌}
use Rattle.common.specs.Words.{ℕ, arith, Bool, lt-ltb, le-ltb, sym, ◌∙◌}
use Rattle.common.proofs.Rows.{first_bad, first_bad_is}
use Rattle.plan.specs.Facts.{counts_iff}
use Rattle.plan.proofs.Found.{row_found, none_found}
use Rattle.planning.specs.Planning.{plan_of}
use Rattle.planning.specs.TableLaws.{table_checked}
use Rattle.planning.proofs.make_plan.Goals as goal

-- a search that came to the end found nothing
all_good : (t : ℕ → Bool) (n : ℕ) → n ≤ first_bad t n → first_bad t n ≡ n
all_good t n h = omega (arith, (first_bad_is t n).within)

pub returns-then-not-counts_good : goal.returns-then-not-counts_good
unfolding plan_of
returns-then-not-counts_good c =
    let bad = rw c.counts_good.ensures at c.if-not-counts_good.true in
    rw bad c.refused.ensures

pub first_bad_task-requires : goal.first_bad_task-requires
first_bad_task-requires c =
    let a = c.args in
    ((counts_iff a.tasks a.queues).0 (rw c.counts_good.ensures at c.if-not-counts_good.false)).0.1

pub returns-in-Some : goal.returns-in-Some
unfolding plan_of
returns-in-Some c =
    let good = rw c.counts_good.ensures at c.if-not-counts_good.false in
    let bad = row_found _ _ _ (sym c.first_bad_task.ensures ∙ c.in-Some.is) in
    rw (good, lt-ltb _ _ bad.1, ← bad.0) c.refused-in-Some.ensures

pub first_bad_queue-requires : goal.first_bad_queue-requires
first_bad_queue-requires c =
    let a = c.args in
    ((counts_iff a.tasks a.queues).0 (rw c.counts_good.ensures at c.if-not-counts_good.false)).1.1

pub returns-in-Some-first_bad_queue : goal.returns-in-Some-first_bad_queue
unfolding plan_of
returns-in-Some-first_bad_queue c =
    let good = rw c.counts_good.ensures at c.if-not-counts_good.false in
    let tasks = none_found _ _ (sym c.first_bad_task.ensures ∙ c.in_default.is) in
    let bad = row_found _ _ _ (sym c.first_bad_queue.ensures ∙ c.in-Some-first_bad_queue.is) in
    rw (good, le-ltb _ _ tasks, lt-ltb _ _ bad.1, ← bad.0) c.refused-in-Some-first_bad_queue.ensures

pub judged_table-requires : goal.judged_table-requires
judged_table-requires c =
    let a = c.args in
    rw c.tabled.ensures
    (table_checked a.tasks a.queues a.period a.deadline a.priority a.receiver a.square
    (rw c.counts_good.ensures at c.if-not-counts_good.false)
    (all_good _ a.tasks (none_found _ _ (sym c.first_bad_task.ensures ∙ c.in_default.is)))
    (all_good _ a.queues (none_found _ _ (sym c.first_bad_queue.ensures ∙ c.in_default-first_bad_queue.is))))

pub returns : goal.returns
unfolding plan_of
returns c =
    let good = rw c.counts_good.ensures at c.if-not-counts_good.false in
    let tasks = none_found _ _ (sym c.first_bad_task.ensures ∙ c.in_default.is) in
    let queues = none_found _ _ (sym c.first_bad_queue.ensures ∙ c.in_default-first_bad_queue.is) in
    rw (good, le-ltb _ _ tasks, le-ltb _ _ queues, ← c.tabled.ensures) c.judged_table.ensures
