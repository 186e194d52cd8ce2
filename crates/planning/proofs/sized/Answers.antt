-- `planning::sized`: the sizes are the least ones, and their total decides rule 6.
use Rattle.std.specs.Prelude.{◌<◌, ◌≤◌}
use Rattle.common.specs.Words.{lt-ltb, le-ltb}
use Rattle.common.specs.Totals.{sum}
use Rattle.plan.specs.Limits.{most_slots}
use Rattle.places.specs.Places.{least_size}
use Rattle.places.specs.Laws.{sizes_small, total_is}
use Rattle.planning.specs.Planning.{sized, slots_judged}
use Rattle.planning.proofs.sized.Goals as goal

pub total_of-requires : goal.total_of-requires
total_of-requires c =
    (c.requires.0.queues_fit, rw c.sizes_of-size.ensures (sizes_small c.requires.0))

pub returns-then-total_of-gt-MOST_SLOTS : goal.returns-then-total_of-gt-MOST_SLOTS
unfolding slots_judged
returns-then-total_of-gt-MOST_SLOTS c =
    let e = rw (c.sizes_of-size.ensures, total_is c.requires.0) at c.total_of.ensures in
    let h : most_slots < sum (least_size c.args.table) c.args.table.queues = rw e at c.if-total_of-gt-MOST_SLOTS.true in
    rw (lt-ltb _ _ h) c.refused.ensures

pub places_of-place-requires : goal.places_of-place-requires
places_of-place-requires c =
    rw c.sizes_of-size.ensures (sizes_small c.requires.0)

pub returns : goal.returns
unfolding slots_judged sized
returns c =
    let e = rw (c.sizes_of-size.ensures, total_is c.requires.0) at c.total_of.ensures in
    let h : sum (least_size c.args.table) c.args.table.queues ≤ most_slots = rw e at c.if-total_of-gt-MOST_SLOTS.false in
    rw (le-ltb _ _ h, c.places_of-place.ensures, c.sizes_of-size.ensures)
