-- `soundness::places_good`: the sum of the sizes so far is the place that the next queue has to have. Each size was found to be at
-- most the limit before it is added.
use Rattle.std.specs.Prelude.{◌≡◌}
use Rattle.common.specs.Words.{arith, true, rules}
use Rattle.common.proofs.Rows.{every, every_none, every_more, every_fails}
use Rattle.common.specs.Totals.{sum_none, sum_next}
use Rattle.plan.specs.Plan.{size_at, place_at}
use Rattle.plan.specs.Rules.{place_good, place_good_at, places_good}
use Rattle.plan.specs.Facts.{place_iff}
use Rattle.soundness.proofs.places_good.Goals as goal

pub loop-q-init : goal.loop-q-init
loop-q-init c = search (rules, every_none, sum_none)

pub returns-then-not-place_good : goal.returns-then-not-place_good
unfolding places_good
returns-then-not-place_good c =
    let a = c.args in
    let l = c.loop-q in
    let f : every (place_good_at a.plan.now) a.plan.now.queues ≡ _ =
    every_fails (place_good_at a.plan.now) l.q a.plan.now.queues (search rules)
    (rw (← l.invariant.2, ← c.place_good.ensures) c.if-not-place_good.true) in
    rw f

pub overflow_add-total : goal.overflow_add-total
overflow_add-total c =
    let a = c.args in
    let l = c.loop-q in
    omega (
      arith,
      ((place_iff (size_at a.plan.now l.q) (place_at a.plan.now l.q) l.total).0
          (rw (← c.place_good.ensures) c.if-not-place_good.false)).0.1,
    )

pub loop-q-preserved : goal.loop-q-preserved
loop-q-preserved c =
    let p = c.args.plan.now in
    let l = c.loop-q in
    let g : place_good (size_at p l.q) (place_at p l.q) l.total ≡ true =
    rw (← c.place_good.ensures) c.if-not-place_good.false in (
      search rules,
      omega (arith, ((place_iff _ _ _).0 g).0.1),
      omega (arith, l.invariant.2, sum_next (size_at p) l.q),
      every_more (place_good_at p) l.q l.invariant.3 (rw l.invariant.2 at g),
    )

pub returns : goal.returns
unfolding places_good
returns c =
    let l = c.loop-q in
    let a = c.args in
    let e : l.q ≡ a.plan.now.queues = search rules in
    rw (rw e at l.invariant.3, ← rw e at l.invariant.2)
