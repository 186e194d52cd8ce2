-- `planning::judged_table`: the first queue that breaks rule 4 or 5 breaks 4, or 5; where there is none the total decides.
use Rattle.common.specs.Words.{arith, lt-ltb, le-ltb, sym, ◌∙◌}
use Rattle.plan.specs.Sound.{checked_usable}
use Rattle.plan.proofs.Found.{row_found, none_found}
use Rattle.places.specs.Laws.{long_within}
use Rattle.planning.specs.Planning.{slots_judged, table_judged}
use Rattle.planning.proofs.judged_table.Goals as goal

pub cycle_short-requires : goal.cycle_short-requires
cycle_short-requires c =
    let h = row_found _ _ _ (sym c.first_long.ensures ∙ c.in-Some.is) in
    checked_usable c.requires _ (rw h.0 h.1)

pub returns-then-not-cycle_short : goal.returns-then-not-cycle_short
unfolding table_judged
returns-then-not-cycle_short c =
    let h = row_found _ _ _ (sym c.first_long.ensures ∙ c.in-Some.is) in
    let over = rw (c.cycle_short.ensures, h.0) at c.if-not-cycle_short.true in
    rw (lt-ltb _ _ h.1, over, ← h.0) c.refused.ensures

pub returns-in-Some : goal.returns-in-Some
unfolding table_judged
returns-in-Some c =
    let h = row_found _ _ _ (sym c.first_long.ensures ∙ c.in-Some.is) in
    let short = rw (c.cycle_short.ensures, h.0) at c.if-not-cycle_short.false in
    rw (lt-ltb _ _ h.1, short, ← h.0) c.refused-in-Some.ensures

pub sized-requires : goal.sized-requires
sized-requires c =
    (c.requires, omega (arith, none_found _ _ (sym c.first_long.ensures ∙ c.in_default.is), long_within c.args.table))

pub returns : goal.returns
unfolding table_judged slots_judged
returns c = rw (le-ltb _ _ (none_found _ _ (sym c.first_long.ensures ∙ c.in_default.is))) c.sized.ensures
