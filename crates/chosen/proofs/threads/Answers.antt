-- `chosen::threads`: the rows so far that are threads were chosen.
use Rattle.std.specs.Prelude.{◌≡◌}
use Rattle.common.specs.Words.{rules, eq-eqb, ne_eqb}
use Rattle.index.specs.Laws.{rows_length}
use Rattle.index.specs.Held.{rows_of}
use Rattle.chosen.specs.Chosen.{threads_of}
use Rattle.chosen.specs.Laws.{none_chosen, choose_this, choose_not, chosen_count}
use Rattle.chosen.proofs.threads.Invariants.{so}
use Rattle.chosen.proofs.threads.Goals as goal

pub loop-k-init : goal.loop-k-init
loop-k-init c = none_chosen (so (rows_of c.args.rows.now))

pub and-found-requires : goal.and-found-requires
and-found-requires c =
    let few = chosen_count (so (rows_of c.args.rows.now)) c.loop-k.k c.loop-k.invariant in
    search rules

pub loop-k-preserved : goal.loop-k-preserved
loop-k-preserved c =
    let yes = choose_this (so (rows_of c.args.rows.now)) c.loop-k.k in
    let no = choose_not (so (rows_of c.args.rows.now)) c.loop-k.k in
    let so_far = c.loop-k.invariant in
    let is = c.cell.ensures in
    search (rules, eq-eqb, ne_eqb, yes, no, is, so_far)

pub returns : goal.returns
unfolding threads_of
returns c =
    let e : c.loop-k.k ≡ c.args.rows.now.count = search rules in
    rw (rows_length c.args.rows.now.count c.args.rows.now.memory.now) (rw e at c.loop-k.invariant)
