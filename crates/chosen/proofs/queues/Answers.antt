-- `chosen::queues`: the rows so far that are first connections to a queue were chosen.
use Rattle.std.specs.Prelude.{◌≡◌}
use Rattle.common.specs.Words.{rules, sym, ◌∙◌}
use Rattle.index.specs.Laws.{rows_length}
use Rattle.index.specs.Held.{rows_of}
use Rattle.chosen.specs.Chosen.{chosen_below, queues_of}
use Rattle.chosen.specs.Laws.{none_chosen, choose_this, choose_not, chosen_count}
use Rattle.chosen.proofs.queues.Invariants.{so}
use Rattle.chosen.proofs.queues.Goals.{then-is_queue, else-is_queue}
use Rattle.chosen.proofs.queues.Goals as goal

pub loop-k-init : goal.loop-k-init
loop-k-init c = none_chosen (so c.args.queued.now.text.now (rows_of c.args.queued.now.rows))

pub and-found-requires : goal.and-found-requires
and-found-requires c =
    let few = chosen_count (so c.args.queued.now.text.now (rows_of c.args.queued.now.rows)) c.loop-k.k c.loop-k.invariant in
    let all = c.args.queued.now.indexed.few in
    search rules

pub loop-k-preserved : goal.loop-k-preserved
loop-k-preserved c =
    let s = so c.args.queued.now.text.now (rows_of c.args.queued.now.rows) in
    let k = c.loop-k.k in
    elim c.if-is_queue.branch [
      | then-is_queue w ↦ rw (choose_this s k (sym c.is_queue.ensures ∙ w.if-is_queue.true))
          (w.found-is ∙ w.and-found.ensures (chosen_below s k) c.loop-k.invariant)
      | else-is_queue w ↦ rw (choose_not s k (sym c.is_queue.ensures ∙ w.if-is_queue.false)) (w.found-is ∙ c.loop-k.invariant)
    ]

pub returns : goal.returns
unfolding queues_of
returns c =
    let rows = c.args.queued.now.rows in
    let e : c.loop-k.k ≡ rows.count = search rules in
    rw (rows_length rows.count rows.memory.now) (rw e at c.loop-k.invariant)
