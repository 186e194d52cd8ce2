-- `verdict::judge`: the rows so far are judged.
use Rattle.std.specs.Prelude.{◌≡◌}
use Rattle.common.specs.Words.{rules, refl}
use Rattle.steps.specs.Faults.{worst}
use Rattle.index.specs.Laws.{rows_length}
use Rattle.ways.specs.Named.{text_of, all_rows}
use Rattle.verdict.specs.Verdict.{faults_below, judged}
use Rattle.verdict.specs.Laws.{worst_then, below_more}
use Rattle.verdict.proofs.judge.Goals as goal

pub loop-k-init : goal.loop-k-init
unfolding faults_below worst
loop-k-init c = refl

pub loop-k-preserved : goal.loop-k-preserved
loop-k-preserved c =
    let names = c.args.joined.now.names in
    rw (below_more (text_of names) (all_rows names) c.loop-k.k) (worst_then _ _ _ c.loop-k.invariant c.row-least.ensures)

pub returns : goal.returns
unfolding judged
returns c =
    let rows = c.args.joined.now.names.declared.rows in
    let e : c.loop-k.k ≡ rows.count = search rules in
    rw (rows_length rows.count rows.memory.now) (worst_then _ _ _ c.process-least.ensures (rw e at c.loop-k.invariant))
