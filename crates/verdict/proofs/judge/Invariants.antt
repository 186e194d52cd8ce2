-- `verdict::judge`: the rows so far are judged.
use Rattle.std.specs.Prelude.{◌≡◌}
use Rattle.steps.specs.Faults.{worst}
use Rattle.ways.specs.Named.{text_of, all_rows}
use Rattle.verdict.specs.Verdict.{faults_below}
use Rattle.verdict.proofs.judge.Given as goal

abbrev pub invariant-loop-k : goal.invariant-loop-k
invariant-loop-k l =
    l.least ≡ worst l.initial.least (faults_below (text_of l.joined.names) (all_rows l.joined.names) l.k)
