-- `Chosen::and`: where there is room and where there is none.
use Rattle.chosen.specs.Laws.{more_held, more_full}
use Rattle.chosen.proofs.Chosen.and.Goals as goal
use Rattle.chosen.proofs.Chosen.and.Goals.{then-count-lt-TASKS, else-count-lt-TASKS}

pub returns : goal.returns
returns c ks e =
    elim c.if-count-lt-TASKS.branch [
      | then-count-lt-TASKS w ↦ more_held ks e c.args.k w.if-count-lt-TASKS.true w.rows-is
      | else-count-lt-TASKS w ↦ more_full ks e c.args.k w.if-count-lt-TASKS.false w.rows-is
    ]
