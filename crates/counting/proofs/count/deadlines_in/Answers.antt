-- `count::deadlines_in`: two deadlines at most, or the count as it is defined.
use Rattle.common.specs.Words.{arith}
use Rattle.model.proofs.Count.{count_from}
use Rattle.counting.specs.Passed.{count_two}
use Rattle.counting.proofs.count.deadlines_in.Goals as goal

pub returns-then-second-period : goal.returns-then-second-period
returns-then-second-period c =
    omega (
      arith,
      c.min.ensures,
      c.min-then-second-period.ensures,
      c.saturating_sub-first.ensures,
      c.saturating_sub-second.ensures,
      count_two c.args.period c.args.next c.args.ticks c.requires.1 (omega (arith, c.if-second-period.true)),
    )

pub returns-else-second-period : goal.returns-else-second-period
returns-else-second-period c =
    omega (arith, count_from c.args.period c.args.next c.args.ticks (omega arith))
