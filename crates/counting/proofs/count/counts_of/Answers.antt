-- `count::counts_of`: the later count goes on from the earlier one, and is no more than its tick.
use Rattle.std.specs.Prelude.{◌*◌, ◌≤◌, ◌+◌, ◌-◌, ◌≡◌}
use Rattle.common.specs.Words.{ℕ, arith}
use Rattle.model.specs.Model.{count}
use Rattle.model.proofs.Count.{count_le}
use Rattle.counting.specs.Passed.{count_on}
use Rattle.counting.proofs.count.counts_of.Goals as goal

later : (period deadline low high next : ℕ) → 1 ≤ period → low ≤ high → low + next ≡ count period deadline low * period + deadline →
    count period deadline low + count period next (high - low) ≡ count period deadline high
later period deadline low high next pos h e =
    let g : low + (high - low) ≡ high = omega arith in
    let on = count_on period deadline pos low next (high - low) e in
    omega (arith, rw g at on)

pub overflow_add-result : goal.overflow_add-result
overflow_add-result c =
    let p = c.passed_at-passed in
    omega (
      arith,
      later c.args.period c.args.deadline c.args.low.0 c.args.high.0 p.result.next c.requires.0 c.requires.2 (rw p.ensures.0 at p.ensures.1),
      count_le c.args.period c.args.deadline c.requires.0 c.requires.1 c.args.high.0,
    )

pub returns : goal.returns
returns c =
    let p = c.passed_at-passed in (
      p.ensures.0,
      omega (
        arith,
        p.ensures.0,
        c.deadlines_in-more.ensures,
        later c.args.period c.args.deadline c.args.low.0 c.args.high.0 p.result.next c.requires.0 c.requires.2 (rw p.ensures.0 at p.ensures.1),
      ),
    )
