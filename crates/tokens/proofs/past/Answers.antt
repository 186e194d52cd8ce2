-- `tokens::past`: the run from here on ends where the whole does.
use Rattle.common.specs.Words.{refl, arith}
use Rattle.tokens.specs.Tokens.{rank}
use Rattle.tokens.specs.Sorts.{sort_below, sort_above}
use Rattle.tokens.specs.Laws.{run_none, run_below, run_above, run_more}
use Rattle.tokens.proofs.past.Goals as goal
use Rattle.tokens.proofs.past.Goals.{then-lt-via-then-lt, then-lt-via-else-lt+then-lt-2}

pub loop-i-init : goal.loop-i-init
loop-i-init c = refl

pub returns-then-lt : goal.returns-then-lt
returns-then-lt c =
    let a = c.args in
    let e = c.sort_of-sort.ensures in
    elim c.then-lt.branch [
      | then-lt-via-then-lt w ↦
          omega (
            arith,
            c.loop-i.invariant,
            run_below a.text.now (rank a.low) (rank a.high) c.loop-i.i c.loop-i-test.true (rw (← e) (sort_below _ a.low w.if-lt.ensures)),
          )
      | then-lt-via-else-lt+then-lt-2 w ↦
          omega (
            arith,
            c.loop-i.invariant,
            run_above a.text.now (rank a.low) (rank a.high) c.loop-i.i c.loop-i-test.true
                (rw (← e) (sort_above c.sort_of-sort.result a.low w.if-lt.ensures))
                (rw (← e) (sort_below a.high c.sort_of-sort.result w.if-lt-2.ensures)),
          )
    ]

pub loop-i-preserved : goal.loop-i-preserved
loop-i-preserved c =
    let a = c.args in
    let e = c.sort_of-sort.ensures in
    let m = run_more a.text.now (rank a.low) (rank a.high) c.loop-i.i c.loop-i-test.true
    (rw (← e) (sort_above c.sort_of-sort.result a.low c.if-lt.ensures)) (rw (← e) (sort_above a.high c.sort_of-sort.result c.if-lt-2.ensures)) in
    omega (arith, c.loop-i.invariant, m)

pub returns : goal.returns
returns c =
    let a = c.args in
    omega (arith, c.loop-i.invariant, run_none a.text.now (rank a.low) (rank a.high) c.loop-i.i c.loop-i-test.false)
