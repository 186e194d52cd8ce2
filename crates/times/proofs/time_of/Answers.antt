-- `times::time_of`.
use Rattle.times.specs.Laws.{time_whole, time_not_whole}
use Rattle.times.proofs.time_of.Goals as goal

pub returns-then-s : goal.returns-then-s
returns-then-s c =
    let a = c.args in
    time_whole a.text.now a.number a.places c.sum_of-s.result c.sum_of-s.ensures.0 a.went
    c.filled.result c.if-s.true c.filled.ensures.0

pub returns : goal.returns
returns c =
    let a = c.args in
    time_not_whole a.text.now a.number a.places c.sum_of-s.result c.sum_of-s.ensures.0 a.went c.if-s.false
