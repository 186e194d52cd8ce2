-- `sizing::needs::between`: a count does not fall as ticks go on.
use Rattle.common.specs.Words.{arith}
use Rattle.model.proofs.Count.{count_mono}
use Rattle.sizing.proofs.needs.between.Goals as goal

pub overflow_sub-result : goal.overflow_sub-result
overflow_sub-result c =
    let a = c.args in
    omega (arith, c.count-2.ensures, c.count.ensures, count_mono a.period a.deadline c.requires.0 a.from.0 a.to.0 c.requires.2)
