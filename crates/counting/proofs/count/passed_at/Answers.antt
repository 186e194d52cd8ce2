-- `count::passed_at`: the definition's two cases; what is left of a period is the way to the next deadline.
use Rattle.std.specs.Prelude.{◌-◌}
use Rattle.common.specs.Words.{div-add-mod', mod-lt, arith, sym}
use Rattle.model.proofs.Count.{count_before, count_from}
use Rattle.counting.proofs.count.passed_at.Goals as goal

pub returns-then-at-deadline : goal.returns-then-at-deadline
returns-then-at-deadline c =
    (sym (count_before _ _ _ c.if-at-deadline.true), omega arith, omega arith)

pub returns : goal.returns
returns c =
    let m = mod-lt (c.args.at.0 - c.args.deadline) c.requires.0 in
    (sym (count_from _ _ _ (omega arith)), omega (arith, m, div-add-mod' (c.args.at.0 - c.args.deadline) c.args.period), omega (arith, m))
