-- `start::started`: rule 7, and then by the verdict on 8.
use Rattle.common.specs.Words.{refl, sym}
use Rattle.std.proofs.lemmas.Result.{err_from_is_err_and}
use Rattle.common.specs.Tests.{as_tested}
use Rattle.plan.specs.Refusals.{unnamed}
use Rattle.plan.specs.declared.refusal.Rule.TheVariants.{UnsoundPlan}
use Rattle.judge.specs.Taken.{slots_end, slots_fit, ground_clear}
use Rattle.running.specs.Outcomes.{started_refused, started_clear}
use Rattle.running.proofs.start.started.Goals as goal

pub returns-then-not-sound : goal.returns-then-not-sound
returns-then-not-sound c =
    let a = c.args in
    let o = started_refused a.plan a.memory.now (unnamed UnsoundPlan) refl (rw (as_tested c.sound.ensures c.if-not-sound.true)) in
    rw c.unnamed.ensures (sym o.0, sym o.1)

pub returns-in_err-judge_start : goal.returns-in_err-judge_start
returns-in_err-judge_start c =
    let o = started_refused c.args.plan c.args.memory.now _ c.judge_start.ensures c.in_err-judge_start.was in
    let e = err_from_is_err_and c.from_residual.result c.from_residual.ensures.1 in
    rw (e.1, e.2) (sym o.0, sym o.1)

pub slots_of-requires : goal.slots_of-requires
slots_of-requires c =
    slots_fit (ground_clear c.args.plan c.args.memory.now c.judge_start.ensures c.in_ok-judge_start.was).sound

pub clear-requires : goal.clear-requires
clear-requires c =
    let g = ground_clear c.args.plan c.args.memory.now c.judge_start.ensures c.in_ok-judge_start.was in
    rw (c.slots_of.ensures, slots_end g.sound) g.room

pub returns : goal.returns
returns c =
    let g = ground_clear c.args.plan c.args.memory.now c.judge_start.ensures c.in_ok-judge_start.was in
    let o = started_clear c.args.plan c.args.memory.now c.judge_start.ensures c.in_ok-judge_start.was in
    rw (c.clear.ensures, c.slots_of.ensures, slots_end g.sound) (sym o.0, sym o.1)
