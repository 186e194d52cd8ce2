-- `judge_start`: line 8 of a sound plan.
use Rattle.std.specs.Prelude.{◌≡◌}
use Rattle.common.specs.Words.{arith, ◌∙◌}
use Rattle.common.specs.Tests.{tests}
use Rattle.plan.specs.Plan.{slots_of}
use Rattle.plan.specs.Sound.{sound_iff}
use Rattle.judge.specs.Taken.{slots_fit, slots_end}
use Rattle.judge.proofs.judge_start.Goals as goal

pub slots_of-requires : goal.slots_of-requires
slots_of-requires c = slots_fit ((sound_iff _).0 c.requires)

pub overflow_mul-slots_of : goal.overflow_mul-slots_of
overflow_mul-slots_of c = omega (arith, slots_fit ((sound_iff _).0 c.requires), c.slots_of.ensures)

pub returns-then-memory-slots_of : goal.returns-then-memory-slots_of
returns-then-memory-slots_of c =
    let n : c.slots_of.result ≡ slots_of c.args.plan.now = c.slots_of.ensures ∙ slots_end ((sound_iff _).0 c.requires) in
    search (tests, c.requires, ← n)

pub returns : goal.returns
returns c =
    let n : c.slots_of.result ≡ slots_of c.args.plan.now = c.slots_of.ensures ∙ slots_end ((sound_iff _).0 c.requires) in
    search (tests, c.requires, ← n)
