-- `texts::parts`: what is left to read says what the whole does.
use Rattle.std.specs.Prelude.{◌≡◌}
use Rattle.common.specs.Words.{length}
use Rattle.steps.specs.Lifted.{lift, size}
use Rattle.rows.specs.States.{state_of, does}
use Rattle.texts.specs.Texts.{parts}
use Rattle.texts.proofs.parts.Given as goal

abbrev pub invariant-loop-rows : goal.invariant-loop-rows
invariant-loop-rows l = (does (state_of l.text l.r l.rows) parts ≡ does (state_of l.text l.initial.r l.initial.rows) parts)
    × (length l.rows ≡ length l.initial.rows)

abbrev pub decreases-loop-rows : goal.decreases-loop-rows
decreases-loop-rows l = size (lift l.text l.r.went)
