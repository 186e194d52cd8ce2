-- `texts::pieces`: what is left to read says what the whole does.
use Rattle.std.specs.Prelude.{◌≡◌}
use Rattle.common.specs.Words.{length}
use Rattle.steps.specs.Lifted.{lift, size}
use Rattle.rows.specs.States.{state_of, does}
use Rattle.texts.specs.Texts.{pieces}
use Rattle.texts.proofs.pieces.Given as goal

abbrev pub invariant-loop-rows : goal.invariant-loop-rows
invariant-loop-rows l = (does (state_of l.text l.r l.rows) pieces ≡ does (state_of l.text l.initial.r l.initial.rows) pieces)
    × (length l.rows ≡ length l.initial.rows)

abbrev pub decreases-loop-rows : goal.decreases-loop-rows
decreases-loop-rows l = size (lift l.text l.r.went)
