-- `declarations::sections`: what is left to read says what the whole does.
use Rattle.rows.specs.Rows.{begun_by}
use Rattle.std.specs.Prelude.{◌≡◌}
use Rattle.common.specs.Words.{length}
use Rattle.steps.specs.Lifted.{lift, size}
use Rattle.rows.specs.Said.{repeat}
use Rattle.rows.specs.States.{state_of, does}
use Rattle.declarations.specs.Sections.{begins, section}
use Rattle.declarations.proofs.sections.Given as goal

abbrev pub invariant-loop-of : goal.invariant-loop-of
invariant-loop-of l =
    (does (state_of l.text l.r l.rows) (repeat (begins (begun_by l.of)) (section (begun_by l.of) l.place))
    ≡ does (state_of l.text l.initial.r l.initial.rows) (repeat (begins (begun_by l.of)) (section (begun_by l.of) l.place)))
    × (length l.rows ≡ length l.initial.rows)

abbrev pub decreases-loop-of : goal.decreases-loop-of
decreases-loop-of l = size (lift l.text l.r.went)
