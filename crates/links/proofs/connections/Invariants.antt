-- `links::connections`: what is left to read says what the whole does.
use Rattle.std.specs.Prelude.{◌≡◌}
use Rattle.common.specs.Words.{Bool, List, length}
use Rattle.tokens.specs.Tokens.{Token}
use Rattle.steps.specs.Steps.{next}
use Rattle.steps.specs.Lifted.{lift, size}
use Rattle.rows.specs.Said.{repeat}
use Rattle.rows.specs.States.{state_of, does}
use Rattle.links.specs.Links.{connection_kind, connection}
use Rattle.links.proofs.connections.Given as goal

abbrev pub begins : List Token → Bool
begins ts = connection_kind (next ts)

abbrev pub invariant-loop-rows : goal.invariant-loop-rows
invariant-loop-rows l = (does (state_of l.text l.r l.rows) (repeat begins (connection l.process))
    ≡ does (state_of l.text l.initial.r l.initial.rows) (repeat begins (connection l.process))) × (length l.rows ≡ length l.initial.rows)

abbrev pub decreases-loop-rows : goal.decreases-loop-rows
decreases-loop-rows l = size (lift l.text l.r.went)
