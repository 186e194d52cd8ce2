-- `links::connections`: what is left to read says what the whole does.
use Rattle.common.specs.Words.{rules, refl, ap, ◌∙◌}
use Rattle.steps.specs.Laws.{kind_on, kind_off}
use Rattle.rows.specs.States.{State, state_of}
use Rattle.rows.specs.Laws.{advances_on, repeat_on, repeat_off, repeat_less}
use Rattle.links.specs.Links.{connection_kind, connection, connections}
use Rattle.links.specs.Laws.{connection_moves}
use Rattle.links.proofs.connections.Invariants.{begins}
use Rattle.links.proofs.connections.Goals as goal

pub loop-rows-init : goal.loop-rows-init
unfolding connections
loop-rows-init c = (refl, refl)

pub loop-rows-smaller : goal.loop-rows-smaller
unfolding connections connection_kind
loop-rows-smaller c =
    let a = c.args in
    let o = a.process in let s = state_of a.text.now c.loop-rows.r c.loop-rows.rows in
    rw (ap (λ (x : State). x.went) c.connection-r.ensures)
    (repeat_less begins (connection o) (advances_on begins (connection o) (connection_moves o)) s
    (kind_on connection_kind s.went refl (rw (← c.next_of.ensures, ← c.begins_connection.ensures) c.loop-rows-test.true)))

pub loop-rows-preserved : goal.loop-rows-preserved
unfolding connections connection_kind
loop-rows-preserved c =
    let a = c.args in
    let o = a.process in let s = state_of a.text.now c.loop-rows.r c.loop-rows.rows in (
      rw c.connection-r.ensures
          (repeat_on begins (connection o) (advances_on begins (connection o) (connection_moves o)) s
          (kind_on connection_kind s.went refl (rw (← c.next_of.ensures, ← c.begins_connection.ensures)
          c.loop-rows-test.true))
          ∙ c.loop-rows.invariant.0),
      search rules,
    )

pub shape_of-rows : goal.shape_of-rows
unfolding connections
shape_of-rows c = c.loop-rows.invariant.1

pub returns : goal.returns
unfolding connections
returns c =
    let a = c.args in
    let o = a.process in let s = state_of a.text.now c.loop-rows.r c.loop-rows.rows in
    repeat_off begins (connection o) (advances_on begins (connection o) (connection_moves o)) s
    (kind_off connection_kind s.went (rw (← c.next_of.ensures, ← c.begins_connection.ensures) c.loop-rows-test.false))
    ∙ c.loop-rows.invariant.0
