-- `feed::feed_held`: the lines that end in the block take their turns. Both arms start from the frame of a line, and show only that what
-- they did is the turn of the line's bytes; that the loop goes on from there is said once for both.
use Rattle.std.specs.Prelude.{◌-◌, ◌≤◌}
use Rattle.common.specs.Words.{arith, refl, sym, ◌∙◌, length, take}
use borrow.Rule.Slice.PartMut.{mid_of}
use Rattle.desk.specs.Desk.{with_state}
use Rattle.console.specs.CallLines.{call_taken, table_taken}
use Rattle.window.specs.Window.{remembers_nothing}
use Rattle.lines.specs.Ends.{end_past}
use Rattle.feed.specs.Feed.{enough}
use Rattle.feed.specs.Step.{part_rest, room_of}
use Rattle.feed.specs.Turns.{Turned, underway_first, turn_short, turn_tail, turn_step, turn_fits}
use Rattle.feed.proofs.feed_held.Goals as goal

pub loop-out-init : goal.loop-out-init
loop-out-init c =
    let a = c.args in
    let p = c.requires in (
      underway_first a.piece.now a.from a.memory.now a.held.now a.out.now a.desk.now a.used.now p.2 p.0 p.1 p.3,
      remembers_nothing a.desk.now.plan,
      refl,
      refl,
    )

-- no line ends
pub returns-then-piece-e-clause-outcome : goal.returns-then-piece-e-clause-outcome
returns-then-piece-e-clause-outcome c =
    let l = c.loop-out in
    let rest = part_rest c.args.piece.now l.at in
    rw c.end_of-e.ensures
    (turn_tail l.invariant.0 (rw rest at c.keep.ensures.0) (rw rest at c.keep.ensures.1) c.loop-out-test.true
    (rw c.end_of-e.ensures at c.if-piece-e.true))

pub bytes_until-n-requires : goal.bytes_until-n-requires
bytes_until-n-requires c =
    let l = c.loop-out.invariant in
    let p = end_past c.args.piece.now c.loop-out.at in
    (l.0.used_fits, l.0.held_fits, omega (arith, c.end_of-e.ensures, p), omega arith, omega (arith, l.2))

-- ## A call: 04, 05, or a frame that means nothing
pub call_line-done-requires : goal.call_line-done-requires
call_line-done-requires c =
    let l = c.loop-out in
    let r : enough ≤ length (mid_of l.w (length l.out - l.w) l.out) = omega (arith, room_of l.out l.w, c.loop-out-test.true) in
    (λ runs. sym (l.invariant.0.sound.sound runs), r, l.invariant.1)

pub overflow_add-w : goal.overflow_add-w
overflow_add-w c =
    let l = c.loop-out in
    let t = call_taken l.desk l.memory _ _ c.frame_of-frame.ensures c.is_call.ensures c.payload_in.ensures.0 c.if-is_call.true
    c.call_line-done.ensures.0 in
    omega (arith, turn_fits l.desk l.memory _ _ c.bytes_until-n.ensures.bytes t, c.loop-out-test.true)

pub loop-out-smaller-then-is_call : goal.loop-out-smaller-then-is_call
loop-out-smaller-then-is_call c =
    let p = end_past c.args.piece.now c.loop-out.at in
    omega (arith, c.if-piece-e.false, c.end_of-e.ensures, p)

pub loop-out-preserved-then-is_call : goal.loop-out-preserved-then-is_call
unfolding with_state
loop-out-preserved-then-is_call c =
    let l = c.loop-out in
    let x : Turned l.desk l.memory (take c.bytes_until-n.result c.bytes_until-n.new.bytes) l.out l.w =
    record {
      desk' = with_state l.desk c.call_line-done.new.state;
      written = c.call_line-done.result.written;
      memory' = c.call_line-done.new.memory;
      rest' = c.call_line-done.new.out;
      takes =
          call_taken l.desk _ _ _ c.frame_of-frame.ensures c.is_call.ensures
          c.payload_in.ensures.0 c.if-is_call.true c.call_line-done.ensures.0;
    } in
    let s = turn_step l.invariant.0 x _ c.loop-out-test.true c.end_of-e.ensures c.if-piece-e.false c.bytes_until-n.ensures.bytes refl
    (omega (arith, c.bytes_until-n.auto.held, l.invariant.0.held_fits)) c.bytes_until-n.ensures.emptied in (
      s,
      c.call_line-done.ensures.1,
      c.bytes_until-n.auto.bytes ∙ l.invariant.2,
      c.bytes_until-n.auto.held ∙ l.invariant.3,
    )

-- ## A frame that changes the desk as a whole
pub set_table-written-requires : goal.set_table-written-requires
set_table-written-requires c =
    let l = c.loop-out in
    let r : enough ≤ length (mid_of l.w (length l.out - l.w) l.out) = omega (arith, room_of l.out l.w, c.loop-out-test.true) in
    r

pub overflow_add-w-else-is_call : goal.overflow_add-w-else-is_call
overflow_add-w-else-is_call c =
    let l = c.loop-out in
    let t = table_taken l.desk l.memory _ _ c.frame_of-frame.ensures c.is_call.ensures c.if-is_call.false c.set_table-written.ensures in
    omega (arith, turn_fits l.desk l.memory _ _ c.bytes_until-n.ensures.bytes t, c.loop-out-test.true)

pub loop-out-smaller : goal.loop-out-smaller
loop-out-smaller c =
    let p = end_past c.args.piece.now c.loop-out.at in
    omega (arith, c.if-piece-e.false, c.end_of-e.ensures, p)

pub loop-out-preserved : goal.loop-out-preserved
loop-out-preserved c =
    let l = c.loop-out in
    let x : Turned l.desk l.memory (take c.bytes_until-n.result c.bytes_until-n.new.bytes) l.out l.w =
    record {
      desk' = c.set_table-written.new.desk;
      written = c.set_table-written.result;
      memory' = c.set_table-written.new.memory;
      rest' = c.set_table-written.new.out;
      takes = table_taken l.desk _ _ _ c.frame_of-frame.ensures c.is_call.ensures c.if-is_call.false c.set_table-written.ensures;
    } in
    let s = turn_step l.invariant.0 x _ c.loop-out-test.true c.end_of-e.ensures c.if-piece-e.false c.bytes_until-n.ensures.bytes refl
    (omega (arith, c.bytes_until-n.auto.held, l.invariant.0.held_fits)) c.bytes_until-n.ensures.emptied in (
      s,
      remembers_nothing c.set_table-written.new.desk.plan,
      c.bytes_until-n.auto.bytes ∙ l.invariant.2,
      c.bytes_until-n.auto.held ∙ l.invariant.3,
    )

-- ## The room is short
pub returns-clause-outcome : goal.returns-clause-outcome
returns-clause-outcome c = turn_short c.loop-out.invariant.0 c.loop-out-test.false
