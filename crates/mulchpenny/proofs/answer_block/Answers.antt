-- `mulchpenny::answer_block`: each call of `feed` goes on where the block was left (`comes_on`) and uses at least one byte
-- (`next_moves`), so the loop ends, and it ends at the block's end unless a write failed.
use Rattle.std.specs.Prelude.{◌<◌}
use Rattle.common.specs.Words.{arith, true≢false, sym, ◌∙◌}
use Rattle.blocks.specs.Laws.{gone_none, gone_on}
use Rattle.feed.specs.Answers.{console_of}
use Rattle.feed.specs.Session.{next_moves}
use Rattle.lines.specs.Carried.{carried}
use Rattle.mulchpenny.specs.Laws.{comes_none, comes_on}
use Rattle.mulchpenny.proofs.answer_block.Goals as goal

pub loop-at-init : goal.loop-at-init
loop-at-init c =
    let a = c.args in
    record {
      inside = omega arith;
      sound = c.requires.1;
      gone = gone_none a.stream.now;
      comes = comes_none (console_of a.desk.now a.memory.now) (carried a.carry.now) a.piece.now;
    }

-- a write failed
pub returns-then-not-goes_on : goal.returns-then-not-goes_on
returns-then-not-goes_on c =
    let l = c.loop-at in
    let o = c.feed-fed.ensures.outcome in
    let v = console_of l.desk l.memory in
    let moves : l.at < c.feed-fed.result.next =
    next_moves v (carried l.carry) c.args.piece.now l.at l.out l.out _ _ _ c.feed-fed.new.carry _ o (omega arith) c.loop-at-test.true in
    record {
      block_gives =
          record {
            inside = o.next_fits;
            comes = comes_on v (carried l.carry) c.args.piece.now l.at l.out c.feed-fed.new.carry l.invariant.inside l.invariant.comes o;
            whole = λ e. absurd (true≢false (sym e ∙ sym c.goes_on.ensures ∙ c.if-not-goes_on.true));
            moves = λ e. omega (arith, moves);
          };
      goes_on = (c.feed-fed.ensures.sound_desk, gone_on l.invariant.gone c.write_answers.ensures);
    }

pub loop-at-smaller : goal.loop-at-smaller
loop-at-smaller c =
    let l = c.loop-at in
    let moves : l.at < c.feed-fed.result.next =
    next_moves (console_of l.desk l.memory) (carried l.carry) c.args.piece.now l.at l.out l.out _ _ _ c.feed-fed.new.carry _
    c.feed-fed.ensures.outcome (omega arith) c.loop-at-test.true in
    omega (arith, moves, c.loop-at-test.true)

pub loop-at-preserved : goal.loop-at-preserved
loop-at-preserved c =
    let l = c.loop-at in
    let o = c.feed-fed.ensures.outcome in
    record {
      inside = o.next_fits;
      sound = c.feed-fed.ensures.sound_desk;
      gone = gone_on l.invariant.gone c.write_answers.ensures;
      comes =
          comes_on (console_of l.desk l.memory) (carried l.carry) c.args.piece.now l.at l.out c.feed-fed.new.carry l.invariant.inside
          l.invariant.comes o;
    }

-- the block is used up
pub returns : goal.returns
returns c =
    let i = c.loop-at.invariant in
    record {
      block_gives =
          record {
            inside = i.inside;
            comes = i.comes;
            whole = λ e. omega (arith, i.inside, c.loop-at-test.false);
            moves = λ e. omega (arith, e, c.loop-at-test.false);
          };
      goes_on = (i.sound, i.gone);
    }
