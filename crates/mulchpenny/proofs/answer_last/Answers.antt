-- `mulchpenny::answer_last`: where no byte of a line came there is no line, and else its end is a block (`last_block`).
use Rattle.common.specs.Words.{arith, refl, length-take-le}
use Rattle.feed.specs.Answers.{console_after}
use Rattle.mulchpenny.specs.Laws.{last_block}
use Rattle.mulchpenny.proofs.answer_last.Goals as goal

pub returns-then-carry-eq0 : goal.returns-then-carry-eq0
unfolding console_after
returns-then-carry-eq0 c = rw c.if-carry-eq0.true (record { console = refl; nothing_left = refl })

pub returns : goal.returns
returns c =
    let k = c.args.carry.now in
    let n = length-take-le k.used k.held (omega (arith, k.within, k.room)) in
    last_block (rw n (omega (arith, c.if-carry-eq0.false))) c.answer_block.ensures.block_gives
