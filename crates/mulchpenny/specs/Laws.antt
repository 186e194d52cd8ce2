-- The calls of feed on a block, one after another, come to what Block.antt says. Leans on feed's fold over a block.
use Rattle.std.specs.Prelude.{◌+◌, ◌<◌, ◌≤◌, ◌∷◌, ◌++◌, ◌≡◌}
use Rattle.common.specs.Words.{ℕ, arith, List, [], refl, sym, length, take, drop, length-take-le, take-append-add}
use Rattle.std.proofs.Common.{take-append-drop}
use Rattle.feed.specs.Answers.{Console, console_of, console_after, answers_to}
use Rattle.feed.specs.Feed.{Feeding}
use Rattle.feed.specs.Outcome.{fed_from, Outcome}
use Rattle.feed.specs.Session.{answered_append, feed_answered}
use Rattle.feed.specs.declared.Fed.{Fed}
use Rattle.lines.specs.Lines.{line_feed, fed}
use Rattle.lines.specs.Whole.{end_fed}
use Rattle.lines.specs.declared.Carry.{Carry}
use Rattle.lines.specs.Carried.{carried}
use Rattle.desk.specs.declared.Desk.{Desk}
use Rattle.blocks.specs.declared.Stream.{Stream}
use Rattle.mulchpenny.specs.Block.{Comes, BlockGives, LastGives}

pub comes_none : (w : Console) (c piece : List ℕ) → Comes w c (take 0 piece) w c
unfolding console_after fed
comes_none w c piece = record { console = refl; carried = refl }

take_on : (xs : List ℕ) (i n : ℕ) → i ≤ length xs → take i xs ++ take n (drop i xs) ≡ take (i + n) xs
take_on xs i n h =
    let e : length (take i xs) ≡ i = length-take-le i xs h in
    sym (rw (e, take-append-drop i xs) at (take-append-add (take i xs) (drop i xs) n))

-- a call of feed goes on from where the block was left
pub comes_on :
    {w : Console} {c : List ℕ} (v : Console) (carry piece : List ℕ) (at : ℕ)
    (out : List ℕ) {out₀ : List ℕ} {r : Fed} {d : Desk} {m : List ℕ}
    (k : Carry) {o : List ℕ} → at ≤ length piece → Comes w c (take at piece) v carry →
    Outcome (fed_from v carry piece at out) piece at out₀ r d m k o → Comes w c (take r.next piece) (console_of d m) (carried k)
comes_on {w} {c} v carry piece at out k i a f =
    let g = fed_from v carry piece at out in
    let before : Feeding = record { console = v; carry = carry; taken = at; answers = answers_to w (fed c (take at piece)).lines } in
    let b = answered_append w c (take at piece) (take g.taken (drop at piece)) before g
    (record { console = a.console; answers = refl; carry = a.carried }) (feed_answered v carry (drop at piece) (length out)) in
    let e = take_on piece at g.taken i in
    rw (f.carry_is, f.desk_is, f.memory_is, f.result) (record { console = rw e at b.console; carried = rw e at b.carry })

-- the end of a line as a block is all used, so it is one line more
pub last_block : {w : Console} {c : List ℕ} {at : ℕ} {w' : Console} {carry : List ℕ} {s : Stream} → 0 < length c →
    BlockGives w c (line_feed ∷ []) at w' carry s → LastGives w c w' carry
last_block {w} {c} {at} l b =
    let n : at ≡ 1 = omega (arith, b.inside, b.moves (omega arith)) in
    record { console = rw (n, end_fed c l) at b.comes.console; nothing_left = rw (n, end_fed c l) at b.comes.carried }
