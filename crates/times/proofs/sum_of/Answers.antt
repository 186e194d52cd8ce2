-- `times::sum_of`: the sum of what is left, from the sum so far, is the whole.
use Rattle.std.specs.Prelude.{◌≡◌, ◌-◌}
use Rattle.common.specs.Words.{[], add-one, drop, drop-cons}
use Rattle.std.proofs.lemmas.List.{drop_all}
use Rattle.common.specs.Stores.{part}
use Rattle.times.specs.Times.{with_bytes}
use Rattle.times.proofs.sum_of.Goals as goal

pub loop-byte-preserved : goal.loop-byte-preserved
unfolding with_bytes
loop-byte-preserved c =
    let a = c.args in
    let l = c.loop-byte in
    let number = part a.text.now a.start (a.end - a.start) in
    let i = l.byte-index in
    (rw (c.with_byte-s.ensures.0, add-one i) (rw (drop-cons number i 0 c.loop-byte-test.true) at l.invariant.0), c.with_byte-s.ensures.1)

pub returns : goal.returns
unfolding with_bytes
returns c =
    let a = c.args in
    let l = c.loop-byte in
    let none : drop l.byte-index (part a.text.now a.start (a.end - a.start)) ≡ [] = drop_all _ _ c.loop-byte-test.false in
    (rw none at l.invariant.0, l.invariant.1)
