-- `digits::numbers::value_at`: a turn takes in one byte more, and the number stays below 256 to the bytes read.
use Rattle.std.specs.Prelude.{ℕ, List, ◌≡◌, ◌<◌, ◌+◌, ◌-◌, get_or, length, take, drop}
use Rattle.common.specs.Words.{sym, arith, rules, length-take, get_or-take, get_or-drop}
use Rattle.digits.specs.NumberLaws.{value_none, value_more, below_more, below_word}
use Rattle.digits.proofs.numbers.value_at.Goals as goal

-- a byte of the part that is read
part_byte : (bytes : List ℕ) (at width k : ℕ) → k < length (take (at + width - at) (drop at bytes)) →
    (k < width) × (get_or (take (at + width - at) (drop at bytes)) k 0 ≡ get_or bytes (at + k) 0)
part_byte bytes at width k h =
    let l : k < at + width - at = omega (arith, length-take (at + width - at) (drop at bytes)) in
    (omega arith, rw (get_or-take, get_or-drop))

pub loop-byte-init : goal.loop-byte-init
loop-byte-init c = (sym (value_none _ _), search rules)

pub overflow_mul-n : goal.overflow_mul-n
overflow_mul-n c =
    let l = c.loop-byte in
    let p = part_byte c.args.bytes.now c.args.at c.args.width l.byte-index c.loop-byte-test.true in
    omega (arith, below_word l.n l.byte-index l.invariant.1 (omega (arith, p.0)))

pub overflow_add-n : goal.overflow_add-n
overflow_add-n c =
    let l = c.loop-byte in
    let p = part_byte c.args.bytes.now c.args.at c.args.width l.byte-index c.loop-byte-test.true in
    omega (arith, p.1, c.type_inv.bytes (c.args.at + l.byte-index), below_word l.n l.byte-index l.invariant.1 (omega (arith, p.0)))

pub loop-byte-preserved : goal.loop-byte-preserved
loop-byte-preserved c =
    let l = c.loop-byte in
    let a = c.args in
    let p = part_byte a.bytes.now a.at a.width l.byte-index c.loop-byte-test.true in (
      omega (arith, l.invariant.0, p.1, value_more a.bytes.now a.at l.byte-index),
      below_more l.n c.from.result l.byte-index l.invariant.1 (omega (arith, p.1, c.type_inv.bytes (a.at + l.byte-index))),
    )
