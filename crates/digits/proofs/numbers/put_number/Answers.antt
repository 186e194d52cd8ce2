-- `digits::numbers::put_number`: a turn writes the last byte of what is left.
use Rattle.std.specs.Prelude.{◌≡◌}
use Rattle.common.specs.Words.{sym, ap, ◌∙◌, arith, length, length-sets, rules}
use Rattle.digits.specs.NumberLaws.{write_none, write_more}
use Rattle.digits.proofs.numbers.put_number.Goals as goal

pub loop-k-preserved : goal.loop-k-preserved
loop-k-preserved c =
    let l = c.loop-k in
    let e = c.put_byte.ensures in (
      ap length e ∙ simp length-sets l.invariant.0,
      rw (e, c.low_byte.ensures) (write_more l.out c.args.at l.k l.rest (search rules) ∙ l.invariant.1),
    )

pub returns : goal.returns
returns c =
    let l = c.loop-k in
    let e : l.k ≡ 0 = omega arith in
    sym (write_none l.out _ l.rest) ∙ rw e at l.invariant.1
