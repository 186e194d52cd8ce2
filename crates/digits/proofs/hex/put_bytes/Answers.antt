-- `digits::hex::put_bytes`: a turn writes the digits of one byte more.
use Rattle.common.specs.Words.{refl, ap, ◌∙◌, length, take_all, length-sets, rules}
use Rattle.digits.specs.Hex.{digits}
use Rattle.digits.specs.HexLaws.{digits_more}
use Rattle.digits.proofs.hex.put_bytes.Goals as goal

pub loop-k-init : goal.loop-k-init
unfolding digits
loop-k-init c = (refl, refl)

pub loop-k-preserved : goal.loop-k-preserved
loop-k-preserved c =
    let l = c.loop-k in
    let e = c.put_byte.ensures in (
      ap length e ∙ simp length-sets l.invariant.0,
      rw (e, l.invariant.1) (digits_more c.args.bytes.now c.args.out.now c.args.at l.k (search rules)),
    )

pub returns : goal.returns
returns c =
    let l = c.loop-k in
    rw (take_all l.k c.args.bytes.now (search rules)) at l.invariant.1
