-- `digits::hex::decode_pairs`: a turn decodes one pair more.
use Rattle.common.specs.Words.{arith}
use Rattle.digits.specs.HexLaws.{passed_none, passed_more, passed_all}
use Rattle.digits.proofs.hex.decode_pairs.Goals as goal

pub loop-k-init : goal.loop-k-init
loop-k-init c = passed_none _ _

pub loop-k-preserved : goal.loop-k-preserved
loop-k-preserved c =
    let l = c.loop-k in
    passed_more c.args.line.now c.args.bytes.now l.bytes l.k l.bits l.invariant _ _ _
    c.value_of-high.ensures c.value_of-low.ensures c.byte_of.ensures

pub returns : goal.returns
returns c =
    let l = c.loop-k in
    passed_all c.args.line.now c.args.bytes.now l.bytes l.k l.bits l.invariant c.args.n (omega arith)
