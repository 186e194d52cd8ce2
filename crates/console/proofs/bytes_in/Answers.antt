-- `console::bytes_in`: what decoding found.
use Rattle.console.specs.Framing.{framed}
use Rattle.console.proofs.bytes_in.Goals as goal

pub returns : goal.returns
returns c = rw c.unwrap_or.ensures (framed c.args.line.now c.args.bytes.now c.decode.result _ c.decode.ensures c.requires)
