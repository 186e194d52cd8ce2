-- `reader::plain_bytes`.
use Rattle.reader.specs.Laws.{plain_front}
use Rattle.reader.proofs.plain_bytes.Goals as goal

pub returns : goal.returns
returns c = plain_front c.args.text.now c.make_plain.new.plain _ c.min-n.result c.min-n.ensures c.make_plain.ensures
