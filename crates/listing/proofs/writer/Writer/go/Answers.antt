-- `listing::writer::Writer::go`: a line of one number.
use Rattle.digits.specs.Numbers.{in_bytes}
use Rattle.listing.specs.Writer.{put_line}
use Rattle.listing.proofs.writer.Writer.go.Goals as goal

pub returns : goal.returns
unfolding in_bytes
returns c = put_line _ c.number.ensures.put c.end_line.ensures
