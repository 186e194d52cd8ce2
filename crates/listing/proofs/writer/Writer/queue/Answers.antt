-- `listing::writer::Writer::queue`: a line of three numbers.
use Rattle.listing.specs.Lines.{queue_bytes}
use Rattle.listing.specs.Writer.{put_line, put_digits}
use Rattle.listing.proofs.writer.Writer.queue.Goals as goal

pub returns : goal.returns
unfolding queue_bytes
returns c = put_line _ (put_digits _ _ c.number.ensures.put (put_digits _ _ c.number-2.ensures.put c.number-3.ensures.put)) c.end_line.ensures
