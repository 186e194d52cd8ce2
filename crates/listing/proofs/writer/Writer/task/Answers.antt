-- `listing::writer::Writer::task`: a line of four numbers.
use Rattle.listing.specs.Lines.{task_bytes}
use Rattle.listing.specs.Writer.{put_line, put_digits}
use Rattle.listing.proofs.writer.Writer.task.Goals as goal

pub returns : goal.returns
unfolding task_bytes
returns c =
    let priority = rw c.from.ensures at c.number-4.ensures.put in
    put_line _ (put_digits _ _ c.number.ensures.put (put_digits _ _ c.number-2.ensures.put (put_digits _ _ c.number-3.ensures.put priority)))
    c.end_line.ensures
