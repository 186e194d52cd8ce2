-- `listing::lines::write_unread`: a line of three numbers.
use Rattle.common.specs.Words.{arith, rules, zero-add}
use Rattle.findings.specs.Findings.{number_of}
use Rattle.listing.specs.Lines.{unread_bytes}
use Rattle.listing.specs.Laws.{numbers_length}
use Rattle.listing.specs.Writer.{put_line, put_digits}
use Rattle.listing.proofs.lines.write_unread.Goals as goal

pub returns : goal.returns
unfolding unread_bytes
returns c =
    let r = c.args.refusal in
    let rule = rw (c.from-2.ensures, c.from.ensures) at c.number-2.ensures.put in
    let line = put_line _ (put_digits _ _ c.number.ensures.put (put_digits _ _ rule c.number-3.ensures.put)) c.end_line.ensures in
    let long = numbers_length 1 1 4 0x7f (number_of r.rule) r.place in
    (omega (arith, line.behind, long), (rw zero-add at line.behind, search rules))
