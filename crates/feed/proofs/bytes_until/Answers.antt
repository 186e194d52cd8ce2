-- `feed::bytes_until`: the line where it stands is the cut of the carry and of what the block has of it.
use Rattle.std.specs.Prelude.{◌++◌, ◌≡◌, ◌-◌}
use Rattle.common.specs.Words.{arith, ap, ◌∙◌, length, take}
use Rattle.common.specs.Stores.{part}
use Rattle.console.specs.Framing.{framed_bytes}
use Rattle.lines.specs.Lines.{cut}
use Rattle.lines.specs.Held.{line_of, line_is, joined_le, joined_length}
use Rattle.feed.proofs.bytes_until.Goals as goal

pub line_of-line-requires : goal.line_of-line-requires
line_of-line-requires c =
    let a = c.args in
    let xs = part a.piece.now a.at (a.end - a.at) in
    omega (arith, c.join-n.ensures.0, ap length c.join-n.ensures.1, joined_le a.used.now xs, joined_length a.held.now a.used.now xs)

pub returns-clause-bytes : goal.returns-clause-bytes
returns-clause-bytes c =
    let a = c.args in
    let xs = part a.piece.now a.at (a.end - a.at) in
    let joins : line_of c.join-n.new.held c.join-n.result xs ≡ cut (take a.used.now a.held.now ++ xs) =
    rw (c.join-n.ensures.0, c.join-n.ensures.1) (line_is a.held.now a.used.now xs c.requires.0 c.requires.1) in
    c.bytes_in.ensures.1 ∙ ap framed_bytes (c.line_of-line.ensures.0 ∙ joins)
