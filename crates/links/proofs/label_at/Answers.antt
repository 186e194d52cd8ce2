-- `links::label_at`.
use Rattle.links.specs.Links.{label_in}
use Rattle.links.proofs.label_at.Goals as goal

pub returns-then-is_name : goal.returns-then-is_name
unfolding label_in
returns-then-is_name c =
    rw (c.start_of.ensures, ← c.next.ensures, ← c.is_name.ensures, c.if-is_name.true)

pub returns : goal.returns
unfolding label_in
returns c = rw (← c.next.ensures, ← c.is_name.ensures, c.if-is_name.false)
