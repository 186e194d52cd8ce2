-- `kit::figure`: its own, or what stands in its place.
use Rattle.common.specs.Words.{ap, ◌∙◌}
use Rattle.index.specs.Options.{said_some, said_none, value_or_none}
use Rattle.kit.specs.Kit.{said_by, figure_of}
use Rattle.kit.proofs.figure.Goals as goal

pub returns-in-Some : goal.returns-in-Some
unfolding figure_of
returns-in-Some c = c.said_by.ensures ∙ ap said_by (said_some _ _ c.in-Some.ensures)

pub returns-in-None : goal.returns-in-None
unfolding figure_of
returns-in-None c =
    let instead = rw (c.property_of-instead.ensures, value_or_none, c.instead_of.ensures.0) at c.unwrap_or.ensures in
    c.said_by-in-None.ensures ∙ ap said_by (instead ∙ said_none _ _ c.in-None.ensures)
