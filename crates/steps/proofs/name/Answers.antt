-- `steps::name`.
use Rattle.common.specs.Words.{sym, ◌∙◌}
use Rattle.words.specs.Same.{name_there}
use Rattle.steps.specs.Spotted.{any_on, name_off, name_on}
use Rattle.steps.proofs.name.Goals as goal

pub returns-then-not-is_name : goal.returns-then-not-is_name
returns-then-not-is_name c =
    rw (c.in_ok-at.was, c.unfit.ensures)
    (name_off _ _ c.spot_at-spot.result c.spot_at-spot.ensures (sym c.is_name.ensures ∙ c.if-not-is_name.true))

pub returns : goal.returns
returns c =
    let s = c.spot_at-spot in
    let n = sym c.is_name.ensures ∙ c.if-not-is_name.false in
    rw c.in_ok-at.was
    (any_on _ _ s.result s.ensures (name_there s.result.kind n) ∙ name_on _ _ s.result s.ensures n)
