-- `kit::place_of`: where it was found, and behind the rows where it was not.
use Rattle.std.specs.Prelude.{◌≡◌}
use Rattle.common.specs.Words.{rules, length, ◌∙◌}
use Rattle.kit.specs.Laws.{nowhere, place_among}
use Rattle.kit.proofs.place_of.Goals as goal

pub returns-in_default : goal.returns-in_default
returns-in_default c =
    let l : 16 ≡ length c.args.rows.now = search rules in
    rw c.in_default.is (l ∙ nowhere c.args.rows.now)

pub returns : goal.returns
returns c =
    let l : 16 ≡ length c.args.rows.now = search rules in
    rw c.in-Some.is (rw (c.first_place.ensures, l) at c.unwrap_or.ensures ∙ place_among c.in-Some.row c.args.rows.now)
