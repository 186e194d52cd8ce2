-- `phrases::place`.
use Rattle.steps.specs.Lifted.{lift}
use Rattle.phrases.specs.Laws.{place_then}
use Rattle.phrases.proofs.place.Goals as goal

pub returns : goal.returns
returns c =
    let a = c.args in
    rw (c.dotted.ensures, c.name.ensures) (place_then (lift a.text.now a.went))
