-- `features::port_head`.
use Rattle.steps.specs.Lifted.{lift}
use Rattle.features.specs.Laws.{head_then}
use Rattle.features.proofs.port_head.Goals as goal

pub returns : goal.returns
returns c =
    let a = c.args in
    rw (c.maybe_classifier.ensures, c.port_kind.ensures, c.direction.ensures) (head_then (lift a.text.now a.went))
