-- `Lanes::stir_name`: what is left of the name gives the whole.
use Rattle.std.specs.Prelude.{◌≡◌}
use Rattle.keys.specs.Keys.{spelled, Below, named}
use Rattle.keys.proofs.Lanes.stir_name.Given as goal

abbrev pub invariant-loop-i : goal.invariant-loop-i
invariant-loop-i l = (named l.lanes (spelled l.text l.i) ≡ named l.initial.lanes (spelled l.text l.at)) × Below l.lanes
