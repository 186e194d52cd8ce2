-- `plain::string_rest`: what is left to look through gives the whole.
use Rattle.std.specs.Prelude.{◌≡◌, ◌-◌, ◌≤◌}
use Rattle.common.specs.Words.{length, drop}
use Rattle.plain.specs.Plain.{string_by}
use Rattle.plain.proofs.string_rest.Given as goal

abbrev pub invariant-loop-i : goal.invariant-loop-i
invariant-loop-i l = (string_by (l.i - l.at) l.ended (drop l.i l.text) ≡ string_by 0 0 (drop l.at l.text)) × (l.at ≤ l.i)

abbrev pub decreases-loop-i : goal.decreases-loop-i
decreases-loop-i l = length l.text - l.i
