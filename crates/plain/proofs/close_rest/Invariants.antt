-- `plain::close_rest`: what is left to look through gives the whole.
use Rattle.std.specs.Prelude.{◌≡◌, ◌+◌, ◌-◌}
use Rattle.common.specs.Words.{drop}
use Rattle.plain.specs.Plain.{close_by}
use Rattle.plain.proofs.close_rest.Given as goal

abbrev pub invariant-loop-i : goal.invariant-loop-i
invariant-loop-i l = close_by (l.i - l.at) (drop l.i l.text) ≡ close_by 2 (drop (l.at + 2) l.text)
