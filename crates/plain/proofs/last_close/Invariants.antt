-- `plain::last_close`: what is left to look through, from the end on, gives the whole.
use Rattle.std.specs.Prelude.{◌≡◌}
use Rattle.common.specs.Words.{length}
use Rattle.plain.specs.Close.{last_by}
use Rattle.plain.proofs.last_close.Given as goal

abbrev pub invariant-loop-i : goal.invariant-loop-i
invariant-loop-i l = last_by l.text l.i ≡ last_by l.text (length l.text)
