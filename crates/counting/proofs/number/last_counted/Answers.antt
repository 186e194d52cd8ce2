-- `number::last_counted`: by whether the row goes after the task.
use Rattle.std.specs.Prelude.{◌+◌, ◌≡◌}
use Rattle.std.specs.Int.{from_bool}
use Rattle.common.specs.Words.{ℕ, arith, Bool, true, false, not, cond}
use Rattle.counting.proofs.number.last_counted.Goals as goal

one_more : (b : ℕ) (later : Bool) → b + from_bool (not later) ≡ cond later b (b + 1)
one_more b true = omega arith
one_more b false = omega arith

pub returns : goal.returns
returns c q own other = rw (c.from.ensures, ← c.precedes.ensures q own other) (one_more c.args.before.0 c.precedes.result)
