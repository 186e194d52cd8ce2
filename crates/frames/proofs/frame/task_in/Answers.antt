-- `frames::frame::task_in`: the length decides, and each has room for a period and a deadline.
use Rattle.std.specs.Prelude.{◌≤◌, ◌||◌, ◌≡◌}
use Rattle.common.specs.Words.{ℕ, arith, Bool, true, false, refl, eqb, eqb-true, length, rules}
use Rattle.common.specs.Tests.{as_tested}
use Rattle.frames.specs.Frames.{task_length}
use Rattle.frames.proofs.frame.task_in.Goals as goal

long : (n : ℕ) → task_length n ≡ true → 5 ≤ n
long n = go (eqb n 5) refl
  where
    go : (b : Bool) → eqb n 5 ≡ b → (b || eqb n 6) ≡ true → 5 ≤ n
    go true e h = omega (arith, eqb-true n 5 e)
    go false e h = omega (arith, eqb-true n 6 h)

pub returns-then-not-task_length : goal.returns-then-not-task_length
returns-then-not-task_length c = rw (as_tested c.task_length.ensures c.if-not-task_length.true)

pub value_at-period-requires : goal.value_at-period-requires
value_at-period-requires c =
    let l = long (length c.args.bytes.now) (as_tested c.task_length.ensures c.if-not-task_length.false) in search rules

pub value_at-deadline-requires : goal.value_at-deadline-requires
value_at-deadline-requires c =
    let l = long (length c.args.bytes.now) (as_tested c.task_length.ensures c.if-not-task_length.false) in search rules

pub returns : goal.returns
returns c =
    rw (as_tested c.task_length.ensures c.if-not-task_length.false, c.priority_in.ensures, c.value_at-deadline.ensures, c.value_at-period.ensures)
