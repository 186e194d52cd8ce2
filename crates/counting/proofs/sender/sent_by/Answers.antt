-- `sender::sent_by`: the two tests of the definition.
use Rattle.std.specs.Prelude.{◌≤◌, ◌≡◌}
use Rattle.common.specs.Words.{ℕ, arith, true, sym, ◌∙◌}
use Rattle.model.specs.Model.{has_deadline, due_at}
use Rattle.common.specs.Tests.{having, and_right}
use Rattle.model.proofs.Count.{has_job}
use Rattle.counting.specs.Bounds.{row_positive}
use Rattle.counting.proofs.sender.sent_by.Goals as goal

-- no message is due at tick 0
after_start : (P D t : ℕ) → 1 ≤ P → 1 ≤ D → has_deadline P D t ≡ true → 1 ≤ t
after_start P D t pos dpos h = having (has_job P D t pos h) (λ j. omega (arith, j.1))

pub number_due-requires : goal.number_due-requires
unfolding due_at
number_due-requires c =
    let p = row_positive c.requires.0 c.args.row c.requires.1 in
    (c.requires.0, after_start _ _ c.args.at.0 p.0 p.1 (and_right _ _ (sym c.due_at.ensures ∙ c.if-due_at.true)), c.requires.2, c.requires.1)

pub returns-then-due_at : goal.returns-then-due_at
returns-then-due_at c = rw (← c.due_at.ensures, c.if-due_at.true, c.eq.ensures, c.number_due.ensures)

pub returns-else-due_at : goal.returns-else-due_at
returns-else-due_at c = rw (← c.due_at.ensures, c.if-due_at.false)
