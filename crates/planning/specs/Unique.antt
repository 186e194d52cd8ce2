-- The contract of `make_plan` determines the outcome: two results that both meet it are equal. Planning has no state and no memory.
use Rattle.std.specs.Prelude.{◌≡◌}
use Rattle.common.specs.Words.{ℕ, Bool, List, sym, ◌∙◌}
use Rattle.planning.specs.Planning.{plan_of}
use Rattle.planning.specs.declared.Planned.{Planned}

abbrev pub PlanGives : ℕ → ℕ → List ℕ → List ℕ → List ℕ → List ℕ → List (List Bool) → Planned → Type 0
PlanGives tasks queues period deadline priority receiver square r = r ≡ plan_of tasks queues period deadline priority receiver square

pub make_plan_unique : (tasks queues : ℕ) (period deadline priority receiver : List ℕ) (square : List (List Bool)) (r s : Planned) →
    PlanGives tasks queues period deadline priority receiver square r → PlanGives tasks queues period deadline priority receiver square s →
    r ≡ s
make_plan_unique tasks queues period deadline priority receiver square r s a b = a ∙ sym b
