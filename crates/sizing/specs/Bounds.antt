-- A least size is small: equation 3 bounds it, and periods are bounded.
use Rattle.std.specs.Prelude.{◌+◌, ◌*◌, ◌/◌, ◌≤◌}
use Rattle.common.specs.Words.{ℕ, arith, div-le_self, mul-le-mul_right}
use Rattle.common.specs.Totals.{only, only_most, sum_bound, most_le}
use Rattle.model.specs.Model.{slots}
use Rattle.model.specs.Source.{reach, equation3}
use Rattle.model.proofs.Equation3.{slots_bound}
use Rattle.plan.specs.Limits.{task_limit, longest_period}
use Rattle.plan.specs.Plan.{queue_at, Usable}
use Rattle.plan.specs.declared.Plan.{Plan}

-- of each of 16 senders at most one message in each tick of three periods, and one more
abbrev pub largest_size : ℕ
largest_size = task_limit * (3 * longest_period + 1)

module _ {p : Plan} {q : ℕ} (u : Usable p q) where
  reach_small : reach (queue_at p q) ≤ 3 * longest_period
  unfolding reach
  reach_small =
      omega (
        arith,
        u.periods_fit (queue_at p q).receiver u.valid.receiver_row,
        (most_le (λ i. only ((queue_at p q).sends i) ((queue_at p q).deadline i)) p.tasks longest_period).1
            (λ i l. only_most ((queue_at p q).sends i) _ longest_period (λ y. omega (arith, u.valid.deadline_fits i l, u.periods_fit i l))),
      )

  pub slots_small : slots (queue_at p q) ≤ largest_size
  unfolding equation3
  slots_small =
      omega (
        arith,
        slots_bound (queue_at p q) u.valid,
        sum_bound (λ i. only ((queue_at p q).sends i) (reach (queue_at p q) / (queue_at p q).period i + 1)) p.tasks (3 * longest_period + 1)
            (λ i l. only_most ((queue_at p q).sends i) _ _
            (λ y. omega (arith, reach_small, div-le_self (reach (queue_at p q)) ((queue_at p q).period i)))),
        mul-le-mul_right (3 * longest_period + 1) u.tasks_fit,
      )
