-- Each queue's size in the list of sizes, its bound, and the total of the list.
use Rattle.std.specs.Prelude.{◌<◌, ◌≤◌, ◌&&◌, ◌≡◌}
use Rattle.common.specs.Words.{ℕ, arith, ◌∙◌, lt-ltb, ltb-true, ltb, get_or}
use Rattle.common.specs.Totals.{only, sum, only_most, sum_ext}
use Rattle.common.specs.Table.{table_at}
use Rattle.common.proofs.Rows.{first_bad_is}
use Rattle.plan.specs.Limits.{queue_limit}
use Rattle.plan.specs.Sound.{Checked, checked_usable}
use Rattle.plan.specs.declared.Plan.{Plan}
use Rattle.sizing.specs.Bounds.{largest_size, slots_small}
use Rattle.sizing.specs.Cycle.{cycle_short, messages_few}
use Rattle.places.specs.Places.{long_queue, least_size, least_sizes}

pub long_within : (t : Plan) → long_queue t ≤ t.queues
unfolding long_queue
long_within t = (first_bad_is (λ q. cycle_short t q && messages_few t q) t.queues).within

module _ {t : Plan} (c : Checked t) where
  pub size_at_lem : (q : ℕ) → q < t.queues → get_or (least_sizes t) q 0 ≡ least_size t q
  size_at_lem q l =
      table_at (λ q. only (ltb q t.queues) (least_size t q)) queue_limit q 0 (omega (arith, c.queues_fit)) ∙ rw (lt-ltb q t.queues l)

  pub sizes_small : (q : ℕ) → q < queue_limit → get_or (least_sizes t) q 0 ≤ largest_size
  sizes_small q l =
      rw (table_at (λ q. only (ltb q t.queues) (least_size t q)) queue_limit q 0 l)
      (only_most (ltb q t.queues) _ largest_size (λ h. slots_small (checked_usable c q (ltb-true q t.queues h))))

  pub total_is : sum (λ q. get_or (least_sizes t) q 0) t.queues ≡ sum (least_size t) t.queues
  total_is = sum_ext _ _ t.queues size_at_lem
