-- A plan with another size for one queue is sound where the new size is at least 1 and no greater than the old one.
use Rattle.std.specs.Prelude.{◌≤◌, ◌<◌, ◌≡◌}
use Rattle.common.specs.Words.{ℕ, arith, ℕ_discrete, refl, sym, ◌∙◌, ltb, lt-ltb, eq-eqb, ne_eqb}
use Rattle.common.specs.Table.{table_at}
use Rattle.common.specs.Totals.{only, sum, sum_ext, sum_le}
use Rattle.plan.specs.Limits.{queue_limit}
use Rattle.plan.specs.Plan.{size_at, place_at, slots_of}
use Rattle.plan.specs.Sound.{Checked, Sound}
use Rattle.plan.specs.declared.Plan.{Plan}
pub use Rattle.history.specs.Smaller.{size_with, resized}

module _ (p : Plan) (sound : Sound p) (q L : ℕ) where
  in_range : (r : ℕ) → r < p.queues → r < queue_limit
  in_range r h = omega (arith, sound.checked.queues_fit)

  size_is : (r : ℕ) → r < p.queues → size_at (resized p q L) r ≡ size_with p q L r
  size_is r h = table_at (size_with p q L) queue_limit r 0 (in_range r h)

  -- the queue has its new size
  pub resized_size : q < p.queues → size_at (resized p q L) q ≡ L
  resized_size h = size_is q h ∙ rw (eq-eqb q q refl)

  module _ (pos : 1 ≤ L) (less : L ≤ size_at p q) where
    sizes : (r : ℕ) → r < p.queues → (1 ≤ size_with p q L r) × (size_with p q L r ≤ size_at p r)
    sizes r h = go (ℕ_discrete r q)
      where
        go : Dec (r ≡ q) → (1 ≤ size_with p q L r) × (size_with p q L r ≤ size_at p r)
        go (yes e) = rw (eq-eqb r q e) (pos, rw e less)
        go (no d) = rw (ne_eqb r q d) (sound.size_pos r h, omega arith)

    sum_is : (n : ℕ) → n ≤ p.queues → sum (size_at (resized p q L)) n ≡ sum (size_with p q L) n
    sum_is n h = sum_ext _ _ n (λ r l. size_is r (omega arith))

    place_is : (r : ℕ) → r < p.queues → place_at (resized p q L) r ≡ sum (size_at (resized p q L)) r
    place_is r h =
        table_at (λ r. only (ltb r p.queues) (sum (size_with p q L) r)) queue_limit r 0 (in_range r h)
        ∙ rw (lt-ltb r p.queues h) (sym (sum_is r (omega arith)))

    total : slots_of (resized p q L) ≤ slots_of p
    total = rw (sum_is p.queues (omega arith)) (sum_le _ _ p.queues (λ r l. (sizes r l).1))

    pub resized_sound : Sound (resized p q L)
    resized_sound = record {
      checked = record {
        some_task = c.some_task;
        tasks_fit = c.tasks_fit;
        some_queue = c.some_queue;
        queues_fit = c.queues_fit;
        period_fits = c.period_fits;
        deadline_pos = c.deadline_pos;
        deadline_fits = c.deadline_fits;
        receiver_row = c.receiver_row;
        sender_row = c.sender_row;
        some_sender = c.some_sender;
      };
      size_pos = λ r h. rw (size_is r h) (sizes r h).0;
      size_fits = λ r h. rw (size_is r h) (omega (arith, (sizes r h).1, sound.size_fits r h));
      place_is = place_is;
      total_fits = omega (arith, total, sound.total_fits);
    }
      where
        c : Checked p
        c = sound.checked
