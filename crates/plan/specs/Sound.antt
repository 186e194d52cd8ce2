-- What a sound plan has: rule 7 answers true exactly when these facts hold, and what the crates above use of them.
use Rattle.std.specs.Prelude.{◌+◌, ◌<◌, ◌≤◌, ◌&&◌, ◌↔◌, ◌≡◌}
use Rattle.common.specs.Words.{ℕ, arith, Bool, true, false, List, refl, sym, ◌∙◌, leb, get_or}
use Rattle.common.specs.Tests.{and_iff, having}
use Rattle.common.specs.Totals.{sum, sum_next, sum_up}
use Rattle.common.proofs.Rows.{every, every_iff, every_first_bad}
use Rattle.model.specs.Model.{Sender}
use Rattle.plan.specs.Limits.{most_slots}
use Rattle.plan.specs.Plan.{zeros, sends_into, queue_at, size_at, place_at, slots_of, Usable}
use Rattle.plan.specs.Rules.{counts_good, task_good_at, queue_good_at, place_good_at, places_good, checked_plan, sound_plan, bad_task, bad_queue}
use Rattle.plan.specs.Rules.{one_to}
use Rattle.plan.specs.Facts.{Counts, Task, Connected, Placed, le_iff, counts_iff, task_iff, queue_iff, place_iff}
use Rattle.plan.specs.Connections.{Agree, bad_queue_same}
use Rattle.plan.specs.declared.Plan.{Plan}
pub use Rattle.plan.specs.Obeyed.{Checked, Sound}

-- ## Exactly when

-- the tests say these facts, one by one
abbrev TaskAt : Plan → ℕ → Type 0
TaskAt p i = Task (get_or p.period i 0) (get_or p.deadline i 0)

abbrev ConnectedAt : Plan → ℕ → Type 0
ConnectedAt p q = Connected p.tasks (get_or p.receiver q 0) (sends_into p q)

abbrev PlacedAt : Plan → ℕ → Type 0
PlacedAt p q = Placed (size_at p q) (place_at p q) (sum (size_at p) q)

abbrev Rules1to3 : Plan → Type 0
Rules1to3 p =
    Counts p.tasks p.queues
    × (((i : ℕ) → i < p.tasks → TaskAt p i) × ((q : ℕ) → q < p.queues → ConnectedAt p q))

tests_checked : (p : Plan) → (checked_plan p ≡ true) ↔ Rules1to3 p
unfolding checked_plan
tests_checked p =
    and_iff (counts_good p.tasks p.queues) (every (task_good_at p) p.tasks && every (queue_good_at p) p.queues)
    (counts_iff p.tasks p.queues)
    (and_iff (every (task_good_at p) p.tasks) (every (queue_good_at p) p.queues)
    (every_iff (task_good_at p) p.tasks (λ i. task_iff (get_or p.period i 0) (get_or p.deadline i 0)))
    (every_iff (queue_good_at p) p.queues (λ q. queue_iff p.tasks (get_or p.receiver q 0) (sends_into p q))))

tests_places : (p : Plan) → (places_good p ≡ true) ↔ (((q : ℕ) → q < p.queues → PlacedAt p q) × (slots_of p ≤ most_slots))
unfolding places_good
tests_places p =
    and_iff (every (place_good_at p) p.queues) (leb (slots_of p) most_slots)
    (every_iff (place_good_at p) p.queues (λ q. place_iff (size_at p q) (place_at p q) (sum (size_at p) q)))
    (le_iff (slots_of p) most_slots)

-- and the records name them
facts_checked : (p : Plan) → Rules1to3 p → Checked p
facts_checked p (c, (t, u)) = record {
  some_task = c.0.0;
  tasks_fit = c.0.1;
  some_queue = c.1.0;
  queues_fit = c.1.1;
  period_fits = λ i l. (t i l).0.1;
  deadline_pos = λ i l. (t i l).1.0;
  deadline_fits = λ i l. (t i l).1.1;
  receiver_row = λ q l. (u q l).0;
  sender_row = λ q l. (u q l).1.0;
  some_sender = λ q l. (u q l).1.1;
}

checked_facts : (p : Plan) → Checked p → Rules1to3 p
checked_facts p c = (
  ((c.some_task, c.tasks_fit), (c.some_queue, c.queues_fit)),
  (
    λ i l. (
      (omega (arith, c.deadline_pos i l, c.deadline_fits i l), c.period_fits i l),
      (c.deadline_pos i l, c.deadline_fits i l),
    ),
    λ q l. (c.receiver_row q l, (c.sender_row q l, c.some_sender q l)),
  ),
)

pub checked_iff : (p : Plan) → (checked_plan p ≡ true) ↔ Checked p
checked_iff p = (λ h. facts_checked p ((tests_checked p).0 h), λ c. (tests_checked p).1 (checked_facts p c))

pub sound_iff : (p : Plan) → (sound_plan p ≡ true) ↔ Sound p
unfolding sound_plan
sound_iff p =
    let both = and_iff (checked_plan p) (places_good p) (checked_iff p) (tests_places p) in (
      λ h.
          having (both.0 h)
          (λ x. record {
            checked = x.0;
            size_pos = λ q l. (x.1.0 q l).0.0;
            size_fits = λ q l. (x.1.0 q l).0.1;
            place_is = λ q l. (x.1.0 q l).1;
            total_fits = x.1.1;
          }),
      λ s. both.1 (s.checked, (λ q l. ((s.size_pos q l, s.size_fits q l), s.place_is q l), s.total_fits)),
    )

-- planning's way to it: the table that p was made of passed rules 1 to 3
pub checked_of : (p : Plan) (square : List (List Bool)) → Agree p square → counts_good p.tasks p.queues ≡ true →
    bad_task p.period p.deadline p.tasks ≡ p.tasks → bad_queue square p.receiver p.tasks p.queues ≡ p.queues → Checked p
unfolding checked_plan
checked_of p square a c t u =
    (checked_iff p).0
    (rw (
      c,
      (every_first_bad (task_good_at p) p.tasks).1 t,
      (every_first_bad (queue_good_at p) p.queues).1 (sym (bad_queue_same p square a) ∙ u),
    ))

-- "the plan of all zeros, which every call answers with 7"
pub zeros_unsound : sound_plan zeros ≡ false
unfolding sound_plan checked_plan counts_good one_to
zeros_unsound = refl

-- ## What is used of it

module _ {p : Plan} (c : Checked p) (q : ℕ) (counted : q < p.queues) where
  pub checked_usable : Usable p q
  checked_usable = record {
    tasks_fit = c.tasks_fit;
    queue_fits = omega (arith, c.queues_fit);
    periods_fit = c.period_fits;
    valid = record { receiver_row = c.receiver_row q counted; deadline_pos = c.deadline_pos; deadline_fits = c.deadline_fits };
  }

  pub checked_sender : (i : ℕ) × Sender (queue_at p q) i
  checked_sender =
      having (c.some_sender q counted) (λ x. (x.0, record { row = c.sender_row q counted x.0 x.1 x.2; on = x.2 }))

module _ {p : Plan} (s : Sound p) (q : ℕ) (counted : q < p.queues) where
  pub usable : Usable p q
  usable = checked_usable s.checked q counted

  pub has_sender : (i : ℕ) × Sender (queue_at p q) i
  has_sender = checked_sender s.checked q counted

  ends : place_at p q + size_at p q ≡ sum (size_at p) (q + 1)
  ends = omega (arith, s.place_is q counted, sum_next (size_at p) q)

  -- a queue's slots lie inside the total
  pub inside : place_at p q + size_at p q ≤ slots_of p
  inside = omega (arith, ends, sum_up (size_at p) (q + 1) p.queues (omega arith))

  -- and before those of every later queue
  pub apart : (r : ℕ) → q < r → r < p.queues → place_at p q + size_at p q ≤ place_at p r
  apart r h g = omega (arith, ends, s.place_is r g, sum_up (size_at p) (q + 1) r (omega arith))
