-- Rows may be sorted (request b): two tables that are permutations of one another's rows number alike, and need the same sizes, where the
-- priorities tell the senders apart; rules 4 to 6 then judge them alike. It leans on the laws of Permuted and Order.
use Rattle.std.specs.Prelude.{◌<◌, ◌≡◌}
use Rattle.common.specs.Words.{ℕ, List, refl, sym, ◌∙◌}
use Rattle.model.specs.Model.{Valid, Sender, number, hyperperiod, messages, slots}
use Rattle.plan.specs.Queues.{queue_at, size_at}
use Rattle.plan.specs.Rules.{places_good, checked_plan, sound_plan}
use Rattle.plan.specs.Sound.{sound_iff, usable}
use Rattle.plan.specs.declared.Plan.{Plan}
use Rattle.planning.specs.Planning.{Made}
use Rattle.priorities.specs.Priorities.{Permuted, Sorted, Told, with_priority}
use Rattle.priorities.proofs.Permuted.{hyperperiod_permuted, messages_permuted}
use Rattle.priorities.proofs.Order.{number_sorted, slots_sorted}

module _ {a b : Plan} {s r : ℕ → ℕ} (x : Sorted a b s r) (made : Made a) (q : ℕ) (counted : q < a.queues) where
  valid : Valid (queue_at a q)
  valid = (usable ((sound_iff a).0 made.sound) q counted).valid

  rows : Permuted (queue_at a q) (queue_at b q) s r
  rows = record {
    rows = x.tasks;
    order = x.order;
    period = x.period;
    deadline = x.deadline;
    sends = λ i l. x.sends q i counted l;
    receiver = x.receiver q counted;
  }

  -- rules 4 and 5 ask for these
  pub sorted_cycles : (hyperperiod (queue_at b q) ≡ hyperperiod (queue_at a q))
      × ((H : ℕ) → messages (queue_at b q) H ≡ messages (queue_at a q) H)
  sorted_cycles = (hyperperiod_permuted rows valid, messages_permuted rows valid)

  module _ (told : Told (queue_at a q)) where
    -- "row i's job k has the same number in the one as its image in the other,
    pub sorted_numbers : (i k : ℕ) → Sender (queue_at a q) i → number (queue_at b q) (s i) k ≡ number (queue_at a q) i k
    sorted_numbers = number_sorted rows x.priority valid told

    -- and each queue has the same size": the least one, which rule 6 adds up,
    pub sorted_slots : slots (queue_at b q) ≡ slots (queue_at a q)
    sorted_slots = slots_sorted rows x.priority valid told

    -- and so the size in the plan that we make of it.
    pub sorted_sizes : Made b → size_at b q ≡ size_at a q
    sorted_sizes made' = made'.least q (rw x.queues counted) ∙ sorted_slots ∙ sym (made.least q counted)

-- "7 asks nothing of priorities": with others in their place a plan is as sound as it was.
pub sound_any_priority : (p : Plan) (priority : List ℕ) → sound_plan (with_priority p priority) ≡ sound_plan p
unfolding sound_plan checked_plan places_good
sound_any_priority p priority = refl
