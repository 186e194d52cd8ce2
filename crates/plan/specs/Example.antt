-- A plan that is sound: document 01's Table A, tasks 5/5, 7/7 and 10/10, the first two sending to the third, with its 9 slots.
-- One slot more in its place, or none for the queue, and it is sound no longer.
use Rattle.std.specs.Prelude.{◌∷◌, ◌≡◌}
use Rattle.common.specs.Words.{ℕ, true, false, refl, replicate}
use Rattle.common.specs.Totals.{sum}
use Rattle.common.proofs.Rows.{every, some, first_bad}
use Rattle.plan.specs.Rules.{one_to, counts_good, task_good, only_tasks_send, queue_good, place_good, places_good, checked_plan, sound_plan}
use Rattle.plan.specs.declared.Plan.{Plan}

abbrev pub placed : ℕ → ℕ → Plan
placed size place = record {
  tasks = 3;
  queues = 1;
  period = 5 ∷ 7 ∷ 10 ∷ replicate 13 0;
  deadline = 5 ∷ 7 ∷ 10 ∷ replicate 13 0;
  priority = replicate 16 0;
  receiver = 2 ∷ replicate 7 0;
  sends = true ∷ true ∷ replicate 126 false;
  size = size ∷ replicate 7 0;
  place = place ∷ replicate 7 0;
}

pub table_a_lem : (sound_plan (placed 9 0) ≡ true) × (sound_plan (placed 9 1) ≡ false) × (sound_plan (placed 0 0) ≡ false)
unfolding sound_plan checked_plan counts_good one_to task_good queue_good only_tasks_send places_good place_good every some first_bad sum
table_a_lem = (refl, refl, refl)
