-- What an accepted planning has made: a sound plan, its table as handed in with zeros beyond the counts, the least fit sizes, never
-- above equation 3, and the places as running sums. What a refused one has made: the plan of all zeros.
use Rattle.std.specs.Prelude.{◌<◌, ◌≤◌, ◌&&◌, ◌++◌, ◌⊎◌, ◌↔◌, ◌≡◌, Err}
use Rattle.common.specs.Words.{ℕ, arith, Bool, false, List, inl, inr, refl, sym, ap, ◌∙◌, lt-ltb, ltb-false, leb-true, not-false, ltb, get_or}
use Rattle.common.specs.Tests.{and_left}
use Rattle.common.specs.Totals.{only, sum, sum_ext, sum_at}
use Rattle.common.specs.Table.{table_at}
use Rattle.common.proofs.Rows.{first_bad, first_bad_is}
use Rattle.model.specs.Model.{hyperperiod}
use Rattle.model.specs.Source.{Fit, equation3}
use Rattle.model.proofs.Slots.{slots_iff, slots_pos}
use Rattle.model.proofs.Equation3.{slots_bound}
use Rattle.plan.specs.Limits.{queue_limit, longest_hyperperiod, most_slots}
use Rattle.plan.specs.Plan.{zeros, queue_at, size_at, place_at, Usable}
use Rattle.plan.specs.Refusals.{judged, Verdict, clear}
use Rattle.plan.specs.Verdicts.{Passed, Stopped, passed_or_stopped, passed_good, stopped_refused, judged_good}
use Rattle.plan.specs.Sound.{Checked, Sound, sound_iff, checked_usable, checked_sender, usable}
use Rattle.plan.specs.declared.Plan.{Plan}
use Rattle.plan.specs.declared.refusal.Refusal.{Refusal}
use Rattle.sizing.specs.Cycle.{cycle_short, messages_few}
use Rattle.tables.specs.Table.{tabled}
use Rattle.places.specs.Places.{long_queue, least_size, least_sizes}
use Rattle.places.specs.Laws.{long_within, size_at_lem}
use Rattle.planning.specs.Planning.{sized, refused_plan, first_lines, table_lines, accepted_plan, table_judged, plan_of}
pub use Rattle.planning.specs.Planning.{Made}
use Rattle.planning.specs.TableLaws.{table_checked}
use Rattle.planning.specs.declared.Planned.{Planned}

-- ## A table that has passed rules 1 to 6

module _ {t : Plan} (c : Checked t) (cycles : long_queue t ≡ t.queues) (few : sum (least_size t) t.queues ≤ most_slots) where
  sized_size : (q : ℕ) → q < t.queues → size_at (sized t) q ≡ least_size t q
  unfolding sized
  sized_size q l = size_at_lem c q l

  sized_place : (q : ℕ) → q < t.queues → place_at (sized t) q ≡ sum (size_at (sized t)) q
  unfolding sized
  sized_place q l =
      table_at (λ q. only (ltb q t.queues) (sum (λ r. get_or (least_sizes t) r 0) q)) queue_limit q 0 (omega (arith, c.queues_fit))
      ∙ rw (lt-ltb q t.queues l)

  sized_checked : Checked (sized t)
  unfolding sized
  sized_checked = record {
    some_task = c.some_task;
    tasks_fit = c.tasks_fit;
    some_queue = c.some_queue;
    queues_fit = c.queues_fit;
    period_fits = c.period_fits;
    deadline_pos = c.deadline_pos;
    deadline_fits = c.deadline_fits;
    receiver_row = c.receiver_row;
    sender_row = c.sender_row;
    some_sender = c.some_sender;
  }

  sized_queues : (sized t).queues ≡ t.queues
  unfolding sized
  sized_queues = refl

  sized_queue : (q : ℕ) → queue_at (sized t) q ≡ queue_at t q
  unfolding sized
  sized_queue q = refl

  sized_sound : Sound (sized t)
  sized_sound = record {
    checked = sized_checked;
    size_pos = λ q l.
        let h : q < t.queues = rw sized_queues at l in
        rw (sized_size q h) (slots_pos (queue_at t q) (checked_usable c q h).valid _ (checked_sender c q h).1);
    size_fits = λ q l.
        let h : q < t.queues = rw sized_queues at l in
        rw (sized_size q h) (omega (arith, sum_at (least_size t) t.queues q h));
    place_is = λ q l. sized_place q (rw sized_queues at l);
    total_fits = rw sized_queues (rw (sum_ext _ (least_size t) t.queues sized_size) few);
  }

  cycle_within : (q : ℕ) → q < t.queues → hyperperiod (queue_at t q) ≤ longest_hyperperiod
  unfolding long_queue
  cycle_within q l =
      leb-true _ _ (and_left (cycle_short t q) (messages_few t q)
      ((first_bad_is (λ q. cycle_short t q && messages_few t q) t.queues).before q (rw cycles l)))

  sized_made : Made (sized t)
  sized_made = record {
    sound = (sound_iff (sized t)).1 sized_sound;
    least = λ q l. rw (sized_queue q) (sized_size q (rw sized_queues at l));
    short = λ q l. rw (sized_queue q) (cycle_within q (rw sized_queues at l));
  }

-- ## Planning

not_accepted : (r : Refusal) (p : Plan) → refused_plan r ≡ record { answer = clear; plan = p } → ⊥
not_accepted r p e =
    let a : ◌≡◌ {A = Verdict} (Err r) clear = ap (λ (x : Planned). x.answer) e in
    let z : ◌≡◌ {A = ℕ} 0 1 = cc in
    omega arith

-- no row was found bad
none_bad : (t : ℕ → Bool) (n : ℕ) → ltb (first_bad t n) n ≡ false → first_bad t n ≡ n
none_bad t n h = omega (arith, ltb-false (first_bad t n) n h, (first_bad_is t n).within)

module _ (tasks queues : ℕ) (period deadline priority receiver : List ℕ) (square : List (List Bool)) where
  abbrev T : Plan
  T = tabled tasks queues period deadline priority receiver square

  record Passes : Type 0 where
    checked : Checked T
    cycles : long_queue T ≡ T.queues
    few : sum (least_size T) T.queues ≤ most_slots
    plan_is : (plan_of tasks queues period deadline priority receiver square).plan ≡ sized T

  passes : (plan_of tasks queues period deadline priority receiver square).answer ≡ clear → Passes
  unfolding plan_of table_judged
  passes e =
      let p = (plan_of tasks queues period deadline priority receiver square).plan in
      let whole : plan_of tasks queues period deadline priority receiver square ≡ record { answer = clear; plan = p } =
      λ i. record { answer = e i; plan = p } in
      let table = judged_good refused_plan (table_judged T) _ (λ r. not_accepted r p)
      (first_lines tasks queues period deadline receiver square) whole in
      let good = judged_good refused_plan (accepted_plan T) _ (λ r. not_accepted r p) (table_lines T) table.1 in
      let checked : Checked T =
      table_checked tasks queues period deadline priority receiver square (not-false _ table.0.0) (none_bad _ tasks table.0.1.0)
      (none_bad _ queues table.0.1.1.0) in
      record {
        checked = checked;
        cycles = omega (arith, ltb-false (long_queue T) T.queues good.0.1.0, long_within T);
        few = ltb-false most_slots (sum (least_size T) T.queues) good.0.1.1.0;
        plan_is = ap (λ (x : Planned). x.plan) (sym good.1);
      }

  -- the rules in document 01's order, as one list: the first line that applies is the answer
  pub plan_lines : plan_of tasks queues period deadline priority receiver square
      ≡ (let t = tabled tasks queues period deadline priority receiver square in
      judged (first_lines tasks queues period deadline receiver square ++ table_lines t) refused_plan (accepted_plan t))
  unfolding plan_of table_judged
  plan_lines = refl

  -- "A refused planning gives the plan of all zeros"
  pub refused_zeros : (r : Refusal) → (plan_of tasks queues period deadline priority receiver square).answer ≡ Err r →
      (plan_of tasks queues period deadline priority receiver square).plan ≡ zeros
  refused_zeros r e = go (passed_or_stopped (first_lines tasks queues period deadline receiver square ++ table_lines T))
    where
      go : Passed (first_lines tasks queues period deadline receiver square ++ table_lines T)
          ⊎ ((s : Refusal) × Stopped (first_lines tasks queues period deadline receiver square ++ table_lines T) s) →
          (plan_of tasks queues period deadline priority receiver square).plan ≡ zeros
      go (inl h) =
          let good = plan_lines ∙ passed_good (first_lines tasks queues period deadline receiver square ++ table_lines T) refused_plan
          (accepted_plan T) h in
          let a : ◌≡◌ {A = Verdict} (Err r) clear = sym e ∙ ap (λ (x : Planned). x.answer) good in
          absurd (let z : ◌≡◌ {A = ℕ} 0 1 = cc in omega arith)
      go (inr h) =
          ap (λ (x : Planned). x.plan)
          (plan_lines ∙ stopped_refused (first_lines tasks queues period deadline receiver square ++ table_lines T) h.0 refused_plan
          (accepted_plan T)
          h.1)

  module _ (yes : (plan_of tasks queues period deadline priority receiver square).answer ≡ clear) where
    -- an accepted plan holds the table with the least sizes and their places
    pub accepted_is : (plan_of tasks queues period deadline priority receiver square).plan
        ≡ sized (tabled tasks queues period deadline priority receiver square)
    accepted_is = (passes yes).plan_is

    pub accepted_made : Made (plan_of tasks queues period deadline priority receiver square).plan
    accepted_made = let h = passes yes in rw accepted_is (sized_made h.checked h.cycles h.few)

-- ## What a plan we made keeps

module _ {p : Plan} (made : Made p) (q : ℕ) (counted : q < p.queues) where
  made_usable : Usable p q
  made_usable = usable ((sound_iff p).0 made.sound) q counted

  -- "The plan gives each queue its least fit L."
  pub made_least : (L : ℕ) → Fit (queue_at p q) L ↔ (size_at p q ≤ L)
  made_least L = rw (made.least q counted) (slots_iff (queue_at p q) made_usable.valid L)

  -- "That L never exceeds the source's equation 3"
  pub made_bound : size_at p q ≤ equation3 (queue_at p q)
  made_bound = rw (made.least q counted) (slots_bound (queue_at p q) made_usable.valid)
