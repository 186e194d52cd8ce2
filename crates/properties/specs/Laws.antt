-- Laws of the properties that are read: which one stands at a step, what is said of it, and how far the rules go.
use Rattle.properties.specs.declared.Of.{Of}
use Rattle.words.specs.declared.kinds.Kind.{Kind}
use Rattle.steps.specs.declared.faults.Rule.TheVariants.{Unfit}
use Rattle.words.specs.Same.{same_kind}
use Rattle.std.specs.Prelude.{◌<◌, ◌≤◌, ◌≡◌, Some}
use Rattle.common.specs.Words.{ℕ, arith, true, false, true≢false, List, [], refl, sym, ap, ◌∙◌, eqb, ltb, get_or, set, eq-eqb}
use Rattle.common.specs.Words.{ne_eqb, lt-ltb, le-ltb, ltb-true, eqb-true}
use Rattle.words.specs.Kinds.{SCOPE, BECOMES, SEMICOLON, NONE, OPEN_BRACE, CLOSE_BRACE, PROPERTIES, PERIODIC, DELAYED}
use Rattle.tokens.specs.Tokens.{Token}
use Rattle.tokens.specs.Laws.{cases}
use Rattle.steps.specs.declared.faults.Fault.{Fault}
use Rattle.steps.specs.Faults.{fault, no_fault, worse, worst}
use Rattle.steps.specs.Worse.{worst_first}
use Rattle.steps.specs.Steps.{Step, On, Stop, ◌⟫◌, head, is, named, the, name}
use Rattle.steps.specs.Lifted.{first, first_kind, second_kind, holds}
use Rattle.steps.specs.Laws.{Moved, went, stopped, moved_on, moved_then, moved_less, moves_the, moves_name, is_on, is_off}
use Rattle.values.specs.Values.{value, scoped, association}
use Rattle.values.specs.Laws.{value_moves, scoped_moves, association_moves}
use Rattle.phrases.specs.Phrases.{nothing}
use Rattle.phrases.specs.Laws.{nothing_moves}
use Rattle.times.specs.Times.{Formed, formed}
use Rattle.times.specs.Sums.{time_from}
use Rattle.times.specs.Laws.{time_moves}
use Rattle.times.specs.Priorities.{priority_from}
use Rattle.times.specs.PriorityLaws.{priority_moves}
use Rattle.rows.specs.Rows.{with_rows}
use Rattle.rows.specs.Said.{Said, Rule, quiet, ◌⨟◌}
use Rattle.rows.specs.States.{State, state, does}
use Rattle.rows.specs.Laws.{MovesOn, moved_onward, moves_quiet, moves_optionally, moves_repeat, advances_on, by_went, does_then, does_on, does_off}
use Rattle.properties.specs.Properties.{protocol, offset, priority, timing, another, named_by, set_of, property_by, inner_name, property_at}
use Rattle.properties.specs.Properties.{of_thread, of_port, of_process, read_in, one_if, right_by, form, second_time, from_outside, owned, note_in}
use Rattle.properties.specs.Properties.{skipped_in, association_in, associations_in, block_in, maybe_block_in, none_or, properties_in}

-- ## Which property

module _ (s : Step) where
  pub property_plain : same_kind (second_kind s) SCOPE ≡ false → named_by (first_kind s) ≡ property_at s
  unfolding property_at property_by
  property_plain n = rw n

  pub property_longer : same_kind (second_kind s) SCOPE ≡ true → same_kind (second_kind (inner_name s)) SCOPE ≡ true → another ≡
      property_at s
  unfolding property_at property_by
  property_longer e f = rw (e, f)

  pub property_set : same_kind (second_kind s) SCOPE ≡ true → same_kind (second_kind (inner_name s)) SCOPE ≡ false →
      same_kind (first_kind s) (set_of (named_by (first_kind (inner_name s)))) ≡ true →
      named_by (first_kind (inner_name s)) ≡ property_at s
  unfolding property_at property_by
  property_set e n f = rw (e, n, f)

  pub property_other : same_kind (second_kind s) SCOPE ≡ true → same_kind (second_kind (inner_name s)) SCOPE ≡ false →
      same_kind (first_kind s) (set_of (named_by (first_kind (inner_name s)))) ≡ false →
      another ≡ property_at s
  unfolding property_at property_by
  property_other e n f = rw (e, n, f)

-- where a rule has stopped there is none
pub property_stopped : (f : Fault) → property_at (Stop f) ≡ another
unfolding property_at property_by named_by
property_stopped f = refl

-- one that is read is there
pub read_there : (c : Of) (s : Step) → read_in c (property_at s) ≡ true → holds (λ ts. true) s ≡ true
unfolding read_in
read_there c (On ts) h = refl
read_there c (Stop f) h = absurd (true≢false (sym h ∙ rw (property_stopped f) (stay c)))
  where
    stay : (d : Of) → read_in d another ≡ false
    stay Of.Thread = refl
    stay Of.Port = refl
    stay Of.Process = refl

pub read_low : (c : Of) (q : ℕ) → read_in c q ≡ true → q < 6
unfolding read_in
read_low Of.Thread q h = omega (arith, ltb-true q timing h)
read_low Of.Port q h = omega (arith, eqb-true q timing h)
read_low Of.Process q h = absurd (true≢false (sym h))

-- ## Its form

module _ (q : ℕ) (s : Step) where
  pub form_time : q < protocol → form q s ≡ time_from s
  unfolding form
  form_time l = rw (lt-ltb q protocol l)

  pub form_offset : q ≡ offset → form q s ≡ formed (s ⟫ value) 1 []
  unfolding form
  form_offset e = rw e

  pub form_priority : q ≡ priority → form q s ≡ priority_from s
  unfolding form
  form_priority e = rw e

  pub form_name : protocol ≤ q → (q ≡ offset → ⊥) → (q ≡ priority → ⊥) →
      form q s ≡ formed (s ⟫ name) (right_by q (first_kind s)) []
  unfolding form
  form_name l n m = rw (le-ltb q protocol l, ne_eqb q offset n, ne_eqb q priority m)

module _ (q : ℕ) (kind : Kind) where
  pub right_protocol : q ≡ protocol → one_if (same_kind kind PERIODIC) ≡ right_by q kind
  unfolding right_by
  right_protocol e = rw (eq-eqb q protocol e)

  pub right_timing : (q ≡ protocol → ⊥) → one_if (same_kind kind DELAYED) ≡ right_by q kind
  unfolding right_by
  right_timing n = rw (ne_eqb q protocol n)

-- ## What is said of it

abbrev pub form_at : ℕ → Step → Formed
form_at q s = form q (s ⟫ scoped ⟫ the BECOMES)

-- the first that counts, and a second
module _ (q : ℕ) where
  pub owned_first : (s : State) → holds (λ ts. true) s.went ≡ true → get_or s.props q 0 ≡ 0 →
      state ((form_at q s.went).went ⟫ the SEMICOLON) (set s.props q (form_at q s.went).value)
      (worse s.fault (worst no_fault (form_at q s.went).notes)) s.store
      ≡ does s (owned q)
  unfolding does owned with_rows
  owned_first s =
      by_went (λ (s : State). holds (λ ts. true) s.went ≡ true → get_or s.props q 0 ≡ 0 →
      state ((form_at q s.went).went ⟫ the SEMICOLON) (set s.props q (form_at q s.went).value)
      (worse s.fault (worst no_fault (form_at q s.went).notes)) s.store
      ≡ does s (owned q))
      (λ ts qs x t h z. rw (eq-eqb (get_or qs q 0) 0 z, worst_first x (form_at q (On ts)).notes)) (λ f qs x t h z. absurd (true≢false (sym h))) s

  pub owned_second : (s : State) → holds (λ ts. true) s.went ≡ true → (get_or s.props q 0 ≡ 0 → ⊥) →
      state ((form_at q s.went).went ⟫ the SEMICOLON) s.props
      (worse (worse s.fault (Some (fault Unfit (first s.went).start second_time))) (worst no_fault (form_at q s.went).notes))
      s.store ≡ does s (owned q)
  unfolding does owned worst with_rows
  owned_second s =
      by_went (λ (s : State). holds (λ ts. true) s.went ≡ true → (get_or s.props q 0 ≡ 0 → ⊥) →
      state ((form_at q s.went).went ⟫ the SEMICOLON) s.props
      (worse (worse s.fault (Some (fault Unfit (first s.went).start second_time))) (worst no_fault (form_at q s.went).notes))
      s.store ≡ does s (owned q))
      (λ ts qs x t h n. rw (
        ne_eqb (get_or qs q 0) 0 n,
        worst_first (worse x (Some (fault Unfit (head ts).start second_time))) (form_at q (On ts)).notes,
      ))
      (λ f qs x t h z. absurd (true≢false (sym h))) s

-- one that is skipped, and noted where it stands in a process
pub skipped_plain : (c : Of) (s : State) → (c ≡ of_process → ⊥) →
    state (s.went ⟫ association) s.props s.fault s.store ≡ does s (skipped_in c)
unfolding does skipped_in note_in worst with_rows
skipped_plain Of.Process s n = absurd (n refl)
skipped_plain Of.Thread s n =
    by_went (λ (s : State). state (s.went ⟫ association) s.props s.fault s.store ≡ does s (skipped_in of_thread)) (λ ts qs x t. refl)
    (λ f qs x t. refl) s
skipped_plain Of.Port s n =
    by_went (λ (s : State). state (s.went ⟫ association) s.props s.fault s.store ≡ does s (skipped_in of_port)) (λ ts qs x t. refl)
    (λ f qs x t. refl) s

skipped_right : (s : State) → timing ≤ property_at s.went →
    state (s.went ⟫ association) s.props s.fault s.store ≡ does s (skipped_in of_process)
unfolding does skipped_in note_in worst with_rows
skipped_right s =
    by_went (λ (s : State). timing ≤ property_at s.went →
    state (s.went ⟫ association) s.props s.fault s.store ≡ does s (skipped_in of_process))
    (λ ts qs x t l. rw (le-ltb (property_at (On ts)) timing l)) (λ f qs x t l. refl) s

pub skipped_other : (c : Of) (s : State) → timing ≤ property_at s.went →
    state (s.went ⟫ association) s.props s.fault s.store ≡ does s (skipped_in c)
skipped_other Of.Thread s l = skipped_plain of_thread s (λ e. cc)
skipped_other Of.Port s l = skipped_plain of_port s (λ e. cc)
skipped_other Of.Process s l = skipped_right s l

pub skipped_noted : (c : Of) (s : State) → c ≡ of_process → property_at s.went < timing →
    state (s.went ⟫ association) s.props (worse s.fault (Some (fault Unfit (first s.went).start from_outside))) s.store
    ≡ does s (skipped_in c)
unfolding does skipped_in note_in worst with_rows
skipped_noted c s e =
    rw e
    (by_went (λ (s : State). property_at s.went < timing →
    state (s.went ⟫ association) s.props (worse s.fault (Some (fault Unfit (first s.went).start from_outside))) s.store
    ≡ does s (skipped_in of_process))
    (λ ts qs x t l. rw (lt-ltb (property_at (On ts)) timing l)) (λ f qs x t l. absurd (omega (arith, l, property_stopped f))) s)

-- one association, read or skipped
module _ (c : Of) where
  pub association_read : (s : State) → read_in c (property_at s.went) ≡ true →
      does s (owned (property_at s.went)) ≡ does s (association_in c)
  unfolding does association_in
  association_read s =
      by_went (λ (s : State). read_in c (property_at s.went) ≡ true → does s (owned (property_at s.went)) ≡ does s (association_in c))
      (λ ts qs x t h. rw h) (λ f qs x t h. refl) s

  pub association_skipped : (s : State) → read_in c (property_at s.went) ≡ false → does s (skipped_in c) ≡ does s (association_in c)
  unfolding does association_in
  association_skipped s =
      by_went (λ (s : State). read_in c (property_at s.went) ≡ false → does s (skipped_in c) ≡ does s (association_in c))
      (λ ts qs x t h. rw h) (λ f qs x t h. refl) s

-- ## How far the rules go

form_moves : (q : ℕ) (ts : List Token) → Moved 0 ts (form q (On ts)).went
unfolding form
form_moves q ts =
    cases (λ (f : Formed). Moved 0 ts f.went) (ltb q protocol) (λ _. moved_less 0 (omega arith) (time_moves ts))
    (λ _. cases (λ (f : Formed). Moved 0 ts f.went) (eqb q offset) (λ _. moved_less 0 (omega arith) (value_moves ts))
    (λ _. cases (λ (f : Formed). Moved 0 ts f.went) (eqb q priority) (λ _. moved_less 0 (omega arith) (priority_moves ts))
    (λ _. moved_less 0 (omega arith) (moves_name ts))))

form_stopped : (q : ℕ) (x : Fault) → (form q (Stop x)).went ≡ Stop x
unfolding form
form_stopped q x =
    cases (λ (f : Formed). f.went ≡ Stop x) (ltb q protocol)
    (λ _. refl) (λ _. cases (λ (f : Formed). f.went ≡ Stop x) (eqb q offset)
    (λ _. refl) (λ _. cases (λ (f : Formed). f.went ≡ Stop x) (eqb q priority) (λ _. refl) (λ _. refl)))

form_then : {n : ℕ} {ts : List Token} (q : ℕ) (s : Step) → Moved n ts s → Moved n ts (form q s).went
form_then {n} q (On us) (went g) = moved_less n (omega arith) (moved_on g (form_moves q us))
form_then q (Stop x) stopped = rw (form_stopped q x) stopped

owned_moves : (q : ℕ) → MovesOn 1 (owned q)
unfolding owned
owned_moves q ps ts =
    let named : Moved 2 ts (scoped ts ⟫ the BECOMES) = moved_then (scoped_moves ts) (moves_the BECOMES refl) in
    let whole : Moved 1 ts ((form q (scoped ts ⟫ the BECOMES)).went ⟫ the SEMICOLON) =
    moved_less 1 (omega arith) (moved_then (form_then q (scoped ts ⟫ the BECOMES) named) (moves_the SEMICOLON refl)) in
    cases (λ (s : Said). Moved 1 ts s.went) (eqb (get_or ps q 0) 0) (λ _. whole) (λ _. whole)

pub association_in_moves : (c : Of) → MovesOn 1 (association_in c)
unfolding association_in skipped_in
association_in_moves c ps ts =
    cases (λ (s : Said). Moved 1 ts s.went) (read_in c (property_at (On ts)))
    (λ _. owned_moves (property_at (On ts)) ps ts) (λ _. association_moves ts)

pub associations_in_moves : (c : Of) → MovesOn 0 (associations_in c)
unfolding associations_in
associations_in_moves c = moves_repeat named (association_in c) (advances_on named (association_in c) (association_in_moves c))

block_in_moves : (c : Of) → MovesOn 2 (block_in c)
unfolding block_in
block_in_moves c ps ts =
    moved_onward _ (quiet (the CLOSE_BRACE)) (moved_onward _ (associations_in c)
    (moves_the OPEN_BRACE refl ts) (associations_in_moves c))
    (moves_quiet (the CLOSE_BRACE) (moves_the CLOSE_BRACE refl))

pub maybe_block_moves : (c : Of) → MovesOn 0 (maybe_block_in c)
unfolding maybe_block_in
maybe_block_moves c = moves_optionally (is OPEN_BRACE) (block_in c) (block_in_moves c)

pub none_or_moves : (rule : Rule) → MovesOn 0 rule → MovesOn 0 (none_or rule)
unfolding none_or
none_or_moves rule h ps ts =
    cases (λ (s : Said). Moved 0 ts s.went) (is NONE ts) (λ _. moved_less 0 (omega arith) (nothing_moves ts)) (λ _. h ps ts)

pub properties_in_moves : (c : Of) → MovesOn 1 (properties_in c)
unfolding properties_in
properties_in_moves c ps ts =
    moved_onward _ (none_or (associations_in c)) (moves_the PROPERTIES refl ts)
    (none_or_moves (associations_in c) (associations_in_moves c))

-- ## Blocks and sections as the code reads them

pub block_does : (c : Of) (s : State) →
    does (does (does s (quiet (the OPEN_BRACE))) (associations_in c)) (quiet (the CLOSE_BRACE)) ≡ does s (block_in c)
unfolding block_in
block_does c s =
    ap (λ (t : State). does t (quiet (the CLOSE_BRACE))) (does_then s (quiet (the OPEN_BRACE)) (associations_in c))
    ∙ does_then s (λ ps ts. quiet (the OPEN_BRACE) ps ts ⨟ associations_in c) (quiet (the CLOSE_BRACE))

module _ (rule : Rule) (s : State) where
  pub none_on : same_kind (first_kind s.went) NONE ≡ true → does s (quiet nothing) ≡ does s (none_or rule)
  unfolding none_or
  none_on e = does_on (is NONE) (quiet nothing) rule s (is_on NONE s.went refl e)

  pub none_off : same_kind (first_kind s.went) NONE ≡ false → does s rule ≡ does s (none_or rule)
  unfolding none_or
  none_off n = does_off (is NONE) (quiet nothing) rule s (is_off NONE s.went n)
