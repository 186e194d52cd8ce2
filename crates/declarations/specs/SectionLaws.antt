-- Laws of sections: which one begins, what the code does in it, and how far it goes.
use Rattle.words.specs.declared.kinds.Kind.{Kind}
use Rattle.words.specs.Same.{same_kind, kind_differs}
use Rattle.std.specs.Prelude.{◌≡◌}
use Rattle.common.specs.Words.{ℕ, Bool, true, false, true≢false, cond, refl, sym, ap, ◌∙◌, eqb, eq-eqb, ne_eqb}
use Rattle.words.specs.Kinds.{ENDED, FEATURES, SUBCOMPONENTS, PROPERTIES}
use Rattle.tokens.specs.Laws.{cases}
use Rattle.steps.specs.Steps.{Step, next, is, the}
use Rattle.steps.specs.Lifted.{first_kind, holds}
use Rattle.steps.specs.Laws.{Moved, moved_less, moves_the, weighs, kind_on, kind_off}
use Rattle.phrases.specs.Phrases.{section_kind, skipped}
use Rattle.phrases.specs.Laws.{skipped_moves}
use Rattle.rows.specs.Rows.{a_process, a_type}
use Rattle.rows.specs.Said.{Said, Rule, quiet, adding}
use Rattle.rows.specs.States.{State, does}
use Rattle.rows.specs.Laws.{MovesOn, AdvancesOn, moved_onward, moves_adding, moves_repeat, by_went, does_then}
use Rattle.properties.specs.Properties.{of_thread, of_process, none_or, properties_in}
use Rattle.properties.specs.Laws.{none_or_moves, properties_in_moves}
use Rattle.features.specs.Features.{features}
use Rattle.features.specs.Laws.{features_moves}
use Rattle.threads.specs.Threads.{subcomponents}
use Rattle.threads.specs.Laws.{subcomponents_moves}
use Rattle.links.specs.Links.{connections}
use Rattle.links.specs.Laws.{connections_moves}
use Rattle.declarations.specs.Sections.{list_kind, allowed, listed, list_in, properties_of, section, begins, sections}

-- the text's end begins no section
list_ended : (of : ℕ) → list_kind of ENDED ≡ false
unfolding list_kind
list_ended of = go (eqb of a_type) (eqb of a_process)
  where
    go : (a b : Bool) → cond a false (cond b (cond false true false) false) ≡ false
    go true b = refl
    go false true = refl
    go false false = refl

allowed_ended : (of : ℕ) → allowed of ENDED ≡ false
unfolding allowed section_kind
allowed_ended of = refl

pub begins_on : (of : ℕ) (s : Step) → allowed of (first_kind s) ≡ true → holds (begins of) s ≡ true
begins_on of s h = kind_on (allowed of) s (allowed_ended of) h

pub begins_off : (of : ℕ) (s : Step) → allowed of (first_kind s) ≡ false → holds (begins of) s ≡ false
begins_off of s h = kind_off (allowed of) s h

-- ## What the code does

-- a choice that does not look at the tokens
module _ (f g : Rule) (s : State) where
  by_true : (b : Bool) → b ≡ true → does s f ≡ does s (λ ps ts. cond b (f ps ts) (g ps ts))
  by_true true h = refl
  by_true false h = absurd (true≢false (sym h))

  by_false : (b : Bool) → b ≡ false → does s g ≡ does s (λ ps ts. cond b (f ps ts) (g ps ts))
  by_false true h = absurd (true≢false h)
  by_false false h = refl

module _ (word : Kind) (place : ℕ) (s : State) where
  abbrev inner : Rule
  inner ps ts = cond (same_kind word SUBCOMPONENTS) (subcomponents place ps ts) (connections place ps ts)

  pub listed_features : same_kind word FEATURES ≡ true → does s (features place) ≡ does s (listed word place)
  unfolding listed
  listed_features e = by_true (features place) inner s (same_kind word FEATURES) e

  pub listed_subcomponents : same_kind word FEATURES ≡ false → same_kind word SUBCOMPONENTS ≡ true →
      does s (subcomponents place) ≡ does s (listed word place)
  unfolding listed
  listed_subcomponents n e =
      by_true (subcomponents place) (connections place) s (same_kind word SUBCOMPONENTS) e
      ∙ by_false (features place) inner s (same_kind word FEATURES) n

  pub listed_connections : same_kind word FEATURES ≡ false → same_kind word SUBCOMPONENTS ≡ false →
      does s (connections place) ≡ does s (listed word place)
  unfolding listed
  listed_connections n m =
      by_false (subcomponents place) (connections place) s (same_kind word SUBCOMPONENTS) m
      ∙ by_false (features place) inner s (same_kind word FEATURES) n

  pub list_does : does (does s (quiet (the word))) (none_or (listed word place)) ≡ does s (list_in word place)
  unfolding list_in
  list_does = does_then s (quiet (the word)) (none_or (listed word place))

module _ (of : ℕ) (s : State) where
  pub properties_noted : of ≡ a_process → does s (properties_in of_process) ≡ does s (properties_of of)
  unfolding properties_of
  properties_noted e = by_true (properties_in of_process) (adding (properties_in of_thread)) s (eqb of a_process) (eq-eqb of a_process e)

  pub properties_added : (of ≡ a_process → ⊥) → does s (adding (properties_in of_thread)) ≡ does s (properties_of of)
  unfolding properties_of
  properties_added n = by_false (properties_in of_process) (adding (properties_in of_thread)) s (eqb of a_process) (ne_eqb of a_process n)

module _ (of place : ℕ) (s : State) where
  pub section_list : list_kind of (first_kind s.went) ≡ true → does s (list_in (first_kind s.went) place) ≡ does s (section of place)
  unfolding does section
  section_list =
      by_went (λ (s : State). list_kind of (first_kind s.went) ≡ true →
      does s (list_in (first_kind s.went) place) ≡ does s (section of place))
      (λ ts qs x t h. rw h) (λ f qs x t h. refl) s

  pub section_properties : list_kind of (first_kind s.went) ≡ false → same_kind (first_kind s.went) PROPERTIES ≡ true →
      does s (properties_of of) ≡ does s (section of place)
  unfolding does section
  section_properties =
      by_went (λ (s : State). list_kind of (first_kind s.went) ≡ false →
      same_kind (first_kind s.went) PROPERTIES ≡ true → does s (properties_of of) ≡ does s (section of place))
      (λ ts qs x t h e. rw (h, e)) (λ f qs x t h e. refl) s

  pub section_skipped : list_kind of (first_kind s.went) ≡ false → same_kind (first_kind s.went) PROPERTIES ≡ false →
      does s (quiet skipped) ≡ does s (section of place)
  unfolding does section
  section_skipped =
      by_went (λ (s : State). list_kind of (first_kind s.went) ≡ false →
      same_kind (first_kind s.went) PROPERTIES ≡ false → does s (quiet skipped) ≡ does s (section of place))
      (λ ts qs x t h n. rw (h, n)) (λ f qs x t h n. refl) s

-- ## How far it goes

listed_moves : (word : Kind) (place : ℕ) → MovesOn 0 (listed word place)
unfolding listed
listed_moves word place ps ts =
    cases (λ (s : Said). Moved 0 ts s.went) (same_kind word FEATURES) (λ _. features_moves place ps ts)
    (λ _. cases (λ (s : Said). Moved 0 ts s.went) (same_kind word SUBCOMPONENTS)
    (λ _. subcomponents_moves place ps ts) (λ _. connections_moves place ps ts))

list_moves : (word : Kind) (place : ℕ) → same_kind word ENDED ≡ false → MovesOn 1 (list_in word place)
unfolding list_in
list_moves word place n ps ts =
    moved_onward _ (none_or (listed word place)) (moved_less 1 (weighs word n) (moves_the word n ts))
    (none_or_moves (listed word place) (listed_moves word place))

properties_moves : (of : ℕ) → MovesOn 1 (properties_of of)
unfolding properties_of
properties_moves of ps ts =
    cases (λ (s : Said). Moved 1 ts s.went) (eqb of a_process) (λ _. properties_in_moves of_process ps ts)
    (λ _. moves_adding (properties_in of_thread) (properties_in_moves of_thread) ps ts)

pub section_advances : (of place : ℕ) → AdvancesOn (begins of) (section of place)
unfolding section
section_advances of place ps ts h =
    let real : same_kind (next ts) ENDED ≡ false =
    kind_differs (next ts) ENDED (λ e. true≢false (sym h ∙ ap (allowed of) e ∙ allowed_ended of)) in
    cases (λ (s : Said). Moved 1 ts s.went) (list_kind of (next ts)) (λ _. list_moves (next ts) place real ps ts)
    (λ _. cases (λ (s : Said). Moved 1 ts s.went) (is PROPERTIES ts) (λ _. properties_moves of ps ts) (λ _. skipped_moves ts real))

pub sections_moves : (of place : ℕ) → MovesOn 0 (sections of place)
unfolding sections
sections_moves of place = moves_repeat (begins of) (section of place) (section_advances of place)
