-- Laws of subcomponents: what the code does one after another is what the rules say, and how far they go.
use Rattle.std.specs.Prelude.{◌≡◌}
use Rattle.common.specs.Words.{ℕ, arith, true, false, refl, ap, ◌∙◌}
use Rattle.words.specs.Kinds.{THREAD, DOT, SEMICOLON}
use Rattle.tokens.specs.Laws.{cases}
use Rattle.steps.specs.Steps.{Step, ◌⟫◌, head, next, named, the, name}
use Rattle.steps.specs.Lifted.{first, first_kind}
use Rattle.steps.specs.Laws.{Moved, moved_less, moves_the, kind_on, kind_off}
use Rattle.phrases.specs.Phrases.{scopes, classifier, label, word_and_rest}
use Rattle.phrases.specs.Laws.{classifier_moves, label_moves, word_moves}
use Rattle.rows.specs.Rows.{thread_row}
use Rattle.rows.specs.Said.{Said, quiet, ◌⨟◌, put, apart}
use Rattle.rows.specs.States.{State, does}
use Rattle.rows.specs.Laws.{MovesOn, moved_onward, moves_quiet, moves_put, moves_apart, moves_repeat, advances_on, does_then, does_then_at, does_on}
use Rattle.rows.specs.Laws.{does_off}
use Rattle.properties.specs.Properties.{of_thread, maybe_block_in}
use Rattle.properties.specs.Laws.{maybe_block_moves}
use Rattle.threads.specs.Threads.{type_in, implementation_in, thread_of, thread, other_component, subcomponent_of, subcomponent, subcomponents}

-- ## One after another

module _ (p n : ℕ) (s : State) where
  pub thread_of_does : (t i : ℕ) → t ≡ (first (s.went ⟫ scopes)).start → i ≡ (first (s.went ⟫ scopes ⟫ name ⟫ the DOT)).start →
      does (does (does (does s (quiet classifier)) (maybe_block_in of_thread)) (quiet (the SEMICOLON))) (put (λ qs. thread_row p n t i qs))
      ≡ does s (thread_of p n)
  unfolding thread_of type_in implementation_in
  thread_of_does t i e f =
      ap (λ (r : State). does (does r (quiet (the SEMICOLON))) (put (λ qs. thread_row p n t i qs)))
      (does_then s (quiet classifier) (maybe_block_in of_thread))
      ∙ ap (λ (r : State). does r (put (λ qs. thread_row p n t i qs)))
      (does_then s (λ ps ts. quiet classifier ps ts ⨟ maybe_block_in of_thread) (quiet (the SEMICOLON)))
      ∙ does_then_at s (λ ps ts. quiet classifier ps ts ⨟ maybe_block_in of_thread ⨟ quiet (the SEMICOLON))
      (put (λ qs. thread_row p n t i qs))
      (λ ts. put (λ qs. thread_row p n (type_in ts) (implementation_in ts) qs))
      (λ ts w. rw (e, f, w))

  pub thread_does : does (does s (quiet (the THREAD))) (thread_of p n) ≡ does s (thread p n)
  unfolding thread
  thread_does = does_then s (quiet (the THREAD)) (thread_of p n)

  pub other_does : other_component (first_kind s.went) ≡ true → does s (quiet word_and_rest) ≡ does s (subcomponent_of p n)
  unfolding subcomponent_of other_component
  other_does h = does_on (λ ts. other_component (next ts)) (quiet word_and_rest) (apart (thread p n)) s (kind_on other_component s.went refl h)

  pub threaded_does : other_component (first_kind s.went) ≡ false → does s (apart (thread p n)) ≡ does s (subcomponent_of p n)
  unfolding subcomponent_of
  threaded_does h = does_off (λ ts. other_component (next ts)) (quiet word_and_rest) (apart (thread p n)) s (kind_off other_component s.went h)

pub subcomponent_does : (p : ℕ) (s : State) → does (does s (quiet label)) (subcomponent_of p (first s.went).start) ≡ does s (subcomponent p)
unfolding subcomponent
subcomponent_does p s =
    does_then_at s (quiet label) (subcomponent_of p (first s.went).start) (λ ts. subcomponent_of p (head ts).start)
    (λ ts w. ap (λ (x : Step). subcomponent_of p (first x).start) w)

-- ## How far they go

thread_of_moves : (p n : ℕ) → MovesOn 2 (thread_of p n)
unfolding thread_of
thread_of_moves p n ps ts =
    moved_onward _ (put (λ qs. thread_row p n (type_in ts) (implementation_in ts) qs))
    (moved_onward _ (quiet (the SEMICOLON)) (moved_onward _ (maybe_block_in of_thread) (classifier_moves ts) (maybe_block_moves of_thread))
    (moves_quiet (the SEMICOLON) (moves_the SEMICOLON refl)))
    (moves_put (λ qs. thread_row p n (type_in ts) (implementation_in ts) qs))

thread_moves : (p n : ℕ) → MovesOn 8 (thread p n)
unfolding thread
thread_moves p n ps ts = moved_onward _ (thread_of p n) (moves_the THREAD refl ts) (thread_of_moves p n)

subcomponent_of_moves : (p n : ℕ) → MovesOn 1 (subcomponent_of p n)
unfolding subcomponent_of
subcomponent_of_moves p n ps ts =
    cases (λ (s : Said). Moved 1 ts s.went) (other_component (next ts)) (λ _. word_moves ts)
    (λ _. moved_less 1 (omega arith) (moves_apart (thread p n) (thread_moves p n) ps ts))

pub subcomponent_moves : (p : ℕ) → MovesOn 3 (subcomponent p)
unfolding subcomponent
subcomponent_moves p ps ts = moved_onward _ (subcomponent_of p (head ts).start) (label_moves ts) (subcomponent_of_moves p (head ts).start)

pub subcomponents_moves : (p : ℕ) → MovesOn 0 (subcomponents p)
unfolding subcomponents
subcomponents_moves p = moves_repeat named (subcomponent p) (advances_on named (subcomponent p) (subcomponent_moves p))
