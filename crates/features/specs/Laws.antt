-- Laws of features: what the code does one after another is what the rules say, and how far they go.
use Rattle.words.specs.Same.{same_kind}
use Rattle.std.specs.Prelude.{◌≡◌}
use Rattle.common.specs.Words.{ℕ, arith, true, false, refl, ap, ◌∙◌}
use Rattle.words.specs.Kinds.{IN, OUT, SEMICOLON}
use Rattle.tokens.specs.Laws.{cases}
use Rattle.steps.specs.Steps.{Step, On, Stop, ◌⟫◌, head, next, named, the}
use Rattle.steps.specs.Lifted.{first, first_kind, second_kind}
use Rattle.steps.specs.Laws.{Moved, Moves, moved_then, moved_less, moves_the, kind_on, kind_off}
use Rattle.phrases.specs.Phrases.{direction, port_kind, maybe_classifier, label, word_and_rest}
use Rattle.phrases.specs.Laws.{direction_moves, port_kind_moves, maybe_classifier_moves, label_moves, word_moves}
use Rattle.rows.specs.Rows.{port_row}
use Rattle.rows.specs.Said.{Said, quiet, ◌⨟◌, put, apart}
use Rattle.rows.specs.States.{State, does}
use Rattle.rows.specs.Laws.{MovesOn, moved_onward, moves_quiet, moves_put, moves_apart, moves_repeat, advances_on, does_then, does_then_at, does_on}
use Rattle.rows.specs.Laws.{does_off}
use Rattle.properties.specs.Properties.{of_port, maybe_block_in}
use Rattle.properties.specs.Laws.{maybe_block_moves}
use Rattle.features.specs.Features.{direction_of, port_head, port, other_feature, feature_of, feature, features}

-- a port's direction
module _ (s : Step) where
  pub way_out : same_kind (first_kind s) IN ≡ false → 2 ≡ direction_of s
  unfolding direction_of
  way_out n = rw n

  pub way_both : same_kind (first_kind s) IN ≡ true → same_kind (second_kind s) OUT ≡ true → 3 ≡ direction_of s
  unfolding direction_of
  way_both e f = rw (e, f)

  pub way_in : same_kind (first_kind s) IN ≡ true → same_kind (second_kind s) OUT ≡ false → 1 ≡ direction_of s
  unfolding direction_of
  way_in e n = rw (e, n)

pub head_then : (s : Step) → s ⟫ direction ⟫ port_kind ⟫ maybe_classifier ≡ s ⟫ port_head
unfolding port_head
head_then (On ts) = refl
head_then (Stop f) = refl

-- ## One after another

module _ (o n : ℕ) (s : State) where
  pub port_does : (d : ℕ) → d ≡ direction_of s.went →
      does (does (does (does s (quiet port_head)) (maybe_block_in of_port)) (quiet (the SEMICOLON))) (put (λ qs. port_row o n d qs))
      ≡ does s (port o n)
  unfolding port
  port_does d e =
      ap (λ (t : State). does (does t (quiet (the SEMICOLON))) (put (λ qs. port_row o n d qs)))
      (does_then s (quiet port_head) (maybe_block_in of_port))
      ∙ ap (λ (t : State). does t (put (λ qs. port_row o n d qs)))
      (does_then s (λ ps ts. quiet port_head ps ts ⨟ maybe_block_in of_port) (quiet (the SEMICOLON)))
      ∙ does_then_at s (λ ps ts. quiet port_head ps ts ⨟ maybe_block_in of_port ⨟ quiet (the SEMICOLON)) (put (λ qs. port_row o n d qs))
      (λ ts. put (λ qs. port_row o n (direction_of (On ts)) qs))
      (λ ts w. ap (λ (x : ℕ). put (λ qs. port_row o n x qs)) (e ∙ ap direction_of w))

  pub other_does : other_feature (first_kind s.went) ≡ true → does s (quiet word_and_rest) ≡ does s (feature_of o n)
  unfolding feature_of other_feature
  other_does h = does_on (λ ts. other_feature (next ts)) (quiet word_and_rest) (apart (port o n)) s (kind_on other_feature s.went refl h)

  pub ported_does : other_feature (first_kind s.went) ≡ false → does s (apart (port o n)) ≡ does s (feature_of o n)
  unfolding feature_of
  ported_does h = does_off (λ ts. other_feature (next ts)) (quiet word_and_rest) (apart (port o n)) s (kind_off other_feature s.went h)

pub feature_does : (o : ℕ) (s : State) → does (does s (quiet label)) (feature_of o (first s.went).start) ≡ does s (feature o)
unfolding feature
feature_does o s = does_then_at s (quiet label) (feature_of o (first s.went).start)
    (λ ts. feature_of o (head ts).start) (λ ts w. ap (λ (x : Step). feature_of o (first x).start) w)

-- ## How far they go

pub head_moves : Moves 6 port_head
unfolding port_head
head_moves ts = moved_then (moved_then (direction_moves ts) port_kind_moves) maybe_classifier_moves

port_moves : (o n : ℕ) → MovesOn 7 (port o n)
unfolding port
port_moves o n ps ts =
    moved_onward _ (put (λ qs. port_row o n (direction_of (On ts)) qs))
    (moved_onward _ (quiet (the SEMICOLON)) (moved_onward _ (maybe_block_in of_port) (head_moves ts) (maybe_block_moves of_port))
    (moves_quiet (the SEMICOLON) (moves_the SEMICOLON refl)))
    (moves_put (λ qs. port_row o n (direction_of (On ts)) qs))

feature_of_moves : (o n : ℕ) → MovesOn 1 (feature_of o n)
unfolding feature_of
feature_of_moves o n ps ts =
    cases (λ (s : Said). Moved 1 ts s.went) (other_feature (next ts)) (λ _. word_moves ts)
    (λ _. moved_less 1 (omega arith) (moves_apart (port o n) (port_moves o n) ps ts))

pub feature_moves : (o : ℕ) → MovesOn 3 (feature o)
unfolding feature
feature_moves o ps ts = moved_onward _ (feature_of o (head ts).start) (label_moves ts) (feature_of_moves o (head ts).start)

pub features_moves : (o : ℕ) → MovesOn 0 (features o)
unfolding features
features_moves o = moves_repeat named (feature o) (advances_on named (feature o) (feature_moves o))
