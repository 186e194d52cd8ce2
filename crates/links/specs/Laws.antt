-- Laws of connections: what the code does one after another is what the rules say, and how far they go.
use Rattle.std.specs.Prelude.{◌&&◌, ◌≡◌}
use Rattle.common.specs.Words.{ℕ, arith, Bool, true, false, cond, List, refl, ap, ◌∙◌, ne_eqb}
use Rattle.words.specs.Kinds.{SEMICOLON}
use Rattle.tokens.specs.Tokens.{Token}
use Rattle.tokens.specs.Laws.{cases}
use Rattle.steps.specs.Steps.{Step, On, Stop, ◌⟫◌, head, next, second, the}
use Rattle.steps.specs.Lifted.{first, first_kind, second_kind, holds}
use Rattle.steps.specs.Laws.{Moved, Moves, moved_then, moved_less, moves_the}
use Rattle.phrases.specs.Phrases.{maybe_label, word_and_rest}
use Rattle.phrases.specs.Laws.{link_kind_moves, place_moves, arrow_moves, word_moves, maybe_label_moves}
use Rattle.rows.specs.Said.{Said, Rule, quiet, ◌⨟◌, optionally, put, apart}
use Rattle.rows.specs.States.{State, does}
use Rattle.rows.specs.Laws.{MovesOn, moved_onward, moves_quiet, moves_put, moves_apart, moves_repeat, advances_on, by_went, does_then, does_then_at}
use Rattle.rows.specs.Laws.{does_on, does_off, optionally_off, moves_optionally}
use Rattle.properties.specs.Properties.{of_port, maybe_block_in}
use Rattle.properties.specs.Laws.{maybe_block_moves}
use Rattle.links.specs.Links.{ends, sending, receiving, pointed, timing_by, linked, declared, link, other_kind, connection_of, label_in, connection}
use Rattle.links.specs.Links.{connection_kind, connections}

-- a connection's Timing
pub timing_block : (t : ℕ) (d : Bool) → (t ≡ 0 → ⊥) → t ≡ timing_by t d
unfolding timing_by
timing_block t d n = rw (ne_eqb t 0 n)

pub timing_arrow : (t : ℕ) (d : Bool) → t ≡ 0 → cond d 1 0 ≡ timing_by t d
unfolding timing_by
timing_arrow t d e = rw e

-- ## One after another

module _ (p start n : ℕ) (s : State) where
  -- up to its end
  abbrev pub whole : State
  whole = does (does (does s (quiet (λ us. ends (On us)))) (maybe_block_in of_port)) (quiet (the SEMICOLON))

  link_by : (h : Rule) → ((ts : List Token) → s.went ≡ On ts → h ≡ declared p start n (On ts)) → does whole h ≡ does s (link p start n)
  unfolding link
  link_by h e =
      ap (λ (t : State). does (does t (quiet (the SEMICOLON))) h) (does_then s (quiet (λ us. ends (On us))) (maybe_block_in of_port))
      ∙ ap (λ (t : State). does t h) (does_then s (λ ps ts. quiet (λ us. ends (On us)) ps ts ⨟ maybe_block_in of_port) (quiet (the SEMICOLON)))
      ∙ does_then_at s (λ ps ts. quiet (λ us. ends (On us)) ps ts ⨟ maybe_block_in of_port ⨟ quiet (the SEMICOLON)) h
      (λ ts. declared p start n (On ts)) e

  abbrev pub between : Bool
  between = pointed (sending s.went) && pointed (receiving s.went)

  -- between threads, and not
  pub link_between : between ≡ true → does whole (put (linked p start n s.went)) ≡ does s (link p start n)
  unfolding declared optionally does
  link_between b =
      by_went (λ (t : State). does t (put (linked p start n s.went)) ≡ does t (declared p start n s.went))
      (λ ts qs x t. rw b) (λ f qs x t. refl) whole
      ∙ link_by (declared p start n s.went) (λ ts w. ap (declared p start n) w)

  pub link_passed : between ≡ false → whole ≡ does s (link p start n)
  unfolding declared
  link_passed b =
      optionally_off (λ us. between) (put (linked p start n s.went)) whole (holds_never whole.went)
      ∙ link_by (declared p start n s.went) (λ ts w. ap (declared p start n) w)
    where
      holds_never : (w : Step) → holds (λ us. between) w ≡ false
      holds_never (On us) = b
      holds_never (Stop f) = refl

  pub other_does : other_kind (first_kind s.went) (second_kind s.went) ≡ true → does s (quiet word_and_rest) ≡ does s (connection_of p start n)
  unfolding connection_of other_kind
  other_does h = does_on (λ ts. other_kind (next ts) (second ts)) (quiet word_and_rest) (apart (link p start n)) s (kinds_on s.went h)
    where
      kinds_on : (w : Step) → other_kind (first_kind w) (second_kind w) ≡ true → holds (λ ts. other_kind (next ts) (second ts)) w ≡ true
      kinds_on (On ts) h = h
      kinds_on (Stop f) h = h

  pub between_does : other_kind (first_kind s.went) (second_kind s.went) ≡ false →
      does s (apart (link p start n)) ≡ does s (connection_of p start n)
  unfolding connection_of
  between_does h = does_off (λ ts. other_kind (next ts) (second ts)) (quiet word_and_rest) (apart (link p start n)) s (kinds_off s.went h)
    where
      kinds_off : (w : Step) → other_kind (first_kind w) (second_kind w) ≡ false → holds (λ ts. other_kind (next ts) (second ts)) w ≡ false
      kinds_off (On ts) h = h
      kinds_off (Stop f) h = refl

pub ends_does : (s : Step) → ends s ≡ s ⟫ (λ us. ends (On us))
unfolding ends
ends_does (On ts) = refl
ends_does (Stop f) = refl

pub connection_does : (p : ℕ) (s : State) →
    does (does s (quiet maybe_label)) (connection_of p (first s.went).start (label_in s.went)) ≡ does s (connection p)
unfolding connection
connection_does p s =
    does_then_at s (quiet maybe_label) (connection_of p (first s.went).start (label_in s.went))
    (λ ts. connection_of p (head ts).start (label_in (On ts)))
    (λ ts w. ap (λ (x : Step). connection_of p (first x).start (label_in x)) w)

-- ## How far they go

pub ends_moves : Moves 8 (λ us. ends (On us))
unfolding ends
ends_moves ts = moved_then (moved_then (moved_then (link_kind_moves ts) place_moves) arrow_moves) place_moves

link_moves : (p start n : ℕ) → MovesOn 9 (link p start n)
unfolding link declared
link_moves p start n ps ts =
    moved_onward _ (declared p start n (On ts))
    (moved_onward _ (quiet (the SEMICOLON)) (moved_onward _ (maybe_block_in of_port) (ends_moves ts) (maybe_block_moves of_port))
    (moves_quiet (the SEMICOLON) (moves_the SEMICOLON refl)))
    (moves_optionally (λ us. pointed (sending (On ts)) && pointed (receiving (On ts)))
    (put (linked p start n (On ts))) (moves_put (linked p start n (On ts))))

connection_of_moves : (p start n : ℕ) → MovesOn 1 (connection_of p start n)
unfolding connection_of
connection_of_moves p start n ps ts =
    cases (λ (s : Said). Moved 1 ts s.went) (other_kind (next ts) (second ts)) (λ _. word_moves ts)
    (λ _. moved_less 1 (omega arith) (moves_apart (link p start n) (link_moves p start n) ps ts))

pub connection_moves : (p : ℕ) → MovesOn 1 (connection p)
unfolding connection
connection_moves p ps ts =
    moved_onward _ (connection_of p (head ts).start (label_in (On ts))) (maybe_label_moves ts)
    (connection_of_moves p (head ts).start (label_in (On ts)))

pub connections_moves : (p : ℕ) → MovesOn 0 (connections p)
unfolding connections
connections_moves p = moves_repeat (λ ts. connection_kind (next ts)) (connection p)
    (advances_on (λ ts. connection_kind (next ts)) (connection p) (connection_moves p))
