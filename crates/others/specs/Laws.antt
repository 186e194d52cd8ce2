-- Laws of other declarations: what the code does token by token is what the rule says, and how far it goes.
use Rattle.steps.specs.declared.faults.Rule.TheVariants.{Unfit}
use Rattle.words.specs.Same.{kind_differs}
use Rattle.words.specs.declared.kinds.Kind.{Kind}
use Rattle.std.specs.Prelude.{◌<◌, ◌∷◌, ◌≡◌, ◌&&◌, Option, Some}
use Rattle.common.specs.Words.{ℕ, arith, Bool, true, false, true≢false, List, [], refl, sym, ap, ◌∙◌}
use Rattle.words.specs.Kinds.{ENDED, END, SEMICOLON}
use Rattle.tokens.specs.Tokens.{Token}
use Rattle.tokens.specs.Laws.{cases}
use Rattle.steps.specs.declared.faults.Fault.{Fault}
use Rattle.steps.specs.Faults.{fault, no_fault, worse, worst}
use Rattle.steps.specs.Steps.{Step, On, Stop, ◌⟫◌, next, any, the}
use Rattle.steps.specs.Lifted.{first, first_kind, second_kind, size}
use Rattle.steps.specs.Laws.{Moved, Moves, moved_on, moves_any, moved_any, moved_then, moved_less, moves_the, went, goes_none}
use Rattle.phrases.specs.Phrases.{path}
use Rattle.phrases.specs.Laws.{path_moves}
use Rattle.rows.specs.Rows.{Store, with_rows}
use Rattle.rows.specs.declared.Reading.{Reading}
use Rattle.rows.specs.Said.{Said, quiet, ◌⨟◌}
use Rattle.rows.specs.States.{State, state, reading, does}
use Rattle.properties.specs.Properties.{from_outside}
use Rattle.rows.specs.Laws.{MovesOn, moved_onward, moves_quiet, by_went, does_then, does_then_at, worst_append}
use Rattle.others.specs.Others.{outside_kind, reaching, ends_waiting, waiting_after, noted_at, last_kind, passing, path_end, other}

-- the same reading, with these notes
abbrev pub noted_with : Reading → List Fault → Reading
noted_with r ns = reading r.went r.props r.count (worst r.fault ns)

-- ## A token more

last_ended : last_kind ENDED ≡ true
unfolding last_kind
last_ended = refl

-- one that does not end it is not the text's end
real : (k : Kind) → last_kind k ≡ false → k ≡ ENDED → ⊥
real k h e = true≢false (sym last_ended ∙ ap last_kind (sym e) ∙ h)

any_one : (k : Token) (ts : List Token) → last_kind k.kind ≡ false → any (k ∷ ts) ≡ On ts
unfolding any
any_one k ts h = rw (kind_differs k.kind ENDED (real k.kind h))

module _ (outside : Bool) (w : List Fault) where
  abbrev pub waits : Step → List Fault
  waits s = waiting_after outside w (first_kind s) (second_kind s) (first s).start

  pub passing_on : (s : State) → last_kind (first_kind s.went) ≡ false →
      does (state (s.went ⟫ any) s.props (worst s.fault (noted_at w (first_kind s.went))) s.store) (passing outside (waits s.went))
      ≡ does s (passing outside w)
  unfolding does passing
  passing_on s =
      by_went (λ (s : State). last_kind (first_kind s.went) ≡ false →
      does (state (s.went ⟫ any) s.props (worst s.fault (noted_at w (first_kind s.went))) s.store) (passing outside (waits s.went))
      ≡ does s (passing outside w))
      go (λ f qs x t h. absurd (true≢false (sym last_ended ∙ h))) s
    where
      go : (ts : List Token) (qs : List ℕ) (x : Option Fault) (t : Store) → last_kind (next ts) ≡ false →
          does (state (any ts) qs (worst x (noted_at w (next ts))) t) (passing outside (waits (On ts)))
          ≡ does (state (On ts) qs x t) (passing outside w)
      go [] qs x t h = absurd (true≢false (sym last_ended ∙ h))
      go (k ∷ ts) qs x t h =
          rw (any_one k ts h, h, worst_append x (noted_at w k.kind) (passing outside (waits (On (k ∷ ts))) qs ts).notes)

  pub passing_off : (s : State) → last_kind (first_kind s.went) ≡ true → s ≡ does s (passing outside w)
  unfolding does passing worst with_rows
  passing_off s =
      by_went (λ (s : State). last_kind (first_kind s.went) ≡ true → s ≡ does s (passing outside w)) go (λ f qs x t h. refl) s
    where
      go : (ts : List Token) (qs : List ℕ) (x : Option Fault) (t : Store) → last_kind (next ts) ≡ true →
          state (On ts) qs x t ≡ does (state (On ts) qs x t) (passing outside w)
      go [] qs x t h = refl
      go (k ∷ ts) qs x t h = rw h

pub passing_less : (s : Step) → last_kind (first_kind s) ≡ false → size (s ⟫ any) < size s
passing_less (On []) h = absurd (true≢false (sym last_ended ∙ h))
passing_less (On (k ∷ ts)) h = rw (any_one k ts h) (omega arith)
passing_less (Stop f) h = absurd (true≢false (sym last_ended ∙ h))

-- the least of those that wait, as the code knows it
module _ (o : Bool) (w : List Fault) (v : Option Fault) (e : v ≡ worst no_fault w) (k l : Kind) (i : ℕ) where
  pub waits_none : ends_waiting k ≡ true → no_fault ≡ worst no_fault (waiting_after o w k l i)
  unfolding waiting_after worst
  waits_none h = rw h

  pub waits_same : ends_waiting k ≡ false → (o && reaching k l) ≡ false → v ≡ worst no_fault (waiting_after o w k l i)
  unfolding waiting_after
  waits_same d h = rw (d, h) e

  pub waits_more : ends_waiting k ≡ false → (o && reaching k l) ≡ true →
      worse v (Some (fault Unfit i from_outside)) ≡ worst no_fault (waiting_after o w k l i)
  unfolding waiting_after worst
  waits_more d h = rw (d, h, e) (sym (worst_append no_fault w (fault Unfit i from_outside ∷ [])))

-- ## In a row

pub path_end_then : (s : Step) → s ⟫ the END ⟫ path ⟫ the SEMICOLON ≡ s ⟫ path_end
unfolding path_end
path_end_then (On ts) = refl
path_end_then (Stop f) = refl

pub other_does : (s : State) (o : Bool) → o ≡ outside_kind (first_kind s.went) →
    does (does (does s (quiet any)) (passing o [])) (quiet path_end) ≡ does s other
unfolding other
other_does s o e =
    ap (λ (t : State). does t (quiet path_end))
    (does_then_at s (quiet any) (passing o []) (λ ts. passing (outside_kind (next ts)) [])
    (λ ts u. ap (λ (b : Bool). passing b []) (e ∙ ap (λ (x : Step). outside_kind (first_kind x)) u)))
    ∙ does_then s (λ ps ts. quiet any ps ts ⨟ passing (outside_kind (next ts)) []) (quiet path_end)

-- ## How far it goes

behind : {a b : List Token} {s : Step} → Moved 1 a (On b) → Moved 0 b s → Moved 0 a s
behind (went g) m = moved_less 0 (omega arith) (moved_on g m)

pub passing_moves : (o : Bool) (w : List Fault) → MovesOn 0 (passing o w)
unfolding passing
passing_moves o w ps [] = went (goes_none [])
passing_moves o w ps (k ∷ ts) =
    cases (λ (s : Said). Moved 0 (k ∷ ts) s.went) (last_kind k.kind) (λ _. went (goes_none (k ∷ ts)))
    (λ h. let one : Moved 1 (k ∷ ts) (On ts) = rw (any_one k ts h) at (moved_any (k ∷ ts) (kind_differs k.kind ENDED (real k.kind h))) in
    behind one (passing_moves o (waiting_after o w k.kind (next ts) k.start) ps ts))

pub path_end_moves : Moves 3 path_end
unfolding path_end
path_end_moves ts = moved_then (moved_then (moves_the END refl ts) path_moves) (moves_the SEMICOLON refl)

pub other_moves : MovesOn 3 other
unfolding other
other_moves ps ts =
    moved_onward _ (quiet path_end) (moved_onward _ (passing (outside_kind (next ts)) []) (moves_any ts) (passing_moves (outside_kind (next ts)) []))
    (moves_quiet path_end path_end_moves)
