-- Laws of rules that say more: what is done in a row, by a choice, again and again, with properties of its own.
use Rattle.std.specs.Prelude.{◌+◌, ◌<◌, ◌∷◌, ◌++◌, ◌≡◌, Ok, Err, Option, Some}
use Rattle.common.specs.Words.{ℕ, zero, suc, arith, Bool, true, false, true≢false, cond, List, [], refl, sym, ◌∙◌, length}
use Rattle.tokens.specs.Tokens.{Token}
use Rattle.tokens.specs.Laws.{cases}
use Rattle.steps.specs.declared.faults.Fault.{Fault}
use Rattle.steps.specs.Faults.{worse, worst}
use Rattle.steps.specs.Steps.{Step, On, Stop, ◌⟫◌}
use Rattle.steps.specs.Lifted.{holds, size}
use Rattle.steps.specs.Laws.{going, Moved, went, stopped, goes_none, goes_shorter, moved_then, moved_less}
use Rattle.rows.specs.Rows.{Row, Store, store, with_row, with_rows}
use Rattle.rows.specs.Said.{Said, said, Rule, quiet, joined, onward, ◌⨟◌, optionally, repeat_by, repeat, put, no_props, merged, apart, adding}
use Rattle.rows.specs.declared.Reading.{Reading}
use Rattle.rows.specs.States.{State, state, state_of, effect, does, reading}

pub worst_append : (f : Option Fault) (a b : List Fault) → worst f (a ++ b) ≡ worst (worst f a) b
unfolding worst
worst_append f [] b = refl
worst_append f (g ∷ a) b = worst_append (worse f (Some g)) a b

pub rows_append : (s : Store) (a b : List Row) → with_rows s (a ++ b) ≡ with_rows (with_rows s a) b
unfolding with_rows
rows_append s [] b = refl
rows_append s (x ∷ a) b = rows_append (with_row s x) a b

-- what is said in a row is done in a row
effect_joined : (s : State) (a b : Said) → effect (effect s a) b ≡ effect s (joined a b)
effect_joined s a b = rw (worst_append s.fault a.notes b.notes, rows_append s.store a.rows b.rows)

does_after : (s : State) (w : Step) (qs : List ℕ) (is : List Row) (ns : List Fault) (g : Rule) →
    does (effect s (said w qs is ns)) g ≡ effect s (said w qs is ns ⨟ g)
unfolding does
does_after s (On us) qs is ns g = effect_joined s (said (On us) qs is ns) (g qs us)
does_after s (Stop x) qs is ns g = refl

-- by cases on where the text goes on
pub by_went : (P : State → Type 0) → ((ts : List Token) (qs : List ℕ) (x : Option Fault) (t : Store) → P (state (On ts) qs x t)) →
    ((f : Fault) (qs : List ℕ) (x : Option Fault) (t : Store) → P (state (Stop f) qs x t)) → (s : State) → P s
by_went P on off s = go s.went
  where
    go : (w : Step) → P (state w s.props s.fault s.store)
    go (On ts) = on ts s.props s.fault s.store
    go (Stop f) = off f s.props s.fault s.store

pub does_then : (s : State) (f g : Rule) → does (does s f) g ≡ does s (λ ps ts. f ps ts ⨟ g)
unfolding does
does_then s f g =
    by_went (λ (s : State). does (does s f) g ≡ does s (λ ps ts. f ps ts ⨟ g))
    (λ ts qs x t. let a = f qs ts in does_after (state (On ts) qs x t) a.went a.props a.rows a.notes g) (λ f qs x t. refl) s

-- a rule that looks back at the tokens that the one before it began with; h is what it comes to there
pub does_then_at : (s : State) (f h : Rule) (g : List Token → Rule) → ((ts : List Token) → s.went ≡ On ts → h ≡ g ts) →
    does (does s f) h ≡ does s (λ ps ts. f ps ts ⨟ g ts)
unfolding does
does_then_at s f h g =
    by_went (λ (s : State). ((ts : List Token) → s.went ≡ On ts → h ≡ g ts) → does (does s f) h ≡ does s (λ ps ts. f ps ts ⨟ g ts))
    (λ ts qs x t e. rw (e ts refl) (let a = f qs ts in does_after (state (On ts) qs x t)
    a.went a.props a.rows a.notes (g ts))) (λ f qs x t e. refl) s

-- the same, where h is what it comes to only if the rule before it went on
pub does_then_going : (s : State) (f h : Rule) (g : List Token → Rule) →
    ((ts : List Token) → s.went ≡ On ts → going (f s.props ts).went ≡ true → h ≡ g ts) →
    does (does s f) h ≡ does s (λ ps ts. f ps ts ⨟ g ts)
unfolding does
does_then_going s f h g =
    by_went (λ (s : State). ((ts : List Token) → s.went ≡ On ts → going (f s.props ts).went ≡ true → h ≡ g ts) →
    does (does s f) h ≡ does s (λ ps ts. f ps ts ⨟ g ts))
    (λ ts qs x t e. let a = f qs ts in from_there ts qs x t a.went a.props a.rows a.notes (e ts refl)) (λ f qs x t e. refl) s
  where
    from_there : (ts : List Token) (qs : List ℕ) (x : Option Fault) (t : Store) (w : Step) (ps : List ℕ) (is : List Row) (ns : List Fault) →
        (going w ≡ true → h ≡ g ts) →
        does (effect (state (On ts) qs x t) (said w ps is ns)) h ≡ effect (state (On ts) qs x t) (said w ps is ns ⨟ g ts)
    from_there ts qs x t (On us) ps is ns e = rw (e refl) (does_after (state (On ts) qs x t) (On us) ps is ns (g ts))
    from_there ts qs x t (Stop y) ps is ns e = refl

-- a rule that says no more
pub does_quiet : (s : State) (f : List Token → Step) → state (s.went ⟫ f) s.props s.fault s.store ≡ does s (quiet f)
unfolding does worst with_rows
does_quiet s f =
    by_went (λ (s : State). state (s.went ⟫ f) s.props s.fault s.store ≡ does s (quiet f)) (λ ts qs x t. refl) (λ f qs x t. refl) s

-- a choice, where the code knows how its test comes out
module _ (b : List Token → Bool) (f g : Rule) where
  pub does_on : (s : State) → holds b s.went ≡ true → does s f ≡ does s (λ ps ts. cond (b ts) (f ps ts) (g ps ts))
  unfolding does
  does_on s =
      by_went (λ (s : State). holds b s.went ≡ true → does s f ≡ does s (λ ps ts. cond (b ts) (f ps ts) (g ps ts)))
      (λ ts qs x t h. rw h) (λ f qs x t h. refl) s

  pub does_off : (s : State) → holds b s.went ≡ false → does s g ≡ does s (λ ps ts. cond (b ts) (f ps ts) (g ps ts))
  unfolding does
  does_off s =
      by_went (λ (s : State). holds b s.went ≡ false → does s g ≡ does s (λ ps ts. cond (b ts) (f ps ts) (g ps ts)))
      (λ ts qs x t h. rw h) (λ f qs x t h. refl) s

stay : Rule
stay ps ts = said (On ts) ps [] []

does_stay : (s : State) → s ≡ does s stay
unfolding does stay worst with_rows
does_stay s = by_went (λ (s : State). s ≡ does s stay) (λ ts qs x t. refl) (λ f qs x t. refl) s

pub optionally_on : (b : List Token → Bool) (f : Rule) (s : State) → holds b s.went ≡ true → does s f ≡ does s (optionally b f)
unfolding optionally stay
optionally_on b f s h = does_on b f stay s h

pub optionally_off : (b : List Token → Bool) (f : Rule) (s : State) → holds b s.went ≡ false → s ≡ does s (optionally b f)
unfolding optionally stay
optionally_off b f s h = does_stay s ∙ does_off b f stay s h

-- ## How far such a rule goes

abbrev pub MovesOn : ℕ → Rule → Type 0
MovesOn n rule = (ps : List ℕ) (ts : List Token) → Moved n ts (rule ps ts).went

pub moved_onward : {n m : ℕ} {ts : List Token} (s : Said) (g : Rule) → Moved n ts s.went → MovesOn m g → Moved (n + m) ts (s ⨟ g).went
moved_onward {n} {m} {ts} s g a b = go s.went a
  where
    go : (w : Step) → Moved n ts w → Moved (n + m) ts (onward w s g).went
    go (On us) x = moved_then x (b s.props)
    go (Stop f) x = stopped

-- one rule after another
pub moves_both : {n m : ℕ} (f g : Rule) → MovesOn n f → MovesOn m g → MovesOn (n + m) (λ ps ts. f ps ts ⨟ g)
moves_both f g a b ps ts = moved_onward (f ps ts) g (a ps ts) b

pub moves_quiet : {n : ℕ} (f : List Token → Step) → ((ts : List Token) → Moved n ts (f ts)) → MovesOn n (quiet f)
moves_quiet f h ps ts = h ts

pub moves_put : (row : List ℕ → Row) → MovesOn 0 (put row)
moves_put row ps ts = went (goes_none ts)

pub moves_optionally : {n : ℕ} (b : List Token → Bool) (f : Rule) → MovesOn n f → MovesOn 0 (optionally b f)
unfolding optionally
moves_optionally b f h ps ts =
    cases (λ (s : Said). Moved 0 ts s.went) (b ts) (λ _. moved_less 0 (omega arith) (h ps ts)) (λ _. went (goes_none ts))

pub moves_apart : {n : ℕ} (f : Rule) → MovesOn n f → MovesOn n (apart f)
unfolding apart
moves_apart f h ps ts = h no_props ts

pub moves_adding : {n : ℕ} (f : Rule) → MovesOn n f → MovesOn n (adding f)
unfolding adding
moves_adding f h ps ts = h no_props ts

-- ## { rule }

abbrev pub AdvancesOn : (List Token → Bool) → Rule → Type 0
AdvancesOn b r = (ps : List ℕ) (ts : List Token) → b ts ≡ true → Moved 1 ts (r ps ts).went

pub advances_on : {n : ℕ} (b : List Token → Bool) (r : Rule) → MovesOn (suc n) r → AdvancesOn b r
advances_on b r h ps ts e = moved_less 1 (omega arith) (h ps ts)

-- rules that agree on what is left
onward_same : {ts : List Token} (s : Said) (f g : Rule) → Moved 1 ts s.went →
    ((ps : List ℕ) (rest : List Token) → length rest < length ts → f ps rest ≡ g ps rest) → s ⨟ f ≡ s ⨟ g
onward_same {ts} s f g a h = go s.went a
  where
    go : (w : Step) → Moved 1 ts w → onward w s f ≡ onward w s g
    go (On us) (went x) = rw (h s.props us (goes_shorter x))
    go (Stop x) stopped = refl

module _ (b : List Token → Bool) (r : Rule) (adv : AdvancesOn b r) where
  repeat_by_moves : (n : ℕ) → MovesOn 0 (repeat_by n b r)
  unfolding repeat_by
  repeat_by_moves zero ps ts = went (goes_none ts)
  repeat_by_moves (suc n) ps ts =
      cases (λ (s : Said). Moved 0 ts s.went) (b ts)
      (λ e. moved_less 0 (omega arith) (moved_onward (r ps ts) (repeat_by n b r) (adv ps ts e) (repeat_by_moves n))) (λ _. went (goes_none ts))

  pub moves_repeat : MovesOn 0 (repeat b r)
  unfolding repeat
  moves_repeat ps ts = repeat_by_moves (suc (length ts)) ps ts

  -- as often as there are tokens is often enough
  repeat_enough : (n m : ℕ) (ps : List ℕ) (ts : List Token) → length ts < n → length ts < m →
      repeat_by n b r ps ts ≡ repeat_by m b r ps ts
  unfolding repeat_by
  repeat_enough zero m ps ts x y = absurd (omega arith)
  repeat_enough (suc n) zero ps ts x y = absurd (omega arith)
  repeat_enough (suc n) (suc m) ps ts x y = go (b ts) refl (λ qs rest l. repeat_enough n m qs rest (omega arith) (omega arith))
    where
      go : (t : Bool) → b ts ≡ t → ((qs : List ℕ) (rest : List Token) →
          length rest < length ts → repeat_by n b r qs rest ≡ repeat_by m b r qs rest) →
          cond t (r ps ts ⨟ repeat_by n b r) (said (On ts) ps [] []) ≡ cond t (r ps ts ⨟ repeat_by m b r) (said (On ts) ps [] [])
      go true e f = onward_same (r ps ts) (repeat_by n b r) (repeat_by m b r) (adv ps ts e) f
      go false e f = refl

  pub repeat_step : (ps : List ℕ) (ts : List Token) → repeat b r ps ts ≡ cond (b ts) (r ps ts ⨟ repeat b r) (said (On ts) ps [] [])
  unfolding repeat repeat_by
  repeat_step ps ts = go (b ts) refl
    where
      go : (t : Bool) → b ts ≡ t →
          cond t (r ps ts ⨟ repeat_by (length ts) b r) (said (On ts) ps [] [])
          ≡ cond t (r ps ts ⨟ (λ qs us. repeat_by (suc (length us)) b r qs us)) (said (On ts) ps [] [])
      go true e =
          onward_same (r ps ts) (repeat_by (length ts) b r) (λ qs us. repeat_by (suc (length us)) b r qs us) (adv ps ts e)
          (λ qs rest l. repeat_enough (length ts) (suc (length rest)) qs rest (omega arith) (omega arith))
      go false e = refl

  -- a loop's turn, its end and its measure
  pub repeat_on : (s : State) → holds b s.went ≡ true → does (does s r) (repeat b r) ≡ does s (repeat b r)
  unfolding does
  repeat_on s =
      by_went (λ (s : State). holds b s.went ≡ true → does (does s r) (repeat b r) ≡ does s (repeat b r))
      (λ ts qs x t h. does_then (state (On ts) qs x t) r (repeat b r) ∙ rw (repeat_step qs ts, h)) (λ f qs x t h. refl) s

  pub repeat_off : (s : State) → holds b s.went ≡ false → s ≡ does s (repeat b r)
  unfolding does stay
  repeat_off s =
      by_went (λ (s : State). holds b s.went ≡ false → s ≡ does s (repeat b r))
      (λ ts qs x t h. rw (repeat_step qs ts, h) (does_stay (state (On ts) qs x t))) (λ f qs x t h. refl) s

  pub repeat_less : (s : State) → holds b s.went ≡ true → size (does s r).went < size s.went
  unfolding does
  repeat_less s =
      by_went (λ (s : State). holds b s.went ≡ true → size (does s r).went < size s.went)
      (λ ts qs x t h. go ts (r qs ts).went (adv qs ts h)) (λ f qs x t h. absurd (true≢false (sym h))) s
    where
      go : (ts : List Token) (w : Step) → Moved 1 ts w → size w < suc (length ts)
      go ts (On rest) (went x) = omega (arith, goes_shorter x)
      go ts (Stop f) stopped = omega arith

-- ## Properties of its own

-- with no properties, and with these
abbrev pub fresh : State → State
fresh s = state s.went no_props s.fault s.store

abbrev pub with_props : List ℕ → State → State
with_props ps s = state s.went ps s.fault s.store

pub does_apart : (s : State) (f : Rule) → with_props s.props (does (fresh s) f) ≡ does s (apart f)
unfolding does apart
does_apart s f =
    by_went (λ (s : State). with_props s.props (does (fresh s) f) ≡ does s (apart f)) (λ ts qs x t. refl) (λ f qs x t. refl) s

pub does_adding : (s : State) (f : Rule) → holds (λ ts. true) s.went ≡ true →
    with_props (merged s.props (does (fresh s) f).props) (does (fresh s) f) ≡ does s (adding f)
unfolding does adding
does_adding s f =
    by_went (λ (s : State). holds (λ ts. true) s.went ≡ true →
    with_props (merged s.props (does (fresh s) f).props) (does (fresh s) f) ≡ does s (adding f))
    (λ ts qs x t h. refl) (λ f qs x t h. absurd (true≢false (sym h))) s

-- ## What is declared

pub does_put : (s : State) (row : List ℕ → Row) → holds (λ ts. true) s.went ≡ true →
    state s.went s.props s.fault (with_row s.store (row s.props)) ≡ does s (put row)
unfolding does worst with_rows
does_put s row =
    by_went (λ (s : State). holds (λ ts. true) s.went ≡ true →
    state s.went s.props s.fault (with_row s.store (row s.props)) ≡ does s (put row))
    (λ ts qs x t h. refl) (λ f qs x t h. absurd (true≢false (sym h))) s

-- the same of a reading: where a rule has stopped nothing more is done, and a row is put where none has
pub stopped_stays : (p : List ℕ) (r : Reading) (m : List ℕ) (rule : Rule) (f : Fault) →
    r.went ≡ Err f → state_of p r m ≡ does (state_of p r m) rule
unfolding does
stopped_stays p r m rule f e = rw e

pub put_goes : (p : List ℕ) (r : Reading) (m l : List ℕ) (n at : ℕ) (row : List ℕ → Row) → r.went ≡ Ok at →
    store l n ≡ with_row (store m r.count) (row r.props) →
    state_of p (reading r.went r.props n r.fault) l ≡ does (state_of p r m) (put row)
unfolding does worst with_rows
put_goes p r m l n at row e h = rw (e, h)
