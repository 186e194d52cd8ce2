-- Every row that is declared has all its columns, and its Priority, where it has one, is at most 255.
use Rattle.std.specs.Prelude.{◌≤◌, ◌∷◌, ◌++◌, ◌≡◌, ◌&&◌}
use Rattle.common.specs.Words.{ℕ, zero, suc, arith, Bool, true, false, true≢false, List, [], refl, sym, cond, eqb, eqb-true, eq-eqb, leb}
use Rattle.common.specs.Words.{leb-true, le-leb, length, get_or}
use Rattle.common.specs.Table.{table_at}
use Rattle.tokens.specs.Tokens.{Token}
use Rattle.tokens.specs.Laws.{cases}
use Rattle.steps.specs.Steps.{Step, On, Stop}
use Rattle.rows.specs.Rows.{Row, row_words, property, priority_column, most_value}
use Rattle.rows.specs.Said.{Said, Rule, quiet, onward, ◌⨟◌, optionally, repeat_by, repeat, put, no_props, merged, apart, adding}

unfoldable pub fits : Row → Bool
fits row = eqb (length row) row_words && leb (get_or row priority_column 0) most_value

unfoldable pub wide : List Row → Bool
wide [] = true
wide (row ∷ rows) = fits row && wide rows

-- the same among the properties that were found
abbrev pub Low : List ℕ → Type 0
Low ps = property ps 4 ≤ most_value

-- what a rule says that was given these properties
pub record Wide (ps : List ℕ) (s : Said) : Type 0 where
  pub all : Low ps → wide s.rows ≡ true
  pub low : Low ps → Low s.props

abbrev pub WideOn : Rule → Type 0
WideOn rule = (ps : List ℕ) (ts : List Token) → Wide ps (rule ps ts)

both : (a b : Bool) → (a && b) ≡ true → (a ≡ true) × (b ≡ true)
both true true h = (refl, refl)
both true false h = (refl, h)
both false b h = absurd (true≢false (sym h))

pub wide_first : (row : Row) (rows : List Row) → wide (row ∷ rows) ≡ true → (length row ≡ row_words) × (wide rows ≡ true)
unfolding wide fits
wide_first row rows h =
    let b = both (fits row) (wide rows) h in
    (eqb-true (length row) row_words (both (eqb (length row) row_words) (leb (get_or row priority_column 0) most_value) b.0).0, b.1)

-- of each row, and of none
pub wide_low : (rows : List Row) → wide rows ≡ true → (k : ℕ) → get_or (get_or rows k []) priority_column 0 ≤ most_value
unfolding wide fits
wide_low [] h k = omega arith
wide_low (row ∷ rows) h zero =
    let b = both (fits row) (wide rows) h in
    leb-true (get_or row priority_column 0) most_value (both (eqb (length row) row_words) (leb (get_or row priority_column 0) most_value) b.0).1
wide_low (row ∷ rows) h (suc k) = wide_low rows (both (fits row) (wide rows) h).1 k

wide_append : (a b : List Row) → wide a ≡ true → wide b ≡ true → wide (a ++ b) ≡ true
unfolding wide
wide_append [] b x y = y
wide_append (row ∷ rows) b x y = let h = both (fits row) (wide rows) x in rw h.0 (wide_append rows b h.1 y)

-- ## Rules

pub wide_silent : {ps : List ℕ} (s : Said) → s.rows ≡ [] → (Low ps → Low s.props) → Wide ps s
unfolding wide
wide_silent s e l = record { all = λ _. rw e; low = l }

pub wide_quiet : (f : List Token → Step) → WideOn (quiet f)
wide_quiet f ps ts = wide_silent _ refl (λ l. l)

pub wide_put : (row : List ℕ → Row) → ((ps : List ℕ) → length (row ps) ≡ row_words) →
    ((ps : List ℕ) → Low ps → get_or (row ps) priority_column 0 ≤ most_value) → WideOn (put row)
unfolding wide fits
wide_put row h g ps ts = record {
  all = λ l. rw (eq-eqb (length (row ps)) row_words (h ps), le-leb (get_or (row ps) priority_column 0) most_value (g ps l));
  low = λ l. l;
}

pub wide_onward : {ps : List ℕ} (s : Said) (g : Rule) → Wide ps s → WideOn g → Wide ps (s ⨟ g)
wide_onward {ps} s g a b = go s.went
  where
    go : (w : Step) → Wide ps (onward w s g)
    go (On us) =
        let c = b s.props us in
        record { all = λ l. wide_append s.rows (g s.props us).rows (a.all l) (c.all (a.low l)); low = λ l. c.low (a.low l) }
    go (Stop f) = record { all = a.all; low = a.low }

pub wide_optionally : (b : List Token → Bool) (f : Rule) → WideOn f → WideOn (optionally b f)
unfolding optionally
wide_optionally b f h ps ts = cases (Wide ps) (b ts) (λ _. h ps ts) (λ _. wide_silent _ refl (λ l. l))

pub wide_apart : (f : Rule) → WideOn f → WideOn (apart f)
unfolding apart
wide_apart f h ps ts = record { all = λ l. (h no_props ts).all (omega arith); low = λ l. l }

-- of two that are no greater, either is not
merged_low : (a b : List ℕ) → Low a → Low b → Low (merged a b)
unfolding merged
merged_low a b x y =
    let at = table_at (λ (q : ℕ). cond (eqb (get_or a q 0) 0) (get_or b q 0) (get_or a q 0)) 6 4 0 (omega arith) in
    rw at (cases (λ (n : ℕ). n ≤ most_value) (eqb (get_or a 4 0) 0) (λ _. y) (λ _. x))

pub wide_adding : (f : Rule) → WideOn f → WideOn (adding f)
unfolding adding
wide_adding f h ps ts =
    let s = h no_props ts in
    record { all = λ l. s.all (omega arith); low = λ l. merged_low ps (f no_props ts).props l (s.low (omega arith)) }

module _ (b : List Token → Bool) (r : Rule) (h : WideOn r) where
  repeat_by_wide : (n : ℕ) → WideOn (repeat_by n b r)
  unfolding repeat_by
  repeat_by_wide zero ps ts = wide_silent _ refl (λ l. l)
  repeat_by_wide (suc n) ps ts = cases (Wide ps) (b ts) (λ _. wide_onward (r ps ts) (repeat_by n b r) (h ps ts) (repeat_by_wide n))
      (λ _. wide_silent _ refl (λ l. l))

  pub wide_repeat : WideOn (repeat b r)
  unfolding repeat
  wide_repeat ps ts = repeat_by_wide (suc (length ts)) ps ts
