-- The answer of a search for the first bad row of n: which row it is, and that there is none.
use Rattle.std.specs.Prelude.{◌<◌, ◌≤◌, ◌≡◌, Some, None, is_some}
use Rattle.common.specs.Words.{ℕ, Bool, true, false, cond, refl, arith, ltb, ltb-true, ltb-false}
use Rattle.plan.specs.Rules.{row_below}

module _ (n row : ℕ) where
  pub row_found : (r : ℕ) → row_below n row ≡ Some r → (r ≡ row) × (row < n)
  row_found r h = go (ltb row n) refl h
    where
      go : (b : Bool) → ltb row n ≡ b → cond b (Some row) None ≡ Some r → (r ≡ row) × (row < n)
      go true e h = (cc, ltb-true row n e)
      go false e h = absurd (let z : ◌≡◌ {A = ℕ} 0 1 = cc in omega arith)

  pub none_found : row_below n row ≡ None → n ≤ row
  none_found h = go (ltb row n) refl h
    where
      go : (b : Bool) → ltb row n ≡ b → cond b (Some row) None ≡ None → n ≤ row
      go true e h = absurd (let z : ◌≡◌ {A = ℕ} 0 1 = cc in omega arith)
      go false e h = ltb-false row n e

  pub is_found : is_some (row_below n row) ≡ true → row < n
  is_found h = go (ltb row n) refl h
    where
      go : (b : Bool) → ltb row n ≡ b → is_some (cond b (Some row) None) ≡ true → row < n
      go true e h = ltb-true row n e
      go false e h = absurd (let z : ◌≡◌ {A = ℕ} 0 1 = cc in omega arith)

  pub not_found : is_some (row_below n row) ≡ false → n ≤ row
  not_found h = go (ltb row n) refl h
    where
      go : (b : Bool) → ltb row n ≡ b → is_some (cond b (Some row) None) ≡ false → n ≤ row
      go true e h = absurd (let z : ◌≡◌ {A = ℕ} 0 1 = cc in omega arith)
      go false e h = ltb-false row n e
