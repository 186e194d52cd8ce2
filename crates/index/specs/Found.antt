-- The first of a list's keys that is a key: what a dictionary answers.
use Rattle.std.specs.Prelude.{◌+◌, ◌<◌, ◌≤◌, ◌∷◌, ◌++◌, ◌≡◌}
use Rattle.common.specs.Words.{ℕ, zero, suc, arith, Bool, true, false, cond, List, [], refl, eqb, ne_eqb, length, get_or}
use Rattle.keys.specs.Keys.{Meaning, same_meaning}
use Rattle.keys.specs.Laws.{same_means, means_same}

-- its number counted from 1, 0 where none is that key
unfoldable pub found : Meaning → List Meaning → ℕ
found k [] = 0
found k (x ∷ xs) = let more = found k xs in cond (same_meaning x k) 1 (cond (eqb more 0) 0 (suc more))

pub found_le : (k : Meaning) (xs : List Meaning) → found k xs ≤ length xs
unfolding found
found_le k [] = omega arith
found_le k (x ∷ xs) = go (same_meaning x k) (eqb (found k xs) 0) (found_le k xs)
  where
    go : (s t : Bool) → found k xs ≤ length xs → cond s 1 (cond t 0 (suc (found k xs))) ≤ suc (length xs)
    go true t h = omega arith
    go false true h = omega arith
    go false false h = omega arith

-- one key more at the end
pub found_more : (k : Meaning) (xs : List Meaning) (y : Meaning) →
    found k (xs ++ (y ∷ [])) ≡ cond (eqb (found k xs) 0) (cond (same_meaning y k) (suc (length xs)) 0) (found k xs)
unfolding found
found_more k [] y = refl
found_more k (x ∷ xs) y = rw (found_more k xs y) (go (same_meaning x k) (found k xs) (same_meaning y k))
  where
    go : (s : Bool) (m : ℕ) (t : Bool) →
        cond s 1 (cond (eqb (cond (eqb m 0) (cond t (suc (length xs)) 0) m) 0) 0 (suc (cond (eqb m 0) (cond t (suc (length xs)) 0) m)))
        ≡ cond (eqb (cond s 1 (cond (eqb m 0) 0 (suc m))) 0) (cond t (suc (suc (length xs))) 0) (cond s 1 (cond (eqb m 0) 0 (suc m)))
    go true m t = refl
    go false zero true = rw (ne_eqb (suc (length xs)) 0 (λ h. omega arith))
    go false zero false = refl
    go false (suc m) t = simp (ne_eqb (suc m) 0 (λ h. omega arith), ne_eqb (suc (suc m)) 0 (λ h. omega arith))

-- what it says: where it is i + 1, the key stands at i
pub found_at : (k : Meaning) (xs : List Meaning) (i : ℕ) (d : Meaning) → found k xs ≡ suc i → get_or xs i d ≡ k
unfolding found
found_at k [] i d h = absurd (omega arith)
found_at k (x ∷ xs) i d h = go (same_meaning x k) refl (found k xs) (λ m f. found_at k xs m d f) i h
  where
    go : (s : Bool) → same_meaning x k ≡ s → (m : ℕ) → ((j : ℕ) → m ≡ suc j → get_or xs j d ≡ k) → (i : ℕ) →
        cond s 1 (cond (eqb m 0) 0 (suc m)) ≡ suc i → get_or (x ∷ xs) i d ≡ k
    go true e m f zero g = same_means x k e
    go true e m f (suc i) g = absurd (omega arith)
    go false e zero f i g = absurd (omega arith)
    go false e (suc m) f i g =
        let s : i ≡ suc m = omega (arith, rw (ne_eqb (suc m) 0 (λ x. omega arith)) at g) in
        rw s (f m refl)

-- and it stands nowhere before, nowhere at all where it is 0
pub found_first : (k : Meaning) (xs : List Meaning) (i : ℕ) (d : Meaning) → i < length xs → get_or xs i d ≡ k →
    (0 < found k xs) × (found k xs ≤ i + 1)
unfolding found
found_first k [] i d l e = absurd (omega arith)
found_first k (x ∷ xs) zero d l e = rw (means_same x k e) (omega arith, omega arith)
found_first k (x ∷ xs) (suc i) d l e = go (same_meaning x k) (found k xs) (found_first k xs i d (omega arith) e)
  where
    go : (s : Bool) (m : ℕ) → (0 < m) × (m ≤ i + 1) → (0 < cond s 1 (cond (eqb m 0) 0 (suc m)))
        × (cond s 1 (cond (eqb m 0) 0 (suc m)) ≤ suc i + 1)
    go true m h = (omega arith, omega arith)
    go false m h = rw (ne_eqb m 0 (λ x. omega arith)) (omega arith, omega arith)
