-- Where a row stands among others: what a search from the front has left.
use Rattle.std.specs.Prelude.{◌∷◌, ◌⊎◌, None, Some, ◌+◌, ◌-◌, ◌<◌, ◌≤◌, ◌≡◌}
use Rattle.std.proofs.lemmas.List.Recursion.{is_position_or_len}
use Rattle.std.specs.Option.{unwrap_or}
use Rattle.std.specs.List.{position_or_len, position as first_position}
use Rattle.common.specs.Words.{ℕ, suc, arith, add-one, zero-add, pos_of_ne-zero, Bool, true, false, cond, ap, List, [], inl, inr, ltb, lt-ltb}
use Rattle.common.specs.Words.{le-ltb, refl, sym, ◌∙◌, ⊎_elim, eqb, eqb-true}
use Rattle.common.specs.Words.{eqb-false, eq-eqb, ne_eqb, length, get_or, drop, drop-cons, drop_of_length-le}
use Rattle.common.specs.Tests.{true_or_false, lt_or_le}
use Rattle.kit.specs.Kit.{position}

-- numbers count from 1
pub number_is : (k n : ℕ) → (n ≡ 0 → ⊥) → eqb k (n - 1) ≡ eqb (suc k) n
number_is k n h =
    ⊎_elim (λ (b : eqb k (n - 1) ≡ true). b ∙ sym (eq-eqb (suc k) n (omega (arith, eqb-true k (n - 1) b, pos_of_ne-zero h))))
    (λ (b : eqb k (n - 1) ≡ false). b ∙ sym (ne_eqb (suc k) n (λ e. eqb-false k (n - 1) b (omega (arith, e)))))
    (true_or_false (eqb k (n - 1)))

-- what is left to look through, from i on
pub record Left (n : ℕ) (ks : List ℕ) (i : ℕ) : Type 0 where
  pub same : position n ks ≡ i + position n (drop i ks)

pub left_all : (n : ℕ) (ks : List ℕ) → Left n ks 0
left_all n ks = record { same = sym (zero-add (position n ks)) }

pub left_here : {n : ℕ} {ks : List ℕ} {i : ℕ} → Left n ks i → i < length ks → eqb (suc (get_or ks i 0)) n ≡ true → i ≡ position n ks
unfolding position
left_here {n} {ks} {i} x l e =
    let d : position n (drop i ks) ≡ 0 = rw (drop-cons ks i 0 l, e) refl in
    omega (arith, x.same, d)

pub left_on : {n : ℕ} {ks : List ℕ} {i : ℕ} → Left n ks i → i < length ks → eqb (suc (get_or ks i 0)) n ≡ false → Left n ks (i + 1)
unfolding position
left_on {n} {ks} {i} x l e =
    let d : position n (drop i ks) ≡ suc (position n (drop (suc i) ks)) = rw (drop-cons ks i 0 l, e) refl in
    record { same = rw (add-one i) (omega (arith, x.same, d)) }

pub left_none : {n : ℕ} {ks : List ℕ} {i : ℕ} → Left n ks i → length ks ≤ i → i ≡ position n ks
unfolding position
left_none {n} {ks} {i} x l =
    let d : position n (drop i ks) ≡ 0 = rw (drop_of_length-le ks {i = i} l) refl in
    omega (arith, x.same, d)

-- ## As the library finds it

same_place : (j k : ℕ) → eqb (suc k) (suc j) ≡ eqb k j
same_place j k =
    ⊎_elim (λ (b : eqb k j ≡ true). eq-eqb (suc k) (suc j) (ap suc (eqb-true k j b)) ∙ sym b)
    (λ (b : eqb k j ≡ false). ne_eqb (suc k) (suc j) (λ e. eqb-false k j b (omega (arith, e))) ∙ sym b)
    (true_or_false (eqb k j))

pub nowhere : (ks : List ℕ) → length ks ≡ position 0 ks
unfolding position
nowhere [] = refl
nowhere (k ∷ ks) = rw (ne_eqb (suc k) 0 (λ e. omega arith)) (ap suc (nowhere ks))

position_le : (n : ℕ) (ks : List ℕ) → position n ks ≤ length ks
unfolding position
position_le n [] = omega arith
position_le n (k ∷ ks) = go (eqb (suc k) n) (position_le n ks)
  where
    go : (b : Bool) → position n ks ≤ length ks → cond b 0 (suc (position n ks)) ≤ suc (length ks)
    go true h = omega arith
    go false h = omega arith

place_is : (j : ℕ) (ks : List ℕ) → position (suc j) ks ≡ position_or_len (λ (k : ℕ). eqb k j) ks
unfolding position
place_is j ks =
    is_position_or_len (position (suc j)) (λ (k : ℕ). eqb k j) refl
    (λ x xs. let e : suc (position (suc j) xs) ≡ 1 + position (suc j) xs = omega arith in rw (same_place j x, e) refl) ks

pub place_among : (j : ℕ) (ks : List ℕ) → unwrap_or (first_position (λ (k : ℕ). eqb k j) ks) (length ks) ≡ position (suc j) ks
place_among j ks = rw (← place_is j ks) (go (lt_or_le (position (suc j) ks) (length ks)))
  where
    go : (position (suc j) ks < length ks) ⊎ (length ks ≤ position (suc j) ks) →
        unwrap_or (cond (ltb (position (suc j) ks) (length ks)) (Some (position (suc j) ks)) None) (length ks) ≡ position (suc j) ks
    go (inl l) = rw (lt-ltb (position (suc j) ks) (length ks) l)
    go (inr h) = rw (le-ltb (position (suc j) ks) (length ks) h) (omega (arith, h, position_le (suc j) ks))
