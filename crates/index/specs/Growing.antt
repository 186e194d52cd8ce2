-- How a tree grows: with no key it is sound, and it stays so when a key is entered where the search for it ended.
use Rattle.std.specs.Prelude.{◌+◌, ◌-◌, ◌*◌, ◌/◌, ◌%◌, ◌<◌, ◌≤◌, ◌&&◌, ◌∷◌, ◌++◌, ◌≡◌, ◌⊎◌}
use Rattle.common.specs.Words.{ℕ, zero, suc, arith, add-one, Bool, true, false, cond, List, [], refl, ap, ◌∙◌, eqb, eq-eqb, ne_eqb, eqb-true}
use Rattle.common.specs.Words.{eqb-false, length, length-append, get_or, get_or-append, get_or_at, pos_of_ne-zero, inl, inr, ⊎_elim, set}
use Rattle.common.specs.Words.{length-set, get_or-set_same, get_or-set_other}
use Rattle.common.specs.Tests.{lt_or_le, true_or_false}
use Rattle.std.proofs.Math.Bool.{and-false}
use Rattle.tokens.specs.Laws.{either}
use Rattle.keys.specs.Keys.{Meaning, same_meaning, hash_of}
use Rattle.keys.specs.Laws.{same_means}
use Rattle.index.specs.Found.{found, found_more}
use Rattle.index.specs.Trees.{nothing, walk_by, walk, Sound, linked, entered, walk_free, walk_here, walk_on, walk_in}

-- no key yet
pub sound_none : (t : List ℕ) → get_or t 0 0 ≡ 0 → get_or t 1 0 ≡ 0 → Sound t []
unfolding found walk
sound_none t a b = record {
  rises = λ s l n. absurd (n (low s l));
  within = λ s l. omega (arith, low s l);
  finds = λ k. rw (walk_free t [] k 2 0 (hash_of k) a) a;
}
  where
    low : (s : ℕ) → s < 2 → get_or t s 0 ≡ 0
    low zero l = a
    low (suc zero) l = b
    low (suc (suc s)) l = absurd (omega arith)

pub entered_length : (t : List ℕ) (n s : ℕ) → length (entered t n s) ≡ length t
unfolding entered
entered_length t n s = simp length-set

-- what each slot holds after entry n + 1 is entered at slot z
module _ (t : List ℕ) (n z : ℕ) (room : 2 * n + 4 ≤ length t) (low : z < 2 * n + 2) where
  bare_old : (s : ℕ) → s < 2 * n + 2 → get_or (set (set t (2 * n + 2) 0) (2 * n + 3) 0) s 0 ≡ get_or t s 0
  bare_old s l =
      get_or-set_other (set t (2 * n + 2) 0) (2 * n + 3) s 0 0 (λ e. omega arith) ∙ get_or-set_other t (2 * n + 2) s 0 0 (λ e. omega arith)

  entered_link : get_or (entered t n z) z 0 ≡ linked (get_or t z 0) (n + 1)
  unfolding entered
  entered_link =
      rw (bare_old z low)
      (get_or-set_same (set (set t (2 * n + 2) 0) (2 * n + 3) 0) z _ 0 (simp length-set (omega arith)))

  entered_other : (s : ℕ) → s < 2 * n + 2 → (s ≡ z → ⊥) → get_or (entered t n z) s 0 ≡ get_or t s 0
  unfolding entered
  entered_other s l e = get_or-set_other (set (set t (2 * n + 2) 0) (2 * n + 3) 0) z s _ 0 e ∙ bare_old s l

  entered_held : (s : ℕ) → s < 2 * n + 2 → (get_or t s 0 ≡ 0 → ⊥) → get_or (entered t n z) s 0 ≡ get_or t s 0
  entered_held s l e =
      ⊎_elim (λ (b : eqb s z ≡ true).
      let i : s ≡ z = eqb-true s z b in
      rw i (entered_link ∙ rw (ne_eqb (get_or t z 0) 0 (rw i at e))))
      (λ (b : eqb s z ≡ false). entered_other s l (eqb-false s z b)) (true_or_false (eqb s z))

  entered_new : (s : ℕ) → 2 * n + 2 ≤ s → s < 2 * n + 4 → get_or (entered t n z) s 0 ≡ 0
  unfolding entered
  entered_new s g l =
      get_or-set_other (set (set t (2 * n + 2) 0) (2 * n + 3) 0) z s _ 0 (λ e. omega arith)
      ∙ ⊎_elim (λ (b : s < 2 * n + 3).
      let i : s ≡ 2 * n + 2 = omega arith in
      rw i (get_or-set_other (set t (2 * n + 2) 0) (2 * n + 3) (2 * n + 2) 0 0 (λ e. omega arith)
      ∙ get_or-set_same t (2 * n + 2) 0 0 (omega arith)))
      (λ (b : 2 * n + 3 ≤ s).
      let i : s ≡ 2 * n + 3 = omega arith in
      rw i (get_or-set_same (set t (2 * n + 2) 0) (2 * n + 3) 0 0 (simp length-set (omega arith))))
      (lt_or_le s (2 * n + 3))

-- the tree and the keys with key y entered at slot z, whatever that slot holds
module _ (t : List ℕ) (keys : List Meaning) (y : Meaning) (z : ℕ) (x : Sound t keys)
    (room : 2 * length keys + 4 ≤ length t) (low : z < 2 * length keys + 2) where
  abbrev n : ℕ
  n = length keys

  abbrev more : List Meaning
  more = keys ++ (y ∷ [])

  abbrev then : List ℕ
  then = entered t n z

  -- what slot w holds then, where a search for k ended there
  abbrev held : Meaning → ℕ → ℕ
  held k w = cond (eqb (get_or t w 0) 0) (cond (eqb w z && same_meaning y k) (n + 1) 0) (get_or t w 0)

  key_new : get_or more n nothing ≡ y
  key_new = get_or_at keys y [] nothing n refl

  key_old : (e : ℕ) → e < n → get_or more e nothing ≡ get_or keys e nothing
  key_old e l = get_or-append keys (y ∷ []) nothing e l

  -- a search that came to a free slot
  free_other : (k : Meaning) (f s h : ℕ) → s < 2 * n + 2 → get_or t s 0 ≡ 0 →
      (s ≡ z → ⊥) → get_or then (walk_by then more k f s h) 0 ≡ 0
  free_other k f s h l e o =
      let w : get_or then s 0 ≡ 0 = entered_other t n z room low s l o ∙ e in
      rw (walk_free then more k f s h w) w

  free_linked : (k : Meaning) (f h : ℕ) → 1 < f → get_or t z 0 ≡ 0 →
      get_or then (walk_by then more k f z h) 0 ≡ cond (same_meaning y k) (n + 1) 0
  free_linked k f h g e = go (same_meaning y k) refl
    where
      here : get_or then z 0 ≡ n + 1
      here = entered_link t n z room low ∙ rw e

      same : same_meaning (get_or more (get_or then z 0 - 1) nothing) k ≡ same_meaning y k
      same = let i : n + 1 - 1 ≡ n = omega arith in rw (here, i, key_new)

      go : (b : Bool) → same_meaning y k ≡ b → get_or then (walk_by then more k f z h) 0 ≡ cond b (n + 1) 0
      go true b = rw (walk_here then more k f z h (same ∙ b)) here
      go false b =
          let c : get_or then (2 * (n + 1) + h % 2) 0 ≡ 0 = entered_new t n z room low (2 * (n + 1) + h % 2) (omega arith) (omega arith) in
          rw (walk_on then more k f z h (omega arith) (λ q. omega (arith, here, q)) (same ∙ b), here)
          (rw (walk_free then more k (f - 1) (2 * (n + 1) + h % 2) (h / 2) c) c)

  -- a search after entering, by where it ended before: two turns more are enough
  grown : (k : Meaning) (f s h : ℕ) → s < 2 * n + 2 → 2 * n + 2 ≤ s + f →
      get_or then (walk_by then more k (f + 2) s h) 0 ≡ held k (walk_by t keys k f s h)
  grown k zero s h l g = absurd (omega arith)
  grown k (suc f) s h l g =
      go (true_or_false (eqb (get_or t s 0) 0)) (true_or_false (eqb s z)) (true_or_false (same_meaning (get_or keys (get_or t s 0 - 1) nothing) k))
      (λ a. grown k f (2 * get_or t s 0 + h % 2) (h / 2) (omega (arith, x.within s l)) (omega (arith, x.rises s l a)))
    where
      key_here : (get_or t s 0 ≡ 0 → ⊥) → same_meaning (get_or more (get_or t s 0 - 1) nothing) k
          ≡ same_meaning (get_or keys (get_or t s 0 - 1) nothing) k
      key_here o = ap (λ (m : Meaning). same_meaning m k) (key_old (get_or t s 0 - 1) (omega (arith, x.within s l, pos_of_ne-zero o)))

      go : (eqb (get_or t s 0) 0 ≡ true) ⊎ (eqb (get_or t s 0) 0 ≡ false) → (eqb s z ≡ true) ⊎ (eqb s z ≡ false) →
          (same_meaning (get_or keys (get_or t s 0 - 1) nothing) k ≡ true) ⊎ (same_meaning (get_or keys (get_or t s 0 - 1) nothing) k ≡ false)
          →
          ((get_or t s 0 ≡ 0 → ⊥) →
          get_or then (walk_by then more k (f + 2) (2 * get_or t s 0 + h % 2) (h / 2)) 0
          ≡ held k (walk_by t keys k f (2 * get_or t s 0 + h % 2) (h / 2))) →
          get_or then (walk_by then more k (suc f + 2) s h) 0 ≡ held k (walk_by t keys k (suc f) s h)
      go (inl a) (inl b) c on =
          let e = eqb-true (get_or t s 0) 0 a in
          let i : s ≡ z = eqb-true s z b in
          rw (walk_free t keys k (suc f) s h e, e, b, i) (free_linked k (suc f + 2) h (omega arith) (rw i at e))
      go (inl a) (inr b) c on =
          let e = eqb-true (get_or t s 0) 0 a in
          rw (walk_free t keys k (suc f) s h e, e, b) (free_other k (suc f + 2) s h l e (eqb-false s z b))
      go (inr a) b (inl c) on =
          let o = eqb-false (get_or t s 0) 0 a in
          let e = entered_held t n z room low s l o in
          rw (walk_here t keys k (suc f) s h c, walk_here then more k (suc f + 2) s h (rw e (key_here o ∙ c)), a) e
      go (inr a) b (inr c) on =
          let o = eqb-false (get_or t s 0) 0 a in
          let e = entered_held t n z room low s l o in
          let p : suc f + 2 - 1 ≡ f + 2 = omega arith in
          let q : suc f - 1 ≡ f = omega arith in
          rw (
            walk_on t keys k (suc f) s h (omega arith) o c,
            walk_on then more k (suc f + 2) s h (omega arith) (rw e o) (rw e (key_here o ∙ c)),
            e,
            p,
            q,
          )
          (on o)

  -- what holds of a free slot, of one that holds the new entry and of one as it was holds of each
  slot_then : (P : ℕ → Type 0) (s : ℕ) → s < 2 * n + 4 → P 0 → (s < 2 * n + 2 → P (n + 1)) →
      (s < 2 * n + 2 → P (get_or t s 0)) → P (get_or then s 0)
  slot_then P s l free new old = go (lt_or_le s (2 * n + 2)) (true_or_false (eqb s z))
    where
      go : (s < 2 * n + 2) ⊎ (2 * n + 2 ≤ s) → (eqb s z ≡ true) ⊎ (eqb s z ≡ false) → P (get_or then s 0)
      go (inr g) b = rw (entered_new t n z room low s g l) free
      go (inl g) (inr b) = rw (entered_other t n z room low s g (eqb-false s z b)) (old g)
      go (inl g) (inl b) =
          let i : s ≡ z = eqb-true s z b in
          rw (ap (λ (j : ℕ). get_or then j 0) i ∙ entered_link t n z room low) (either P (eqb (get_or t z 0) 0) (new g) (rw i at (old g)))

-- entering a key where the search for it ended keeps the tree sound
module _ (t : List ℕ) (keys : List Meaning) (y : Meaning) (x : Sound t keys) (room : 2 * length keys + 4 ≤ length t) where
  -- only a search for the key itself comes to its entry
  linked_only : (k : Meaning) → (eqb (walk t keys k) (walk t keys y) && same_meaning y k) ≡ same_meaning y k
  linked_only k = go (same_meaning y k) refl
    where
      go : (b : Bool) → same_meaning y k ≡ b → (eqb (walk t keys k) (walk t keys y) && b) ≡ b
      go true e = rw (same_means y k e, eq-eqb (walk t keys k) (walk t keys k) refl)
      go false e = and-false (eqb (walk t keys k) (walk t keys y))

  then_finds : (k : Meaning) →
      get_or (entered t (length keys) (walk t keys y)) (walk (entered t (length keys) (walk t keys y)) (keys ++ (y ∷ [])) k) 0
      ≡ found k (keys ++ (y ∷ []))
  unfolding walk
  then_finds k =
      let z = walk t keys y in
      let turns : 2 * length (keys ++ (y ∷ [])) + 2 ≡ 2 * length keys + 2 + 2 = omega (arith, length-append keys (y ∷ [])) in
      let g = grown t keys y z x room (walk_in t keys y x) k (2 * length keys + 2) 0 (hash_of k) (omega arith) (omega arith) in
      rw turns (g ∙ rw (x.finds k, linked_only k, found_more k keys y, add-one (length keys)))

  pub enter_sound : Sound (entered t (length keys) (walk t keys y)) (keys ++ (y ∷ []))
  enter_sound =
      let z = walk t keys y in
      let low = walk_in t keys y x in
      let n : length (keys ++ (y ∷ [])) ≡ length keys + 1 = length-append keys (y ∷ []) in
      record {
        rises = λ s l.
            slot_then t keys y z x room low (λ (v : ℕ). (v ≡ 0 → ⊥) → s < 2 * v) s
            (omega arith) (λ o. absurd (o refl)) (λ g o. omega arith)
            (λ g o. x.rises s g o);
        within = λ s l.
            slot_then t keys y z x room low (λ (v : ℕ). v ≤ length (keys ++ (y ∷ []))) s (omega arith) (omega arith) (λ g. omega arith)
            (λ g. omega (arith, x.within s g));
        finds = then_finds;
      }
