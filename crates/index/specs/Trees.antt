-- A tree over the bits of keys' hashes, in memory. Entry e is key number e, counted from 1; slots 2e and 2e + 1 hold its children, slot 0 the
-- first entry of all, slot 1 nothing, and 0 says that a slot is free.
use Rattle.std.specs.Prelude.{◌+◌, ◌-◌, ◌*◌, ◌/◌, ◌%◌, ◌<◌, ◌≤◌, ◌≡◌}
use Rattle.common.specs.Words.{ℕ, zero, suc, arith, Bool, true, false, cond, List, [], refl, sym, ◌∙◌, eqb, ne_eqb, length, get_or, set}
use Rattle.keys.specs.Keys.{Meaning, meaning, same_meaning, hash_of}
use Rattle.index.specs.Found.{found}

-- a key where a list has none
abbrev pub nothing : Meaning
nothing = meaning 0 0 [] [] []

-- the slot where a search from slot s on ends, in f turns at most: it holds the key's entry, or it is free; h is what is left of its hash
unfoldable pub walk_by : List ℕ → List Meaning → Meaning → ℕ → ℕ → ℕ → ℕ
walk_by t keys k zero s h = s
walk_by t keys k (suc f) s h =
    let e = get_or t s 0 in
    let on = walk_by t keys k f (2 * e + h % 2) (h / 2) in
    cond (eqb e 0) s (cond (same_meaning (get_or keys (e - 1) nothing) k) s on)

unfoldable pub walk : List ℕ → List Meaning → Meaning → ℕ
walk t keys k = walk_by t keys k (2 * length keys + 2) 0 (hash_of k)

-- what an entry's slots hold comes after it, so that each search ends, and a search for any key ends at the first entry of the key, or at a
-- free slot where there is none
pub record Sound (t : List ℕ) (keys : List Meaning) : Type 0 where
  pub rises : (s : ℕ) → s < 2 * length keys + 2 → (get_or t s 0 ≡ 0 → ⊥) → s < 2 * get_or t s 0
  pub within : (s : ℕ) → s < 2 * length keys + 2 → get_or t s 0 ≤ length keys
  pub finds : (k : Meaning) → get_or t (walk t keys k) 0 ≡ found k keys

-- what a slot holds when an entry is linked there: a free one holds it, another what it held
abbrev pub linked : ℕ → ℕ → ℕ
linked held entry = cond (eqb held 0) entry held

-- entry n + 1 has no children yet, and stands at slot s where that is free
unfoldable pub entered : List ℕ → ℕ → ℕ → List ℕ
entered t n s =
    let bare = set (set t (2 * n + 2) 0) (2 * n + 3) 0 in
    set bare s (linked (get_or bare s 0) (n + 1))

-- ## A search step by step

module _ (t : List ℕ) (keys : List Meaning) (k : Meaning) where
  pub walk_free : (f s h : ℕ) → get_or t s 0 ≡ 0 → walk_by t keys k f s h ≡ s
  unfolding walk_by
  walk_free zero s h e = refl
  walk_free (suc f) s h e = rw e

  pub walk_here : (f s h : ℕ) → same_meaning (get_or keys (get_or t s 0 - 1) nothing) k ≡ true → walk_by t keys k f s h ≡ s
  unfolding walk_by
  walk_here zero s h e = refl
  walk_here (suc f) s h e = rw e (go (eqb (get_or t s 0) 0))
    where
      go : (b : Bool) → cond b s s ≡ s
      go true = refl
      go false = refl

  pub walk_on : (f s h : ℕ) → 0 < f → (get_or t s 0 ≡ 0 → ⊥) → same_meaning (get_or keys (get_or t s 0 - 1) nothing) k ≡ false →
      walk_by t keys k f s h ≡ walk_by t keys k (f - 1) (2 * get_or t s 0 + h % 2) (h / 2)
  unfolding walk_by
  walk_on zero s h l n e = absurd (omega arith)
  walk_on (suc f) s h l n e = let x : suc f - 1 ≡ f = omega arith in rw (ne_eqb (get_or t s 0) 0 n, e, x)

  -- it ends at a slot of an entry
  walk_by_in : Sound t keys → (f s h : ℕ) → s < 2 * length keys + 2 → walk_by t keys k f s h < 2 * length keys + 2
  unfolding walk_by
  walk_by_in x zero s h l = l
  walk_by_in x (suc f) s h l =
      go (eqb (get_or t s 0) 0) (same_meaning (get_or keys (get_or t s 0 - 1) nothing) k)
      (walk_by_in x f (2 * get_or t s 0 + h % 2) (h / 2) (omega (arith, x.within s l)))
    where
      go : (a b : Bool) {o : ℕ} → o < 2 * length keys + 2 → cond a s (cond b s o) < 2 * length keys + 2
      go true b g = l
      go false true g = l
      go false false g = g

  pub walk_in : Sound t keys → walk t keys k < 2 * length keys + 2
  unfolding walk
  walk_in x = walk_by_in x (2 * length keys + 2) 0 (hash_of k) (omega arith)

-- a search that has come to slot s ends where the whole does
pub record Left (t : List ℕ) (keys : List Meaning) (k : Meaning) (s h : ℕ) : Type 0 where
  pub turns : ℕ
  pub enough : 2 * length keys + 2 ≤ s + turns
  pub inside : s < 2 * length keys + 2
  pub ends : walk_by t keys k turns s h ≡ walk t keys k

module _ (t : List ℕ) (keys : List Meaning) (k : Meaning) where
  pub left_all : Left t keys k 0 (hash_of k)
  unfolding walk
  left_all = record { turns = 2 * length keys + 2; enough = omega arith; inside = omega arith; ends = refl }

  pub left_free : (s h : ℕ) → Left t keys k s h → get_or t s 0 ≡ 0 → s ≡ walk t keys k
  left_free s h x e = sym (walk_free t keys k x.turns s h e) ∙ x.ends

  pub left_here : (s h : ℕ) → Left t keys k s h → same_meaning (get_or keys (get_or t s 0 - 1) nothing) k ≡ true → s ≡ walk t keys k
  left_here s h x e = sym (walk_here t keys k x.turns s h e) ∙ x.ends

  pub left_on : (s h : ℕ) → Left t keys k s h → Sound t keys → (get_or t s 0 ≡ 0 → ⊥) →
      same_meaning (get_or keys (get_or t s 0 - 1) nothing) k ≡ false →
      Left t keys k (2 * get_or t s 0 + h % 2) (h / 2)
  left_on s h x y n e =
      let low = y.within s x.inside in
      let up = y.rises s x.inside n in
      record {
        turns = x.turns - 1;
        enough = omega (arith, x.enough, x.inside);
        inside = omega arith;
        ends = sym (walk_on t keys k x.turns s h (omega (arith, x.enough, x.inside)) n e) ∙ x.ends;
      }
