-- A run of stores, `sets l i vs`: what it leaves at each index, in each part, and after one store more.
use Rattle.std.specs.Prelude.{◌≡◌, ◌∷◌, ◌++◌, ◌+◌, ◌≤◌, ◌<◌, ◌⊎◌, ◌-◌}
use Rattle.common.specs.Words.{refl, sym, ap, ◌∙◌, List, [], ℕ, zero, suc, add-zero, not-suc-le-zero, le_of_suc-le-suc, add-one, arith}
use Rattle.common.specs.Words.{⊎_elim, length, get_or, take, drop, set, length-set, length-take, length-drop, sets, length-sets, take-suc}
use Rattle.common.specs.Words.{length-take-le, get_or-set_same, get_or-set_other, get_or-take, get_or-drop, ext_get_or, drop-cons}
pub use Rattle.common.specs.Terms.{part}

-- one run after another is one run
pub sets_append : (xs ys l : List ℕ) (i : ℕ) → sets l i (xs ++ ys) ≡ sets (sets l i xs) (i + length xs) ys
sets_append [] ys l i = rw (add-zero i)
sets_append (x ∷ xs) ys l i =
    let e : suc i + length xs ≡ i + suc (length xs) = omega arith in
    sets_append xs ys (set l i x) (suc i) ∙ ap (λ (k : ℕ). sets (sets (set l i x) (suc i) xs) k ys) e

-- a turn of a loop that copies vs to i: its store takes the run of k to the run of k + 1
pub sets_more :
    (l vs : List ℕ) (i k : ℕ) → k < length vs →
    set (sets l i (take k vs)) (i + k) (get_or vs k 0) ≡ sets l i (take (k + 1) vs)
sets_more l vs i k h =
    let e : length (take k vs) ≡ k = length-take-le k vs (omega arith) in
    rw (add-one k, take-suc vs k 0 h, sets_append (take k vs) (get_or vs k 0 ∷ []) l i, e)

pub sets_before : (vs l : List ℕ) (i j d : ℕ) → j < i → get_or (sets l i vs) j d ≡ get_or l j d
sets_before [] l i j d h = refl
sets_before (v ∷ vs) l i j d h =
    sets_before vs (set l i v) (suc i) j d (omega arith) ∙ get_or-set_other l i j v d (λ (e : j ≡ i). omega arith)

pub sets_after : (vs l : List ℕ) (i j d : ℕ) → i + length vs ≤ j → get_or (sets l i vs) j d ≡ get_or l j d
sets_after [] l i j d h = refl
sets_after (v ∷ vs) l i j d h =
    sets_after vs (set l i v) (suc i) j d (omega arith) ∙ get_or-set_other l i j v d (λ (e : j ≡ i). omega arith)

pub sets_in : (vs l : List ℕ) (i k d : ℕ) → k < length vs → i + k < length l → get_or (sets l i vs) (i + k) d ≡ get_or vs k d
sets_in [] l i k d h g = absurd (not-suc-le-zero h)
sets_in (v ∷ vs) l i zero d h g =
    rw (add-zero i) (sets_before vs (set l i v) (suc i) i d (omega arith) ∙ get_or-set_same l i v d (omega arith))
sets_in (v ∷ vs) l i (suc k) d h g =
    let e : i + suc k ≡ suc i + k = omega arith in
    rw e (sets_in vs (set l i v) (suc i) k d (le_of_suc-le-suc h) (simp length-set (omega arith)))

-- what was stored is the part there
pub part_same : (vs l : List ℕ) (i : ℕ) → i + length vs ≤ length l → part (sets l i vs) i (length vs) ≡ vs
part_same vs l i h =
    let m : length (part (sets l i vs) i (length vs)) ≡ length vs =
    length-take-le (length vs) (drop i (sets l i vs)) (simp (length-drop, length-sets) (omega arith)) in
    ext_get_or 0 (part (sets l i vs) i (length vs)) vs m
    (λ (k : ℕ) (g : k < length (part (sets l i vs) i (length vs))).
    get_or-take (length vs) (drop i (sets l i vs)) k 0 (omega arith) ∙ get_or-drop i (sets l i vs) k 0
    ∙ sets_in vs l i k 0 (omega arith) (omega arith))

-- a part that the run does not meet is as it was
pub part_other :
    (vs l : List ℕ) (i j n : ℕ) → (j + n ≤ i) ⊎ (i + length vs ≤ j) → part (sets l i vs) j n ≡ part l j n
part_other vs l i j n apart =
    ext_get_or 0 (part (sets l i vs) j n) (part l j n) (simp (length-take, length-drop, length-sets))
    (λ (k : ℕ) (g : k < length (part (sets l i vs) j n)).
    let b : k < n = omega (arith, length-take n (drop j (sets l i vs))) in
    get_or-take n (drop j (sets l i vs)) k 0 b ∙ get_or-drop j (sets l i vs) k 0
    ∙ ⊎_elim (λ (h : j + n ≤ i). sets_before vs l i (j + k) 0 (omega arith))
    (λ (h : i + length vs ≤ j). sets_after vs l i (j + k) 0 (omega arith)) apart
    ∙ sym (get_or-take n (drop j l) k 0 b ∙ get_or-drop j l k 0))

-- a part from its first element on, as a loop walks it
pub part_none : (l : List ℕ) (i : ℕ) → part l i 0 ≡ []
part_none l i = refl

pub part_cons : (l : List ℕ) (i n : ℕ) → 0 < n → i < length l → part l i n ≡ get_or l i 0 ∷ part l (i + 1) (n - 1)
part_cons l i n h g =
    let e : n ≡ suc (n - 1) = omega arith in
    rw (add-one i, drop-cons l i 0 g) (ap (λ (k : ℕ). take k (get_or l i 0 ∷ drop (suc i) l)) e)

-- a part that lies inside has its length
pub part_length : (l : List ℕ) (i e : ℕ) → i ≤ e → e ≤ length l → length (part l i (e - i)) ≡ e - i
part_length l i e h g = length-take-le (e - i) (drop i l) (simp length-drop (omega arith))
