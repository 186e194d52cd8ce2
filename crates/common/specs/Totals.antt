-- Laws of totals over the numbers below n, most often the rows of a table: sums and greatest values.
use Rattle.std.specs.Prelude.{◌+◌, ◌*◌, ◌<◌, ◌≤◌, ◌↔◌, ◌≡◌}
use Rattle.common.specs.Words.{ℕ, zero, suc, max, arith, add-one, Bool, true, false, ⊎_elim, refl, subst, eqb, eq-eqb, ne_eqb}
use Rattle.common.specs.Tests.{lt_or_le}
unfoldable pub use Rattle.common.specs.Terms.{only, sum, most}

-- `only b`: what has to be shown is shown where b is true
pub only_le : (b : Bool) (m n : ℕ) → (b ≡ true → m ≤ n) → only b m ≤ only b n
only_le true m n h = h refl
only_le false m n h = omega arith

pub only_eq : (b : Bool) (m n : ℕ) → (b ≡ true → m ≡ n) → only b m ≡ only b n
only_eq true m n h = h refl
only_eq false m n h = refl

pub only_most : (b : Bool) (m n : ℕ) → (b ≡ true → m ≤ n) → only b m ≤ n
only_most true m n h = h refl
only_most false m n h = omega arith

pub only_add : (b : Bool) (m n : ℕ) → only b (m + n) ≡ only b m + only b n
only_add true m n = refl
only_add false m n = refl

pub only_zero : (b : Bool) → only b 0 ≡ 0
only_zero true = refl
only_zero false = refl

-- an order or an equation of two numbers, from the numbers below them
pub le_by : (a b : ℕ) → ((k : ℕ) → k < a → k < b) → a ≤ b
le_by zero b h = omega arith
le_by (suc a) b h = h a (omega arith)

pub eq_by : (a b : ℕ) → ((k : ℕ) → k < a → k < b) → ((k : ℕ) → k < b → k < a) → a ≡ b
eq_by a b h g = omega (arith, le_by a b h, le_by b a g)

-- the form that a program's loop takes: no row, and one row more
pub sum_none : (f : ℕ → ℕ) → sum f 0 ≡ 0
unfolding sum
sum_none f = refl

pub sum_next : (f : ℕ → ℕ) (n : ℕ) → sum f (n + 1) ≡ sum f n + f n
unfolding sum
sum_next f n = rw add-one

-- and where the row's share hangs on a test
pub sum_on : (b : ℕ → Bool) (f : ℕ → ℕ) (n : ℕ) → b n ≡ true →
    sum (λ j. only (b j) (f j)) (n + 1) ≡ sum (λ j. only (b j) (f j)) n + f n
sum_on b f n h = rw h at (sum_next (λ j. only (b j) (f j)) n)

pub sum_off : (b : ℕ → Bool) (f : ℕ → ℕ) (n : ℕ) → b n ≡ false →
    sum (λ j. only (b j) (f j)) (n + 1) ≡ sum (λ j. only (b j) (f j)) n
sum_off b f n h = omega (arith, rw h at (sum_next (λ j. only (b j) (f j)) n))

pub sum_le : (f g : ℕ → ℕ) (n : ℕ) → ((i : ℕ) → i < n → f i ≤ g i) → sum f n ≤ sum g n
unfolding sum
sum_le f g zero h = omega arith
sum_le f g (suc n) h = omega (arith, sum_le f g n (λ i l. h i (omega arith)), h n (omega arith))

-- one row is at most the sum
pub sum_at : (f : ℕ → ℕ) (n m : ℕ) → m < n → f m ≤ sum f n
unfolding sum
sum_at f zero m b = omega arith
sum_at f (suc n) m b =
    ⊎_elim (λ (l : m < n). omega (arith, sum_at f n m l))
    (λ (l : n ≤ m). let e : n ≡ m = omega arith in subst (λ (x : ℕ). f x ≤ sum f n + f n) e (omega arith))
    (lt_or_le m n)

-- more rows, no smaller a sum
pub sum_up : (f : ℕ → ℕ) (m n : ℕ) → m ≤ n → sum f m ≤ sum f n
unfolding sum
sum_up f m zero h = let e : m ≡ 0 = omega arith in rw e (omega arith)
sum_up f m (suc n) h =
    ⊎_elim (λ (l : n < m). let e : m ≡ suc n = omega arith in rw e (omega arith)) (λ (g : m ≤ n). omega (arith, sum_up f m n g))
    (lt_or_le n m)

pub sum_bound : (f : ℕ → ℕ) (n b : ℕ) → ((i : ℕ) → i < n → f i ≤ b) → sum f n ≤ n * b
unfolding sum
sum_bound f zero b h = omega arith
sum_bound f (suc n) b h = omega (arith, sum_bound f n b (λ i l. h i (omega arith)), h n (omega arith))

-- one row m is strictly less
pub sum_lt : (f g : ℕ → ℕ) (n m : ℕ) → m < n → ((i : ℕ) → i < n → f i ≤ g i) → f m < g m → sum f n < sum g n
unfolding sum
sum_lt f g zero m b h s = omega arith
sum_lt f g (suc n) m b h s =
    ⊎_elim (λ (l : m < n). omega (arith, sum_lt f g n m l (λ i l. h i (omega arith)) s, h n (omega arith)))
    (λ (l : n ≤ m).
    let e : m ≡ n = omega arith in
    let s' : f n < g n = subst (λ (x : ℕ). f x < g x) e s in
    omega (arith, sum_le f g n (λ i l. h i (omega arith))))
    (lt_or_le m n)

pub sum_ext : (f g : ℕ → ℕ) (n : ℕ) → ((i : ℕ) → i < n → f i ≡ g i) → sum f n ≡ sum g n
unfolding sum
sum_ext f g zero h = refl
sum_ext f g (suc n) h = omega (arith, sum_ext f g n (λ i l. h i (omega arith)), h n (omega arith))

pub sum_add : (f g : ℕ → ℕ) (n : ℕ) → sum (λ i. f i + g i) n ≡ sum f n + sum g n
unfolding sum
sum_add f g zero = refl
sum_add f g (suc n) = omega (arith, sum_add f g n)

-- 1 at row m and 0 elsewhere
pub sum_zero : (f : ℕ → ℕ) (n : ℕ) → ((i : ℕ) → i < n → f i ≡ 0) → sum f n ≡ 0
unfolding sum
sum_zero f zero h = refl
sum_zero f (suc n) h = omega (arith, sum_zero f n (λ i l. h i (omega arith)), h n (omega arith))

pub only_self : (i m : ℕ) → i ≡ m → only (eqb i m) 1 ≡ 1
only_self i m e = rw (eq-eqb i m e)

pub only_other : (i m : ℕ) → (i ≡ m → ⊥) → only (eqb i m) 1 ≡ 0
only_other i m d = rw (ne_eqb i m d)

pub sum_one : (n m : ℕ) → m < n → sum (λ i. only (eqb i m) 1) n ≡ 1
unfolding sum
sum_one zero m b = omega arith
sum_one (suc n) m b =
    ⊎_elim (λ (l : m < n). omega (arith, sum_one n m l, only_other n m (omega arith)))
    (λ (l : n ≤ m).
    omega (arith, sum_zero (λ i. only (eqb i m) 1) n (λ i b. only_other i m (omega arith)), only_self n m (omega arith)))
    (lt_or_le m n)

pub most_next : (f : ℕ → ℕ) (n : ℕ) → most f (n + 1) ≡ max (most f n) (f n)
unfolding most
most_next f n = rw add-one

-- the greatest is at most b exactly when each is
pub most_le : (f : ℕ → ℕ) (n b : ℕ) → (most f n ≤ b) ↔ ((i : ℕ) → i < n → f i ≤ b)
unfolding most
most_le f n b = (there n, back n)
  where
    there : (n : ℕ) → most f n ≤ b → (i : ℕ) → i < n → f i ≤ b
    there zero h i l = omega arith
    there (suc n) h i l =
        ⊎_elim (λ (l : i < n). there n (omega arith) i l)
        (λ (g : n ≤ i).
        let e : n ≡ i = omega arith in
        subst (λ (x : ℕ). f x ≤ b) e (omega arith))
        (lt_or_le i n)

    back : (n : ℕ) → ((i : ℕ) → i < n → f i ≤ b) → most f n ≤ b
    back zero h = omega arith
    back (suc n) h = omega (arith, back n (λ i l. h i (omega arith)), h n (omega arith))

-- where a sequence passes n
pub crossing : (f : ℕ → ℕ) (n u : ℕ) → f 0 < n → n ≤ f u → (t : ℕ) × (f t < n) × (n ≤ f (suc t))
crossing f n zero lo hi = absurd (omega arith)
crossing f n (suc u) lo hi =
    ⊎_elim (λ (l : f u < n). (u, l, hi)) (λ (g : n ≤ f u). crossing f n u lo g) (lt_or_le (f u) n)
