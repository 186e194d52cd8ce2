-- Our own words beside the kit's, for what pages of definitions say of the numbers below n, most often the rows of a table, and of lists.
-- There are definitions only; the laws about them stand in Totals, Rows, Table and Stores, which pass these names on.
use Rattle.std.specs.Prelude.{◌+◌, ◌*◌, ◌/◌, ◌%◌, ◌<◌, ◌≤◌, ◌&&◌, ◌≡◌, ◌∷◌, ◌++◌}
use Rattle.common.specs.Words.{ℕ, zero, suc, max, Bool, true, false, cond, not, List, [], eqb, ltb, take, drop}

-- n where the test passes, else 0
abbrev pub only : Bool → ℕ → ℕ
only true n = n
only false n = 0

-- f 0 + f 1 + .. + f (n - 1)
unfoldable pub sum : (ℕ → ℕ) → ℕ → ℕ
sum f zero = 0
sum f (suc n) = sum f n + f n

-- the greatest of f 0, f 1, .., f (n - 1), and 0 where there is none
unfoldable pub most : (ℕ → ℕ) → ℕ → ℕ
most f zero = 0
most f (suc n) = max (most f n) (f n)

-- the test passes at every row below n
unfoldable pub every : (ℕ → Bool) → ℕ → Bool
every t zero = true
every t (suc n) = every t n && t n

-- the first row below n that fails the test, and n where all pass
unfoldable pub first_bad : (ℕ → Bool) → ℕ → ℕ
first_bad t zero = 0
first_bad t (suc n) = cond (ltb (first_bad t n) n) (first_bad t n) (cond (t n) (suc n) n)

-- what that says of a row b: each row before it passes, and where it lies below n it fails itself
pub record FirstBad (t : ℕ → Bool) (n b : ℕ) : Type 0 where
  pub within : b ≤ n
  pub before : (i : ℕ) → i < b → t i ≡ true
  pub bad : b < n → t b ≡ false

-- the test passes at some row below n
unfoldable pub some : (ℕ → Bool) → ℕ → Bool
some t n = ltb (first_bad (λ i. not (t i)) n) n

-- the greatest common divisor by Euclid's rule, at most n times; the second number falls, so b + 1 times are enough; the least common multiple
unfoldable pub euclid : ℕ → ℕ → ℕ → ℕ
euclid zero a b = a
euclid (suc n) a b = cond (eqb b 0) a (euclid n b (a % b))

unfoldable pub gcd : ℕ → ℕ → ℕ
gcd a b = euclid (suc b) a b

unfoldable pub lcm : ℕ → ℕ → ℕ
lcm a b = a * (b / gcd a b)

-- the list f 0, f 1, .., f (n - 1)
unfoldable pub table : {A : Type 0} → (ℕ → A) → ℕ → List A
table f zero = []
table f (suc n) = table f n ++ (f n ∷ [])

-- the n elements of a list from index i on
abbrev pub part : List ℕ → ℕ → ℕ → List ℕ
part l i n = take n (drop i l)
