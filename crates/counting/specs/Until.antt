-- Equation 2 row by row: where a row that goes after row i among equal deadlines counts only up to the tick before, the sum leaves out
-- the followers, and is the number. `b` is the tick before the deadline of row i's message.
use Rattle.std.specs.Prelude.{◌+◌, ◌<◌, ◌≤◌, ◌&&◌, ◌≡◌}
use Rattle.common.specs.Words.{ℕ, arith, add-one, Bool, true, false, cond, refl, sym, ◌∙◌}
use Rattle.common.specs.Totals.{only, only_zero, sum, sum_add, sum_ext}
use Rattle.model.specs.Model.{Queue, Valid, count, has_deadline, due_at, precedes, row_up_to, row_followers, up_to, followers}
use Rattle.model.proofs.Count.{count_step}
use Rattle.model.proofs.Order.{period_pos}

-- row j's messages up to row i's
abbrev pub row_until : Queue → ℕ → ℕ → ℕ → ℕ
row_until q b i j = row_up_to q (cond (precedes q i j) b (b + 1)) j

-- of a row that sends it is the count up to the tick that the order says
pub until_on : (q : Queue) (b i j t : ℕ) → q.sends j ≡ true → t ≡ cond (precedes q i j) b (b + 1) →
    row_until q b i j ≡ count (q.period j) (q.deadline j) t
until_on q b i j t on e = rw (on, e)

pub until_off : (q : Queue) (b i j : ℕ) → q.sends j ≡ false → row_until q b i j ≡ 0
until_off q b i j off = rw off

-- that tick is not before b, and not after the next
pub until_near : (q : Queue) (b i j t : ℕ) → t ≡ cond (precedes q i j) b (b + 1) → (b ≤ t) × (t ≤ b + 1)
until_near q b i j t e = rw e (go (precedes q i j))
  where
    go : (later : Bool) → (b ≤ cond later b (b + 1)) × (cond later b (b + 1) ≤ b + 1)
    go true = (omega arith, omega arith)
    go false = (omega arith, omega arith)

-- by whether the row sends, and whether it goes after
split : (P D : ℕ) → 1 ≤ P → 1 ≤ D → (b : ℕ) (on later : Bool) →
    only on (count P D (cond later b (b + 1))) + only (on && has_deadline P D (b + 1)) (only later 1) ≡ only on (count P D (b + 1))
split P D pos dpos b true true = rw (add-one b) (sym (count_step P D b pos dpos))
split P D pos dpos b true false = omega (arith, only_zero (has_deadline P D (b + 1)))
split P D pos dpos b false later = refl

module _ (q : Queue) (v : Valid q) (b i : ℕ) where
  row_until_lem : (j : ℕ) → j < q.rows → row_until q b i j + row_followers q (b + 1) i j ≡ row_up_to q (b + 1) j
  unfolding due_at
  row_until_lem j row = split _ _ (period_pos q v j row) (v.deadline_pos j row) b (q.sends j) (precedes q i j)

  pub until_all : sum (row_until q b i) q.rows + followers q (b + 1) i ≡ up_to q (b + 1)
  unfolding up_to followers
  until_all = sym (sum_add _ _ q.rows) ∙ sum_ext _ _ q.rows row_until_lem
