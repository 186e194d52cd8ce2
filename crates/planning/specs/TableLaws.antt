-- What the table keeps of its rows: counted rows as they were handed in, zeros beyond. So rules 1 to 3, tested on what was handed in, hold
-- of the table.
use Rattle.std.specs.Prelude.{◌+◌, ◌*◌, ◌/◌, ◌%◌, ◌<◌, ◌≤◌, ◌≡◌}
use Rattle.common.specs.Words.{ℕ, arith, Bool, true, false, List, ⊎_elim, sym, ◌∙◌, lt-ltb, le-ltb, get_or, get_or-eq_default}
use Rattle.common.specs.Tests.{lt_or_le}
use Rattle.common.specs.Table.{table_at, table_length}
use Rattle.common.proofs.Rows.{first_bad_same}
use Rattle.plan.specs.Limits.{task_limit, queue_limit, cell_limit}
use Rattle.plan.specs.Square.{entry}
use Rattle.plan.specs.Rules.{counts_good, task_good, queue_good, bad_task, bad_queue}
use Rattle.plan.specs.Facts.{counts_iff}
use Rattle.plan.specs.Sound.{Checked, checked_of}
use Rattle.tables.specs.Table.{value_within, counted, flat_entry, flat, tabled}

pub counted_at : (limit n : ℕ) (values : List ℕ) (i : ℕ) → n ≤ limit → i < n → get_or (counted limit n values) i 0 ≡ get_or values i 0
counted_at limit n values i f l = table_at (value_within n values 0) limit i 0 (omega arith) ∙ rw (lt-ltb i n l)

-- "zeros in a plan we make"
pub counted_beyond : (limit n : ℕ) (values : List ℕ) (i : ℕ) → n ≤ i → get_or (counted limit n values) i 0 ≡ 0
counted_beyond limit n values i h =
    ⊎_elim (λ (l : i < limit). table_at (value_within n values 0) limit i 0 l ∙ rw (le-ltb i n h))
    (λ (l : limit ≤ i). get_or-eq_default (counted limit n values) 0 (omega (arith, table_length (value_within n values 0) limit)))
    (lt_or_le i limit)

pub flat_at : (queues : ℕ) (square : List (List Bool)) (q i : ℕ) → queues ≤ queue_limit → q < queues → i < task_limit →
    get_or (flat queues square) (q * task_limit + i) false ≡ entry square q i
flat_at queues square q i f l b =
    let row : (q * task_limit + i) / task_limit ≡ q = omega arith in
    let column : (q * task_limit + i) % task_limit ≡ i = omega arith in
    table_at (flat_entry queues square) cell_limit (q * task_limit + i) false (omega arith) ∙ rw (row, column, lt-ltb q queues l)

pub flat_beyond : (queues : ℕ) (square : List (List Bool)) (q i : ℕ) → queues ≤ q → q < queue_limit → i < task_limit →
    get_or (flat queues square) (q * task_limit + i) false ≡ false
flat_beyond queues square q i h l b =
    let row : (q * task_limit + i) / task_limit ≡ q = omega arith in
    table_at (flat_entry queues square) cell_limit (q * task_limit + i) false (omega arith) ∙ rw (row, le-ltb q queues h)

module _ (tasks queues : ℕ) (period deadline priority receiver : List ℕ) (square : List (List Bool)) where
  pub table_checked : counts_good tasks queues ≡ true → bad_task period deadline tasks ≡ tasks →
      bad_queue square receiver tasks queues ≡ queues →
      Checked (tabled tasks queues period deadline priority receiver square)
  unfolding tabled
  table_checked c t u =
      let counts = (counts_iff tasks queues).0 c in
      checked_of (tabled tasks queues period deadline priority receiver square) square
      (λ q i l b. sym (flat_at queues square q i counts.1.1 l b))
      c
      (first_bad_same _ (λ i. task_good (get_or period i 0) (get_or deadline i 0)) tasks
      (λ i l. rw (counted_at task_limit tasks period i counts.0.1 l, counted_at task_limit tasks deadline i counts.0.1 l)) ∙ t)
      (first_bad_same _ (λ q. queue_good tasks (get_or receiver q 0) (entry square q)) queues
      (λ q l. rw (counted_at queue_limit queues receiver q counts.1.1 l)) ∙ u)
