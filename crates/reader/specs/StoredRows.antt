-- Rows that are kept in memory with room for all of them are there afterwards, in their order.
use Rattle.std.specs.Prelude.{◌+◌, ◌*◌, ◌≤◌, ◌<◌, ◌∷◌, ◌++◌, ◌≡◌}
use Rattle.common.specs.Words.{ℕ, arith, true, List, [], append-nil, append_assoc, refl, sym, ap, ◌∙◌, inl, le-leb, length, length-sets, sets}
use Rattle.common.specs.Words.{ext_get_or}
use Rattle.common.specs.Stores.{part, part_same, part_other}
use Rattle.rows.specs.Rows.{Row, row_words, Store, store, with_row, with_rows}
use Rattle.rows.specs.Wide.{wide, wide_first}
use Rattle.index.specs.Index.{rows_in, row_at}
use Rattle.index.specs.Laws.{rows_length, row_in, rows_more}

-- one row more
stored_one : (m : List ℕ) (n : ℕ) (row : Row) → length row ≡ row_words → row_words * n + row_words ≤ length m →
    rows_in (n + 1) (sets m (row_words * n) row) ≡ rows_in n m ++ (row ∷ [])
stored_one m n row w l =
    let k : List ℕ = sets m (row_words * n) row in
    let before : rows_in n k ≡ rows_in n m =
    ext_get_or [] (rows_in n k) (rows_in n m) (rows_length n k ∙ sym (rows_length n m))
    (λ (j : ℕ) (h : j < length (rows_in n k)). let g : j < n = omega (arith, rows_length n k) in
    row_in n k j g ∙ part_other row m (row_words * n) (row_words * j) row_words (inl (omega arith)) ∙ sym (row_in n m j g)) in
    let last : row_at k n ≡ row = ap (λ (c : ℕ). part k (row_words * n) c) (sym w) ∙ part_same row m (row_words * n) (omega arith) in
    rows_more n k ∙ rw (before, last)

stored_room : (m : List ℕ) (n : ℕ) (row : Row) → row_words * n + row_words ≤ length m →
    with_row (store m n) row ≡ store (sets m (row_words * n) row) (n + 1)
unfolding with_row
stored_room m n row l = rw (le-leb (row_words * n + row_words) (length m) l)

pub record Held (m : List ℕ) (n : ℕ) (more : List Row) (s : Store) : Type 0 where
  pub count : s.count ≡ n + length more
  pub rows : rows_in s.count s.memory ≡ rows_in n m ++ more
  pub size : length s.memory ≡ length m

pub stored_held : (rows : List Row) (m : List ℕ) (n : ℕ) → wide rows ≡ true →
    row_words * (n + length rows) ≤ length m → Held m n rows (with_rows (store m n) rows)
unfolding with_rows
stored_held [] m n w l = record { count = omega arith; rows = sym (append-nil (rows_in n m)); size = refl }
stored_held (row ∷ rows) m n w l =
    let h = wide_first row rows w in
    let k : List ℕ = sets m (row_words * n) row in
    let r : length k ≡ length m = length-sets m (row_words * n) row in
    let x : Held k (n + 1) rows (with_rows (store k (n + 1)) rows) = stored_held rows k (n + 1) h.1 (omega (arith, r)) in
    rw (stored_room m n row (omega arith))
    (record {
      count = omega (arith, x.count);
      rows = x.rows ∙ ap (λ (a : List Row). a ++ rows) (stored_one m n row h.0 (omega arith)) ∙ append_assoc (rows_in n m) (row ∷ []) rows;
      size = x.size ∙ r;
    })
