-- Laws of rows in memory and of their keys, and how a dictionary grows row by row.
use Rattle.std.specs.Prelude.{IfSome, ◌+◌, ◌-◌, ◌*◌, ◌/◌, ◌%◌, ◌<◌, ◌≤◌, ◌∷◌, ◌++◌, ◌≡◌}
use Rattle.common.specs.Words.{ℕ, zero, suc, arith, true, false, List, [], refl, sym, ap, ◌∙◌, length, take, drop, drop-drop, get_or}
use Rattle.common.specs.Words.{get_or-take, get_or-drop, set, length-set, get_or-set_same, get_or-set_other}
use Rattle.rows.specs.Rows.{Row, row_words}
use Rattle.keys.specs.Keys.{Meaning, meant, same_meaning}
use Rattle.index.specs.Found.{found, found_le, found_at, found_first}
use Rattle.index.specs.Trees.{nothing, walk, Left, left_here, left_on, entered}
use Rattle.index.specs.Growing.{sound_none, entered_length, enter_sound}
use Rattle.index.specs.Options.{row_of, row_within}
use Rattle.index.specs.Index.{rows_in, row_at, column, key_by, keys_of, Indexed, most_rows}

-- ## Rows in memory

rows_behind : (m : List ℕ) (k : ℕ) → row_at (drop row_words m) k ≡ row_at m (suc k)
rows_behind m k =
    let e : row_words + row_words * k ≡ row_words * suc k = omega arith in
    ap (take row_words) (drop-drop (row_words * k) row_words m ∙ ap (λ (i : ℕ). drop i m) e)

pub rows_length : (n : ℕ) (m : List ℕ) → length (rows_in n m) ≡ n
unfolding rows_in
rows_length zero m = refl
rows_length (suc n) m = ap suc (rows_length n (drop row_words m))

pub row_in : (n : ℕ) (m : List ℕ) (k : ℕ) → k < n → get_or (rows_in n m) k [] ≡ row_at m k
unfolding rows_in
row_in zero m k l = absurd (omega arith)
row_in (suc n) m zero l = refl
row_in (suc n) m (suc k) l = row_in n (drop row_words m) k (omega arith) ∙ rows_behind m k

-- one row more, as a loop counts it
pub rows_more : (n : ℕ) (m : List ℕ) → rows_in (n + 1) m ≡ rows_in n m ++ (row_at m n ∷ [])
unfolding rows_in
rows_more zero m = refl
rows_more (suc n) m =
    let e : suc n + 1 ≡ suc (n + 1) = omega arith in
    rw e (ap (λ (rs : List Row). take row_words m ∷ rs) (rows_more n (drop row_words m) ∙ rw (rows_behind m n)))

-- a row's numbers are those in memory
pub column_at : (m : List ℕ) (k c : ℕ) → c < row_words → column (row_at m k) c ≡ get_or m (row_words * k + c) 0
column_at m k c l = get_or-take row_words (drop (row_words * k) m) c 0 l ∙ get_or-drop (row_words * k) m c 0

pub rows_column : (n : ℕ) (m : List ℕ) (k c : ℕ) → k < n → c < row_words →
    get_or (get_or (rows_in n m) k []) c 0 ≡ get_or m (row_words * k + c) 0
rows_column n m k c l g = rw (row_in n m k l) (column_at m k c g)

-- ## Keys of rows

keys_append : (p : List ℕ) (role : ℕ) (rows : List Row) (row : Row) →
    keys_of p role (rows ++ (row ∷ [])) ≡ keys_of p role rows ++ (meant p (key_by role row) ∷ [])
unfolding keys_of
keys_append p role [] row = refl
keys_append p role (r ∷ rows) row = ap (λ (ks : List Meaning). meant p (key_by role r) ∷ ks) (keys_append p role rows row)

pub keys_more : (p : List ℕ) (role n : ℕ) (m : List ℕ) →
    keys_of p role (rows_in (n + 1) m) ≡ keys_of p role (rows_in n m) ++ (meant p (key_by role (row_at m n)) ∷ [])
keys_more p role n m = rw (rows_more n m) (keys_append p role (rows_in n m) (row_at m n))

pub keys_of_length : (p : List ℕ) (role : ℕ) (rows : List Row) → length (keys_of p role rows) ≡ length rows
unfolding keys_of
keys_of_length p role [] = refl
keys_of_length p role (row ∷ rows) = ap suc (keys_of_length p role rows)

pub keys_length : (p : List ℕ) (role n : ℕ) (m : List ℕ) → length (keys_of p role (rows_in n m)) ≡ n
keys_length p role n m = keys_of_length p role (rows_in n m) ∙ rows_length n m

pub key_of : (p : List ℕ) (role : ℕ) (rows : List Row) (k : ℕ) → k < length rows →
    get_or (keys_of p role rows) k nothing ≡ meant p (key_by role (get_or rows k []))
unfolding keys_of
key_of p role [] k l = absurd (omega arith)
key_of p role (row ∷ rows) zero l = refl
key_of p role (row ∷ rows) (suc k) l = key_of p role rows k (omega arith)

pub key_in : (p : List ℕ) (role n : ℕ) (m : List ℕ) (k : ℕ) → k < n →
    get_or (keys_of p role (rows_in n m)) k nothing ≡ meant p (key_by role (row_at m k))
key_in p role n m k l =
    key_of p role (rows_in n m) k (omega (arith, rows_length n m)) ∙ ap (λ (row : Row). meant p (key_by role row)) (row_in n m k l)

pub found_within : (p : List ℕ) (role n : ℕ) (m : List ℕ) (k : Meaning) →
    IfSome (row_of (found k (keys_of p role (rows_in n m)))) (λ i. i < n)
found_within p role n m k =
    row_within (found k (keys_of p role (rows_in n m))) (omega (arith, found_le k (keys_of p role (rows_in n m)), keys_length p role n m))

-- a key that is found is the key of a row, and it is found at the first row that has it
pub found_row : (p : List ℕ) (role n : ℕ) (m : List ℕ) (k : Meaning) (i : ℕ) → found k (keys_of p role (rows_in n m)) ≡ suc i →
    (i < n) × (meant p (key_by role (row_at m i)) ≡ k)
found_row p role n m k i e =
    let l : i < n = omega (arith, found_le k (keys_of p role (rows_in n m)), keys_length p role n m) in
    (l, sym (key_in p role n m i l) ∙ found_at k (keys_of p role (rows_in n m)) i nothing e)

pub row_found : (p : List ℕ) (role n : ℕ) (m : List ℕ) (k : Meaning) (i : ℕ) → i < n → meant p (key_by role (row_at m i)) ≡ k →
    (0 < found k (keys_of p role (rows_in n m))) × (found k (keys_of p role (rows_in n m)) ≤ i + 1)
row_found p role n m k i l e =
    found_first k (keys_of p role (rows_in n m)) i nothing (omega (arith, keys_length p role n m)) (key_in p role n m i l ∙ e)

-- ## The dictionary

-- no row yet: the two slots before those of entries are free
pub indexed_none : (p : List ℕ) (role : ℕ) (rows tree : List ℕ) → 2 ≤ length tree → Indexed p role rows (set (set tree 0 0) 1 0) 0
unfolding keys_of rows_in
indexed_none p role rows tree l =
    record {
      held = omega arith;
      few = omega arith;
      room = simp length-set l;
      sound =
          sound_none (set (set tree 0 0) 1 0) (get_or-set_other (set tree 0 0) 1 0 0 0 (λ e. omega arith)
          ∙ get_or-set_same tree 0 0 0 (omega arith))
          (get_or-set_same (set tree 0 0) 1 0 0 (simp length-set (omega arith)));
    }

-- a row more, entered where the search for its key ended
pub indexed_more : (p : List ℕ) (role : ℕ) (rows tree : List ℕ) (n : ℕ) → Indexed p role rows tree n →
    row_words * (n + 1) ≤ length rows → n + 1 < most_rows → 2 * (n + 1) + 2 ≤ length tree →
    Indexed p role rows (entered tree n (walk tree (keys_of p role (rows_in n rows)) (meant p (key_by role (row_at rows n))))) (n + 1)
indexed_more p role rows tree n x a b c =
    let keys = keys_of p role (rows_in n rows) in
    let y = meant p (key_by role (row_at rows n)) in
    let l : length keys ≡ n = keys_length p role n rows in
    record {
      held = a;
      few = b;
      room = rw (entered_length tree n (walk tree keys y)) c;
      sound = rw (keys_more p role n rows) (rw l at (enter_sound tree keys y x.sound (omega arith)));
    }

-- it depends on nothing but these lists
pub indexed_same : {p q : List ℕ} {role : ℕ} {rows others tree other : List ℕ} {count : ℕ} →
    p ≡ q → rows ≡ others → tree ≡ other →
    Indexed p role rows tree count → Indexed q role others other count
indexed_same e f g x = rw (← e, ← f, ← g) x

-- a search as the code makes it: slot s holds entry e
module _ {p : List ℕ} {role : ℕ} {rows tree : List ℕ} {count : ℕ} (x : Indexed p role rows tree count) {k : Meaning} {s h e : ℕ}
    (left : Left tree (keys_of p role (rows_in count rows)) k s h) (entry : e ≡ get_or tree s 0) where
  pub entry_within : e ≤ count
  entry_within = omega (arith, x.sound.within s left.inside, keys_length p role count rows)

  pub entry_rises : 0 < e → s < 2 * e
  entry_rises l = rw entry (x.sound.rises s left.inside (λ z. omega arith))

  key_there : 0 < e → get_or (keys_of p role (rows_in count rows)) (get_or tree s 0 - 1) nothing ≡ meant p (key_by role (row_at rows (e - 1)))
  key_there l = rw (← entry) (key_in p role count rows (e - 1) (omega (arith, entry_within)))

  pub search_here : 0 < e → same_meaning (meant p (key_by role (row_at rows (e - 1)))) k ≡ true →
      s ≡ walk tree (keys_of p role (rows_in count rows)) k
  search_here l m = left_here tree (keys_of p role (rows_in count rows)) k s h left (rw (key_there l) m)

  pub search_on : 0 < e → same_meaning (meant p (key_by role (row_at rows (e - 1)))) k ≡ false →
      Left tree (keys_of p role (rows_in count rows)) k (2 * e + h % 2) (h / 2)
  search_on l m = rw entry (left_on tree (keys_of p role (rows_in count rows)) k s h left x.sound (λ z. omega arith) (rw (key_there l) m))
