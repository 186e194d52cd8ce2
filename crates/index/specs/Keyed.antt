-- The keys of each sort of row, as the rows are written.
use Rattle.std.specs.Prelude.{◌<◌, ◌≡◌}
use Rattle.common.specs.Words.{ℕ, arith, List, refl, ne_eqb}
use Rattle.rows.specs.Rows.{Row, a_link, process_row, type_row, implementation_row, port_row, thread_row, link_row}
use Rattle.keys.specs.Keys.{key}
use Rattle.index.specs.Index.{column, declared_key, key_by, no_key}

-- what it is declared as
pub key_process : (p : ℕ) → key_by 0 (process_row p) ≡ key 1 0 0 0 0
unfolding key_by declared_key process_row
key_process p = refl

pub key_type : (n e : ℕ) (ps : List ℕ) → key_by 0 (type_row n e ps) ≡ key 2 0 n 0 0
unfolding key_by declared_key type_row
key_type n e ps = refl

pub key_implementation : (t n : ℕ) (ps : List ℕ) → key_by 0 (implementation_row t n ps) ≡ key 3 0 t n 0
unfolding key_by declared_key implementation_row
key_implementation t n ps = refl

pub key_port : (o n d : ℕ) (ps : List ℕ) → key_by 0 (port_row o n d ps) ≡ key 4 o n 0 0
unfolding key_by declared_key port_row
key_port o n d ps = refl

pub key_thread : (p n t i : ℕ) (ps : List ℕ) → key_by 0 (thread_row p n t i ps) ≡ key 5 p n 0 0
unfolding key_by declared_key thread_row
key_thread p n t i ps = refl

-- a connection, by its name, by its ends and by its queue
module _ (p n f a b c d x : ℕ) where
  pub key_link : key_by 0 (link_row p n f a b c d x) ≡ key 6 p n 0 0
  unfolding key_by declared_key link_row
  key_link = refl

  pub key_ends : key_by 1 (link_row p n f a b c d x) ≡ key 7 p a c d
  unfolding key_by link_row
  key_ends = refl

  pub key_queue : key_by 2 (link_row p n f a b c d x) ≡ key 8 p c d 0
  unfolding key_by link_row
  key_queue = refl

-- no other row has a key in these two roles
pub key_none : (role : ℕ) (row : Row) → 0 < role → (column row 0 ≡ a_link → ⊥) → key_by role row ≡ no_key
unfolding key_by
key_none role row l n = rw (ne_eqb role 0 (λ e. omega arith), ne_eqb (column row 0) a_link n)
