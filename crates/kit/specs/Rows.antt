-- Promise 4: rows are the threads in text order, each with the Period, Deadline and Priority that section 4 finds; queues in order of first
-- connection; a sender is in a queue exactly where a connection says so.
use Rattle.std.specs.Prelude.{◌/◌, ◌%◌, ◌<◌, ◌≤◌, ◌∷◌, ◌++◌, ◌≡◌, ◌⊎◌}
use Rattle.common.specs.Words.{ℕ, zero, suc, arith, Bool, true, false, true≢false, not, cond, List, [], refl, sym, ap, ◌∙◌, inl, inr}
use Rattle.common.specs.Words.{⊎_elim, eqb, eqb-true, ne_eqb, lt-ltb, length, length-append, get_or, get_or-append, get_or_at}
use Rattle.common.specs.Tests.{lt_or_le}
use Rattle.common.specs.Table.{table, table_at}
use Rattle.keys.specs.Keys.{Meaning, key, meant}
use Rattle.rows.specs.Rows.{Row, a_thread, period_column, deadline_column, priority_column}
use Rattle.index.specs.Found.{found, found_le, found_at, found_first}
use Rattle.index.specs.Index.{a_connection, key_by, keys_of}
use Rattle.index.specs.Laws.{keys_of_length, key_of}
use Rattle.index.specs.Index.{cell}
use Rattle.verdict.specs.Verdict.{none}
use Rattle.plan.specs.Limits.{task_limit, queue_limit, cell_limit}
use Rattle.chosen.specs.Chosen.{chosen_below, threads_of, queues_of, at_or}
use Rattle.kit.specs.Kit.{figure_of, receiver_of, joins, sends_at, table_of}

-- ## What is chosen: exactly what is so, in its order

module _ (so : ℕ → Bool) where
  -- the last one, or one before it
  last : (n i : ℕ) (b : Bool) → i < length (chosen_below so n ++ cond b (n ∷ []) []) →
      ((i < length (chosen_below so n)) × (get_or (chosen_below so n ++ cond b (n ∷ []) []) i 0 ≡ get_or (chosen_below so n) i 0))
      ⊎ ((b ≡ true) × ((i ≡ length (chosen_below so n)) × (get_or (chosen_below so n ++ cond b (n ∷ []) []) i 0 ≡ n)))
  last n i b l =
      ⊎_elim (λ (h : i < length (chosen_below so n)). inl (h, get_or-append (chosen_below so n) (cond b (n ∷ []) []) 0 i h))
      (go b l) (lt_or_le i (length (chosen_below so n)))
    where
      go : (b : Bool) → i < length (chosen_below so n ++ cond b (n ∷ []) []) → length (chosen_below so n) ≤ i →
          ((i < length (chosen_below so n)) × (get_or (chosen_below so n ++ cond b (n ∷ []) []) i 0 ≡ get_or (chosen_below so n) i 0))
          ⊎ ((b ≡ true) × ((i ≡ length (chosen_below so n)) × (get_or (chosen_below so n ++ cond b (n ∷ []) []) i 0 ≡ n)))
      go true l h =
          let e : i ≡ length (chosen_below so n) = omega (arith, length-append (chosen_below so n) (n ∷ [])) in
          inr (refl, (e, get_or_at (chosen_below so n) n [] 0 i (sym e)))
      go false l h = absurd (omega (arith, length-append (chosen_below so n) []))

  pub chosen_so : (n i : ℕ) → i < length (chosen_below so n) →
      (get_or (chosen_below so n) i 0 < n) × (so (get_or (chosen_below so n) i 0) ≡ true)
  unfolding chosen_below
  chosen_so zero i l = absurd (omega arith)
  chosen_so (suc n) i l =
      ⊎_elim (λ (h : (i < length (chosen_below so n)) × (get_or (chosen_below so (suc n)) i 0 ≡ get_or (chosen_below so n) i 0)).
      let c = chosen_so n i h.0 in (omega (arith, h.1, c.0), ap so h.1 ∙ c.1))
      (λ (h : (so n ≡ true) × ((i ≡ length (chosen_below so n)) × (get_or (chosen_below so (suc n)) i 0 ≡ n))).
      (omega (arith, h.1.1), ap so h.1.1 ∙ h.0))
      (last n i (so n) l)

  pub chosen_rising : (n i j : ℕ) → i < j → j < length (chosen_below so n) → get_or (chosen_below so n) i 0 < get_or (chosen_below so n) j 0
  unfolding chosen_below
  chosen_rising zero i j l h = absurd (omega arith)
  chosen_rising (suc n) i j l h =
      ⊎_elim (λ (b : (j < length (chosen_below so n)) × (get_or (chosen_below so (suc n)) j 0 ≡ get_or (chosen_below so n) j 0)).
      let a : get_or (chosen_below so (suc n)) i 0 ≡ get_or (chosen_below so n) i 0 =
      get_or-append (chosen_below so n) (cond (so n) (n ∷ []) []) 0 i (omega (arith, b.0)) in
      omega (arith, a, b.1, chosen_rising n i j l b.0))
      (λ (b : (so n ≡ true) × ((j ≡ length (chosen_below so n)) × (get_or (chosen_below so (suc n)) j 0 ≡ n))).
      let k : i < length (chosen_below so n) = omega (arith, b.1.0) in
      let a : get_or (chosen_below so (suc n)) i 0 ≡ get_or (chosen_below so n) i 0 =
      get_or-append (chosen_below so n) (cond (so n) (n ∷ []) []) 0 i k in
      omega (arith, a, b.1.1, (chosen_so n i k).0)) (last n j (so n) h)

  abbrev Stands : ℕ → ℕ → Type 0
  Stands n k = (i : ℕ) × ((i < length (chosen_below so n)) × (get_or (chosen_below so n) i 0 ≡ k))

  pub so_chosen : (n k : ℕ) → k < n → so k ≡ true → Stands n k
  unfolding chosen_below
  so_chosen zero k l h = absurd (omega arith)
  so_chosen (suc n) k l h =
      ⊎_elim (λ (o : k < n). earlier (so_chosen n k o h))
      (λ (o : n ≤ k). let e : k ≡ n = omega arith in here (so n) (sym (ap so e) ∙ h) (sym e)) (lt_or_le k n)
    where
      earlier : Stands n k → (i : ℕ) × ((i < length (chosen_below so n ++ cond (so n) (n ∷ []) []))
          × (get_or (chosen_below so n ++ cond (so n) (n ∷ []) []) i 0 ≡ k))
      earlier s = (
        s.0,
        (
          omega (arith, s.1.0, length-append (chosen_below so n) (cond (so n) (n ∷ []) [])),
          get_or-append (chosen_below so n) (cond (so n) (n ∷ []) []) 0 s.0 s.1.0 ∙ s.1.1,
        ),
      )

      here : (b : Bool) → b ≡ true → n ≡ k → (i : ℕ) × ((i < length (chosen_below so n ++ cond b (n ∷ []) []))
          × (get_or (chosen_below so n ++ cond b (n ∷ []) []) i 0 ≡ k))
      here true e f = (
        length (chosen_below so n),
        (
          omega (arith, length-append (chosen_below so n) (n ∷ [])),
          get_or_at (chosen_below so n) n [] 0 (length (chosen_below so n)) refl ∙ f,
        ),
      )
      here false e f = absurd (true≢false (sym e))

-- ## Rows and queues

module _ (p : List ℕ) (rows : List Row) where
  -- a row of the table is a thread, and a queue the first connection to its port
  pub row_thread : (i : ℕ) → i < length (threads_of rows) → cell rows (get_or (threads_of rows) i 0) 0 ≡ a_thread
  unfolding threads_of
  row_thread i l = eqb-true (cell rows (get_or (threads_of rows) i 0) 0) a_thread
      (chosen_so (λ (k : ℕ). eqb (cell rows k 0) a_thread) (length rows) i l).1

  -- what a column of the table has for one that there is
  column_at : (ks : List ℕ) (of : ℕ → ℕ) (n i : ℕ) → i < n → i < length ks →
      get_or (table (at_or ks of 0) n) i 0 ≡ of (get_or ks i 0)
  column_at ks of n i l h = table_at (at_or ks of 0) n i 0 l ∙ rw (lt-ltb i (length ks) h)

  -- each with its Period, Deadline and Priority
  pub row_period : (i : ℕ) → i < task_limit → i < length (threads_of rows) →
      get_or (table_of p rows).period i 0 ≡ figure_of p rows period_column (get_or (threads_of rows) i 0)
  unfolding table_of
  row_period i l h = column_at (threads_of rows) (figure_of p rows period_column) task_limit i l h

  pub row_deadline : (i : ℕ) → i < task_limit → i < length (threads_of rows) →
      get_or (table_of p rows).deadline i 0 ≡ figure_of p rows deadline_column (get_or (threads_of rows) i 0)
  unfolding table_of
  row_deadline i l h = column_at (threads_of rows) (figure_of p rows deadline_column) task_limit i l h

  pub row_priority : (i : ℕ) → i < task_limit → i < length (threads_of rows) →
      get_or (table_of p rows).priority i 0 ≡ figure_of p rows priority_column (get_or (threads_of rows) i 0)
  unfolding table_of
  row_priority i l h = column_at (threads_of rows) (figure_of p rows priority_column) task_limit i l h

  pub queue_receiver : (j : ℕ) → j < queue_limit → j < length (queues_of p rows) →
      get_or (table_of p rows).receiver j 0 ≡ receiver_of p rows (get_or (queues_of p rows) j 0)
  unfolding table_of
  queue_receiver j l h = column_at (queues_of p rows) (receiver_of p rows) queue_limit j l h

  pub queue_sender : (c : ℕ) → c < cell_limit → c / task_limit < length (queues_of p rows) → c % task_limit < length (threads_of rows) →
      get_or (table_of p rows).sends c false ≡ joins p rows (get_or (queues_of p rows) (c / task_limit) 0)
      (get_or (threads_of rows) (c % task_limit) 0)
  unfolding table_of
  queue_sender c l g h =
      table_at (sends_at p rows (threads_of rows) (queues_of p rows)) cell_limit c false l
      ∙ rw (lt-ltb (c / task_limit) (length (queues_of p rows)) g, lt-ltb (c % task_limit) (length (threads_of rows)) h)

  -- ## Where a connection says so

  -- what a connection from thread k to the port of connection q means
  abbrev pub connection : ℕ → ℕ → Meaning
  connection q k = meant p (key a_connection (cell rows q 1) (cell rows k 2) (cell rows q 6) (cell rows q 7))

  pub joins_says : (q k : ℕ) → joins p rows q k ≡ true →
      (j : ℕ) × ((j < length rows) × (meant p (key_by 1 (get_or rows j [])) ≡ connection q k))
  unfolding joins
  joins_says q k h = go (found (connection q k) (keys_of p 1 rows)) refl h
    where
      go : (n : ℕ) → found (connection q k) (keys_of p 1 rows) ≡ n → not (none n) ≡ true →
          (j : ℕ) × ((j < length rows) × (meant p (key_by 1 (get_or rows j [])) ≡ connection q k))
      go zero e g = absurd (true≢false (sym g))
      go (suc j) e g =
          let l : j < length rows = omega (arith, found_le (connection q k) (keys_of p 1 rows), keys_of_length p 1 rows, e) in
          (j, (l, sym (key_of p 1 rows j l) ∙ found_at (connection q k) (keys_of p 1 rows) j _ e))

  pub says_joins : (q k j : ℕ) → j < length rows → meant p (key_by 1 (get_or rows j [])) ≡ connection q k → joins p rows q k ≡ true
  unfolding joins
  says_joins q k j l e =
      let f = found_first (connection q k) (keys_of p 1 rows) j _ (omega (arith, keys_of_length p 1 rows)) (key_of p 1 rows j l ∙ e) in
      rw (ne_eqb (found (connection q k) (keys_of p 1 rows)) 0 (λ z. omega (arith, f.0, z)))
