-- Laws of choosing: one row more, and what was chosen is below the count.
use Rattle.std.specs.Prelude.{Some, None, IfSome, ◌&&◌, ◌+◌, ◌<◌, ◌≤◌, ◌∷◌, ◌++◌, ◌≡◌}
use Rattle.common.specs.Words.{ℕ, zero, suc, arith, add-one, Bool, true, false, cond, List, [], append-nil, refl, sym, ap, ◌∙◌, ⊎_elim, eqb}
use Rattle.common.specs.Words.{eqb-true, eqb-false, ltb, lt-ltb, le-ltb, length, length-append, length-set, length-replicate, get_or, get_or-append}
use Rattle.common.specs.Words.{get_or-eq_default, get_or_at, get_or-set_same, get_or-set_other, get_or-replicate, ext_get_or, set, replicate, subst}
use Rattle.common.specs.Tests.{lt_or_le, true_or_false}
use Rattle.common.specs.Table.{table_length, table_at}
use Rattle.rows.specs.Rows.{a_thread, a_link}
use Rattle.index.specs.Index.{cell, rows_in}
use Rattle.index.specs.Laws.{rows_length}
use Rattle.verdict.specs.Verdict.{is_first}
use Rattle.plan.specs.Limits.{task_limit}
use Rattle.chosen.specs.declared.Chosen.{Chosen}
use Rattle.chosen.specs.Chosen.{chosen_below, threads_of, queues_of, held, chosen, at_or}

-- ## Choosing

module _ (so : ℕ → Bool) where
  -- one row looked at more, as a loop counts it
  pub choose_this : (n : ℕ) → so n ≡ true → chosen_below so (n + 1) ≡ chosen_below so n ++ (n ∷ [])
  unfolding chosen_below
  choose_this n e = rw (add-one n, e) refl

  pub choose_not : (n : ℕ) → so n ≡ false → chosen_below so (n + 1) ≡ chosen_below so n
  unfolding chosen_below
  choose_not n e = rw (add-one n, e) (append-nil (chosen_below so n))

  chosen_few : (n : ℕ) → length (chosen_below so n) ≤ n
  unfolding chosen_below
  chosen_few zero = omega arith
  chosen_few (suc n) = go (so n) (chosen_few n)
    where
      go : (b : Bool) → length (chosen_below so n) ≤ n → length (chosen_below so n ++ cond b (n ∷ []) []) ≤ suc n
      go true h = omega (arith, length-append (chosen_below so n) (n ∷ []))
      go false h = omega (arith, length-append (chosen_below so n) [])

  chosen_below_lem : (n i : ℕ) → i < length (chosen_below so n) → get_or (chosen_below so n) i 0 < n
  unfolding chosen_below
  chosen_below_lem zero i l = absurd (omega arith)
  chosen_below_lem (suc n) i l = go (so n) (chosen_below_lem n i) l
    where
      go : (b : Bool) → (i < length (chosen_below so n) → get_or (chosen_below so n) i 0 < n) →
          i < length (chosen_below so n ++ cond b (n ∷ []) []) →
          get_or (chosen_below so n ++ cond b (n ∷ []) []) i 0 < suc n
      go true h l =
          ⊎_elim (λ (o : i < length (chosen_below so n)). rw (get_or-append (chosen_below so n) (n ∷ []) 0 i o) (omega (arith, h o)))
          (λ (o : length (chosen_below so n) ≤ i).
          let e : length (chosen_below so n) ≡ i = omega (arith, length-append (chosen_below so n) (n ∷ []), l) in
          rw (get_or_at (chosen_below so n) n [] 0 i e) (omega arith))
          (lt_or_le i (length (chosen_below so n)))
      go false h l =
          let o : i < length (chosen_below so n) = omega (arith, length-append (chosen_below so n) [], l) in
          rw (get_or-append (chosen_below so n) [] 0 i o) (omega (arith, h o))

-- ## What was chosen, in an array

held_at : (ks : List ℕ) (i : ℕ) → i < task_limit → get_or (held ks) i 0 ≡ get_or ks i 0
held_at ks i l = table_at (λ (j : ℕ). get_or ks j 0) task_limit i 0 l

held_length : (ks : List ℕ) → length (held ks) ≡ task_limit
held_length ks = table_length (λ (j : ℕ). get_or ks j 0) task_limit

-- one more, where there is room and where there is none
held_more : (ks : List ℕ) (k : ℕ) → length ks < task_limit → set (held ks) (length ks) k ≡ held (ks ++ (k ∷ []))
held_more ks k l =
    ext_get_or 0 (set (held ks) (length ks) k) (held (ks ++ (k ∷ [])))
    (length-set (held ks) (length ks) k ∙ held_length ks ∙ sym (held_length (ks ++ (k ∷ []))))
    (λ i h. at i (omega (arith, h, length-set (held ks) (length ks) k, held_length ks)))
  where
    beyond : (i : ℕ) → length ks < i → get_or (ks ++ (k ∷ [])) i 0 ≡ get_or ks i 0
    beyond i h =
        get_or-eq_default (ks ++ (k ∷ [])) 0 (omega (arith, length-append ks (k ∷ []))) ∙ sym (get_or-eq_default ks 0 (omega arith))

    other : (i : ℕ) → (i ≡ length ks → ⊥) → get_or (ks ++ (k ∷ [])) i 0 ≡ get_or ks i 0
    other i n =
        ⊎_elim (λ (o : i < length ks). get_or-append ks (k ∷ []) 0 i o)
        (λ (o : length ks ≤ i). beyond i (omega arith)) (lt_or_le i (length ks))

    at : (i : ℕ) → i < task_limit → get_or (set (held ks) (length ks) k) i 0 ≡ get_or (held (ks ++ (k ∷ []))) i 0
    at i h =
        ⊎_elim (λ (b : eqb i (length ks) ≡ true).
        let e : i ≡ length ks = eqb-true i (length ks) b in
        rw e
        (get_or-set_same (held ks) (length ks) k 0 (omega (arith, held_length ks))
        ∙ sym (held_at (ks ++ (k ∷ [])) (length ks) l ∙ get_or_at ks k [] 0 (length ks) refl)))
        (λ (b : eqb i (length ks) ≡ false).
        let n = eqb-false i (length ks) b in
        get_or-set_other (held ks) (length ks) i k 0 n ∙ held_at ks i h ∙ sym (held_at (ks ++ (k ∷ [])) i h ∙ other i n))
        (true_or_false (eqb i (length ks)))

held_full : (ks : List ℕ) (k : ℕ) → task_limit ≤ length ks → held ks ≡ held (ks ++ (k ∷ []))
held_full ks k l =
    ext_get_or 0 (held ks) (held (ks ++ (k ∷ []))) (held_length ks ∙ sym (held_length (ks ++ (k ∷ []))))
    (λ i h. at i (omega (arith, h, held_length ks)))
  where
    at : (i : ℕ) → i < task_limit → get_or (held ks) i 0 ≡ get_or (held (ks ++ (k ∷ []))) i 0
    at i h = held_at ks i h ∙ sym (held_at (ks ++ (k ∷ [])) i h ∙ get_or-append ks (k ∷ []) 0 i (omega arith))

held_none : replicate task_limit 0 ≡ held []
held_none =
    ext_get_or 0 (replicate task_limit 0) (held []) (length-replicate {A = ℕ} task_limit 0 ∙ sym (held_length []))
    (λ i h. at i (omega (arith, h, length-replicate {A = ℕ} task_limit 0)))
  where
    at : (i : ℕ) → i < task_limit → get_or (replicate task_limit 0) i 0 ≡ get_or (held []) i 0
    at i h = get_or-replicate task_limit i 0 0 h ∙ sym (held_at [] i h)

-- with their count
abbrev pub counted : ℕ → List ℕ → Chosen
counted n r = record { count = n; rows = r }

pub none_chosen : (so : ℕ → Bool) → counted 0 (replicate task_limit 0) ≡ chosen (chosen_below so 0)
unfolding chosen_below
none_chosen so = ap (counted 0) held_none

-- of what holds ks
module _ (ks : List ℕ) {x : Chosen} (e : x ≡ chosen ks) where
  count_is : x.count ≡ length ks
  count_is = ap (λ (y : Chosen). y.count) e

  pub rows_are : x.rows ≡ held ks
  rows_are = ap (λ (y : Chosen). y.rows) e

  -- one more
  pub more_held : (k : ℕ) {r : List ℕ} → x.count < task_limit → r ≡ set x.rows x.count k →
      counted (x.count + 1) r ≡ chosen (ks ++ (k ∷ []))
  more_held k l f = rw (f, rows_are, count_is, held_more ks k (omega (arith, count_is, l)), length-append ks (k ∷ [])) refl

  pub more_full : (k : ℕ) {r : List ℕ} → task_limit ≤ x.count → r ≡ x.rows → counted (x.count + 1) r ≡ chosen (ks ++ (k ∷ []))
  more_full k l f = rw (f, rows_are, count_is, ← held_full ks k (omega (arith, count_is, l)), length-append ks (k ∷ [])) refl

  chosen_at : (i : ℕ) → i < task_limit → get_or x.rows i 0 ≡ get_or ks i 0
  chosen_at i l = rw rows_are (held_at ks i l)

  -- what they come to at i
  pub at_there : {A : Type 0} (f : ℕ → A) (d : A) (i : ℕ) → i < task_limit → i < x.count → f (get_or x.rows i 0) ≡ at_or ks f d i
  at_there f d i l h =
      let t : ltb i (length ks) ≡ true = lt-ltb i (length ks) (omega (arith, count_is, h)) in
      rw (t, chosen_at i l) refl

  pub at_beyond : {A : Type 0} (f : ℕ → A) (d : A) (i : ℕ) → x.count ≤ i → d ≡ at_or ks f d i
  at_beyond f d i h =
      let t : ltb i (length ks) ≡ false = le-ltb i (length ks) (omega (arith, count_is, h)) in
      rw t refl

-- rows that were chosen are rows that are there
chosen_row : (so : ℕ → Bool) (n : ℕ) {x : Chosen} → x ≡ chosen (chosen_below so n) →
    (i : ℕ) → i < task_limit → i < x.count → get_or x.rows i 0 < n
chosen_row so n e i l h = rw (chosen_at (chosen_below so n) e i l) (chosen_below_lem so n i (omega (arith, count_is (chosen_below so n) e, h)))

pub chosen_count : (so : ℕ → Bool) (n : ℕ) {x : Chosen} → x ≡ chosen (chosen_below so n) → x.count ≤ n
chosen_count so n e = omega (arith, count_is (chosen_below so n) e, chosen_few so n)

pub thread_row_lem : (count : ℕ) (m : List ℕ) {x : Chosen} → x ≡ chosen (threads_of (rows_in count m)) →
    (i : ℕ) → i < task_limit → i < x.count →
    get_or x.rows i 0 < count
unfolding threads_of
thread_row_lem count m e i l h = rw (rows_length count m) at (chosen_row _ (length (rows_in count m)) e i l h)

pub queue_row : (p : List ℕ) (count : ℕ) (m : List ℕ) {x : Chosen} →
    x ≡ chosen (queues_of p (rows_in count m)) → (i : ℕ) → i < task_limit → i < x.count →
    get_or x.rows i 0 < count
unfolding queues_of
queue_row p count m e i l h = rw (rows_length count m) at (chosen_row _ (length (rows_in count m)) e i l h)

-- the row at i of what was chosen is there
there : (so : ℕ → Bool) (n i : ℕ) → IfSome (at_or (chosen_below so n) Some None i) (λ k. k < n)
there so n i =
    ⊎_elim (λ (l : i < length (chosen_below so n)). rw (lt-ltb i (length (chosen_below so n)) l) (chosen_below_lem so n i l))
    (λ (h : length (chosen_below so n) ≤ i). rw (le-ltb i (length (chosen_below so n)) h) tt) (lt_or_le i (length (chosen_below so n)))

pub thread_there : (count : ℕ) (m : List ℕ) (i : ℕ) → IfSome (at_or (threads_of (rows_in count m)) Some None i) (λ k. k < count)
unfolding threads_of
thread_there count m i =
    subst (λ (n : ℕ). IfSome (at_or (threads_of (rows_in count m)) Some None i) (λ k. k < n)) (rows_length count m)
    (there (λ (k : ℕ). eqb (cell (rows_in count m) k 0) a_thread) (length (rows_in count m)) i)

pub queue_there : (p : List ℕ) (count : ℕ) (m : List ℕ) (j : ℕ) →
    IfSome (at_or (queues_of p (rows_in count m)) Some None j) (λ q. q < count)
unfolding queues_of
queue_there p count m j =
    subst (λ (n : ℕ). IfSome (at_or (queues_of p (rows_in count m)) Some None j) (λ q. q < n)) (rows_length count m)
    (there (λ (k : ℕ). eqb (cell (rows_in count m) k 0) a_link && is_first p 2 (rows_in count m) k)
    (length (rows_in count m)) j)

-- what it comes to
pub at_said : {A : Type 0} (ks : List ℕ) (f : ℕ → A) (d : A) (i : ℕ) {q : ℕ} → Some q ≡ at_or ks Some None i → f q ≡ at_or ks f d i
at_said ks f d i {q} = go (ltb i (length ks)) (get_or ks i 0)
  where
    go : (b : Bool) (k : ℕ) → Some q ≡ cond b (Some k) None → f q ≡ cond b (f k) d
    go true k e = let g : q ≡ k = cc in ap f g
    go false k e = cc
