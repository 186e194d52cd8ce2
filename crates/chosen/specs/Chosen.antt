-- AADL.md, section 5: which rows of a text become tasks and queues, in their order.
use Rattle.std.specs.Prelude.{◌&&◌, ◌∷◌, ◌++◌}
use Rattle.common.specs.Words.{ℕ, zero, suc, Bool, cond, List, [], eqb, ltb, length, get_or}
use Rattle.common.specs.Table.{table}
use Rattle.rows.specs.Rows.{Row, a_thread, a_link}
use Rattle.index.specs.Index.{cell}
use Rattle.verdict.specs.Verdict.{is_first}
use Rattle.plan.specs.Limits.{task_limit}
use Rattle.chosen.specs.declared.Chosen.{Chosen}

-- the rows below n that are so, in their order
unfoldable pub chosen_below : (ℕ → Bool) → ℕ → List ℕ
chosen_below so zero = []
chosen_below so (suc n) = chosen_below so n ++ cond (so n) (n ∷ []) []

-- "Threads become rows in text order"
unfoldable pub threads_of : List Row → List ℕ
threads_of rows = chosen_below (λ (k : ℕ). eqb (cell rows k 0) a_thread) (length rows)

-- "Each receiving port, that is thread and port name, becomes a queue, in the order of its first connection between threads"
unfoldable pub queues_of : List ℕ → List Row → List ℕ
queues_of p rows = chosen_below (λ (k : ℕ). eqb (cell rows k 0) a_link && is_first p 2 rows k) (length rows)

-- how many were chosen, and the first of them, as many as a plan has tasks
abbrev pub held : List ℕ → List ℕ
held ks = table (λ (i : ℕ). get_or ks i 0) task_limit

abbrev pub chosen : List ℕ → Chosen
chosen ks = record { count = length ks; rows = held ks }

-- what a list of rows comes to at i, where it is so long
abbrev pub at_or : {A : Type 0} → List ℕ → (ℕ → A) → A → ℕ → A
at_or ks f d i = cond (ltb i (length ks)) (f (get_or ks i 0)) d
