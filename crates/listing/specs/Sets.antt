-- Writing into a list, each piece behind the one before: digits and their line feed, the lines of tasks and of queues, and whole runs. Leans
-- on no memory that is lent: Writer.antt says the same of a writer.
use Rattle.std.specs.Prelude.{◌+◌, ◌*◌, ◌∷◌, ◌++◌, ◌≡◌}
use Rattle.common.specs.Words.{ℕ, arith, add-one, Bool, List, [], append_assoc, length, length-append, get_or, sets, refl, ◌∙◌, zero-add}
use Rattle.common.specs.Stores.{sets_append}
use Rattle.plan.specs.Limits.{task_limit}
use Rattle.digits.specs.Hex.{digits}
use Rattle.digits.specs.HexLaws.{digits_length}
use Rattle.frames.specs.Answers.{line_of}
use Rattle.frames.specs.Writing.{piece}
use Rattle.listing.specs.Lines.{task_line, queue_line, task_bytes, queue_bytes, mask_of, sender, each_task, each_queue}
use Rattle.listing.specs.Laws.{tasks_length, queues_length}

-- ## One line

-- the line feed behind digits
pub line_at : (bytes out before out' : List ℕ) (i j : ℕ) →
    before ≡ sets out i (digits bytes) → out' ≡ sets before j (10 ∷ []) →
    i + 2 * length bytes ≡ j → out' ≡ sets out i (line_of bytes)
unfolding line_of
line_at bytes out before out' i j e f g =
    let z : i + length (digits bytes) ≡ j = omega (arith, digits_length bytes, g) in
    f ∙ rw (e, sets_append (digits bytes) (10 ∷ []) out i, z)

-- three pieces of digits, each behind the one before
pub pieces : (a b c out o p q : List ℕ) (i j k : ℕ) →
    o ≡ sets out i (digits a) → p ≡ sets o j (digits b) → q ≡ sets p k (digits c) →
    i + 2 * length a ≡ j → j + 2 * length b ≡ k → q ≡ sets out i (digits (a ++ (b ++ c)))
pieces a b c out o p q i j k e f g x y =
    let l : length (a ++ b) ≡ length a + length b = length-append a b in
    let two : p ≡ sets out i (digits (a ++ b)) = f ∙ rw e (piece a b out i j x) in
    rw (← append_assoc a b c) (g ∙ rw two (piece (a ++ b) c out i k (omega (arith, l, x, y))))

-- a line of three pieces, from index i on
pub three_at : (a b c out o p q out' : List ℕ) (i j k l : ℕ) →
    o ≡ sets out i (digits a) → p ≡ sets o j (digits b) → q ≡ sets p k (digits c) → out' ≡ sets q l (10 ∷ []) →
    i + 2 * length a ≡ j → j + 2 * length b ≡ k → k + 2 * length c ≡ l → out' ≡ sets out i (line_of (a ++ (b ++ c)))
three_at a b c out o p q out' i j k l e f g h x y z =
    let m : length (b ++ c) ≡ length b + length c = length-append b c in
    let n : length (a ++ (b ++ c)) ≡ length a + length (b ++ c) = length-append a (b ++ c) in
    line_at (a ++ (b ++ c)) out q out' i l (pieces a b c out o p q i j k e f g x y) h (omega (arith, m, n, x, y, z))

-- and of four
pub four_at : (a b c d out o p q r out' : List ℕ) (i j k l m : ℕ) →
    o ≡ sets out i (digits a) → p ≡ sets o j (digits b) → q ≡ sets p k (digits c) → r ≡ sets q l (digits d) →
    out' ≡ sets r m (10 ∷ []) →
    i + 2 * length a ≡ j → j + 2 * length b ≡ k → k + 2 * length c ≡ l → l + 2 * length d ≡ m →
    out' ≡ sets out i (line_of (a ++ (b ++ (c ++ d))))
four_at a b c d out o p q r out' i j k l m e f g h n x y z w =
    rw (← append_assoc a b (c ++ d))
    (three_at (a ++ b) c d out p q r out' i k l m (f ∙ rw e (piece a b out i j x)) g h n (omega (arith, length-append a b, x, y)) z w)

-- ## Lines behind each other

-- no tasks, and no queues, leave the list as it is
pub no_tasks_set : (period deadline priority l : List ℕ) → l ≡ sets l 0 (each_task period deadline priority 0)
unfolding each_task
no_tasks_set period deadline priority l = refl

pub no_queues_set : (receiver : List ℕ) (sends : List Bool) (l : List ℕ) (at : ℕ) → l ≡ sets l at (each_queue receiver sends 0)
unfolding each_queue
no_queues_set receiver sends l at = refl

-- the line of one task more, behind those of the tasks before it
pub tasks_set_more : (period deadline priority l : List ℕ) (n : ℕ) →
    sets (sets l 0 (each_task period deadline priority n)) (task_line * n)
    (line_of (task_bytes (get_or period n 0) (get_or deadline n 0) (get_or priority n 0)))
    ≡ sets l 0 (each_task period deadline priority (n + 1))
unfolding each_task
tasks_set_more period deadline priority l n =
    let before = each_task period deadline priority n in
    let line = line_of (task_bytes (get_or period n 0) (get_or deadline n 0) (get_or priority n 0)) in
    rw (add-one n, sets_append before line l 0, zero-add (length before), tasks_length period deadline priority n)

-- and of one queue more
pub queues_set_more : (receiver : List ℕ) (sends : List Bool) (l : List ℕ) (at n : ℕ) →
    sets (sets l at (each_queue receiver sends n)) (at + queue_line * n)
    (line_of (queue_bytes (get_or receiver n 0) (mask_of (sender sends n) task_limit)))
    ≡ sets l at (each_queue receiver sends (n + 1))
unfolding each_queue
queues_set_more receiver sends l at n =
    let line = line_of (queue_bytes (get_or receiver n 0) (mask_of (sender sends n) task_limit)) in
    rw (add-one n, sets_append (each_queue receiver sends n) line l at, queues_length receiver sends n)

-- three runs, each behind the one before
pub runs : (a b c out o p out' : List ℕ) (j k : ℕ) →
    o ≡ sets out 0 a → p ≡ sets o j b → out' ≡ sets p k c → length a ≡ j →
    j + length b ≡ k → out' ≡ sets out 0 (a ++ (b ++ c))
runs a b c out o p out' j k e f g x y =
    rw (sets_append a (b ++ c) out 0, zero-add (length a), sets_append b c (sets out 0 a) (length a))
    (g ∙ rw (f, e, ← y, ← x))
