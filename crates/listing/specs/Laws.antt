-- Lines behind lines, and masks.
use Rattle.std.specs.Prelude.{◌+◌, ◌*◌, ◌^◌, ◌≤◌, ◌<◌, ◌∷◌, ◌++◌, ◌≡◌}
use Rattle.common.specs.Words.{ℕ, zero, suc, arith, add-one, Bool, true, false, cond, List, [], append_assoc, length, length-append, get_or}
use Rattle.common.specs.Words.{refl, ◌∙◌, pow-suc, pow-le-pow_right}
use Rattle.plan.specs.Limits.{task_limit}
use Rattle.digits.specs.Numbers.{in_bytes}
use Rattle.digits.specs.NumberLaws.{bytes_length}
use Rattle.frames.specs.Answers.{line_of}
use Rattle.frames.specs.Writing.{line_length}
use Rattle.listing.specs.declared.writer.Writer.{Writer}
use Rattle.listing.specs.Writer.{Put, put_none, put_more}
use Rattle.listing.specs.Lines.{task_line, queue_line, task_bytes, queue_bytes, mask_of, sender, each_task, each_queue}

-- ## One line

three_length : (a b c : List ℕ) → length (line_of (a ++ (b ++ c))) ≡ 2 * (length a + (length b + length c)) + 1
three_length a b c =
    let m : length (b ++ c) ≡ length b + length c = length-append b c in
    let n : length (a ++ (b ++ c)) ≡ length a + length (b ++ c) = length-append a (b ++ c) in
    omega (arith, m, n, line_length (a ++ (b ++ c)))

-- a line of numbers in so many bytes
pub numbers_length : (i j k x y z : ℕ) → length (line_of (in_bytes i x ++ (in_bytes j y ++ in_bytes k z))) ≡ 2 * (i + (j + k)) + 1
numbers_length i j k x y z =
    omega (arith, three_length (in_bytes i x) (in_bytes j y) (in_bytes k z), bytes_length i x, bytes_length j y, bytes_length k z)

-- ## Lines behind each other

task_length_lem : (period deadline priority : ℕ) → length (line_of (task_bytes period deadline priority)) ≡ task_line
unfolding task_bytes
task_length_lem period deadline priority =
    let a = in_bytes 1 0x01 in
    let b = in_bytes 2 period in
    rw (← append_assoc a b (in_bytes 2 deadline ++ in_bytes 1 priority))
    (omega (
      arith,
      three_length (a ++ b) (in_bytes 2 deadline) (in_bytes 1 priority),
      length-append a b,
      bytes_length 1 0x01,
      bytes_length 2 period,
      bytes_length 2 deadline,
      bytes_length 1 priority,
    ))

queue_length : (receiver mask : ℕ) → length (line_of (queue_bytes receiver mask)) ≡ queue_line
unfolding queue_bytes
queue_length receiver mask = numbers_length 1 1 2 2 receiver mask

pub tasks_length : (period deadline priority : List ℕ) (n : ℕ) → length (each_task period deadline priority n) ≡ task_line * n
unfolding each_task
tasks_length period deadline priority zero = refl
tasks_length period deadline priority (suc n) =
    let t = get_or period n 0 in
    let d = get_or deadline n 0 in
    let r = get_or priority n 0 in
    length-append (each_task period deadline priority n) (line_of (task_bytes t d r))
    ∙ omega (arith, tasks_length period deadline priority n, task_length_lem t d r)

pub queues_length : (receiver : List ℕ) (sends : List Bool) (n : ℕ) → length (each_queue receiver sends n) ≡ queue_line * n
unfolding each_queue
queues_length receiver sends zero = refl
queues_length receiver sends (suc n) =
    length-append (each_queue receiver sends n) (line_of (queue_bytes (get_or receiver n 0) (mask_of (sender sends n) task_limit)))
    ∙ omega (arith, queues_length receiver sends n, queue_length (get_or receiver n 0) (mask_of (sender sends n) task_limit))

pub no_tasks : (period deadline priority : List ℕ) (w : Writer) → Put w (each_task period deadline priority 0) w
unfolding each_task
no_tasks period deadline priority w = put_none w

pub no_queues : (receiver : List ℕ) (sends : List Bool) (w : Writer) → Put w (each_queue receiver sends 0) w
unfolding each_queue
no_queues receiver sends w = put_none w

pub tasks_more : (period deadline priority : List ℕ) (n : ℕ) {w v u : Writer} → Put w (each_task period deadline priority n) v →
    Put v (line_of (task_bytes (get_or period n 0) (get_or deadline n 0) (get_or priority n 0))) u →
    Put w (each_task period deadline priority (n + 1)) u
unfolding each_task
tasks_more period deadline priority n p q = rw (add-one n) (put_more p q)

pub queues_more : (receiver : List ℕ) (sends : List Bool) (n : ℕ) {w v u : Writer} → Put w (each_queue receiver sends n) v →
    Put v (line_of (queue_bytes (get_or receiver n 0) (mask_of (sender sends n) task_limit))) u → Put w (each_queue receiver sends (n + 1)) u
unfolding each_queue
queues_more receiver sends n p q = rw (add-one n) (put_more p q)

pub table_length : (period deadline priority receiver : List ℕ) (sends : List Bool) (m n : ℕ) →
    length (each_task period deadline priority m ++ (each_queue receiver sends n ++ line_of (0x03 ∷ []))) ≡ task_line * m + queue_line * n + 3
table_length period deadline priority receiver sends m n =
    let t = each_task period deadline priority m in
    let q = each_queue receiver sends n in
    length-append t (q ++ line_of (0x03 ∷ []))
    ∙ omega (
      arith,
      length-append q (line_of (0x03 ∷ [])),
      line_length (0x03 ∷ []),
      tasks_length period deadline priority m,
      queues_length receiver sends n,
    )

-- ## Masks

at_most : (b : Bool) (x : ℕ) → cond b x 0 ≤ x
at_most true x = omega arith
at_most false x = omega arith

mask_less : (sends : ℕ → Bool) (n : ℕ) → mask_of sends n < 2 ^ n
unfolding mask_of
mask_less sends zero = omega arith
mask_less sends (suc n) = omega (arith, mask_less sends n, at_most (sends n) (2 ^ n), pow-suc 2 n)

pub bit_fits : (n : ℕ) → n ≤ task_limit → 2 ^ n ≤ 65536
bit_fits n h = pow-le-pow_right (omega arith) h

pub mask_more : (sends : ℕ → Bool) (n : ℕ) → mask_of sends n + cond (sends n) (2 ^ n) 0 ≡ mask_of sends (n + 1)
unfolding mask_of
mask_more sends n = rw (add-one n)

pub mask_fits : (sends : ℕ → Bool) (n : ℕ) → n < task_limit → mask_of sends n + cond (sends n) (2 ^ n) 0 < 65536 * 2
mask_fits sends n h = omega (arith, mask_less sends n, at_most (sends n) (2 ^ n), bit_fits n (omega (arith, h)))
