-- Each answer's line says the answer's code and values, where they fit the bytes that they are written in.
use Rattle.std.specs.Prelude.{◌+◌, ◌*◌, ◌/◌, ◌^◌, ◌<◌, ◌∷◌, ◌++◌, ◌≡◌}
use Rattle.common.specs.Words.{ℕ, zero, suc, arith, List, [], append_assoc, append-nil, refl, sym, ap, ◌∙◌, ⊎_elim, eq-or-lt_of_le}
use Rattle.common.specs.Words.{le_of_suc-le-suc, length, get_or, length-append}
use Rattle.common.specs.Table.{table}
use Rattle.plan.specs.Refusals.{number_of}
use Rattle.plan.specs.Says.{refused_says}
use Rattle.plan.specs.declared.refusal.Rule.{Rule}
use Rattle.plan.specs.declared.refusal.Rule.TheVariants.{TaskOrQueueCount, PeriodOrDeadline, ReceiverOrSender, HyperperiodTooLong, TooManyMessages}
use Rattle.plan.specs.declared.refusal.Rule.TheVariants.{TooManySlots, UnsoundPlan, ShortMemory, NoSuchSender, TickBeforeState, PastLastTick, JobOver}
use Rattle.plan.specs.declared.refusal.Rule.TheVariants.{SentAlready, PayloadLength, NoSuchNumber}
use Rattle.digits.specs.Hex.{digit, bytes_in, digits}
use Rattle.digits.specs.Numbers.{value_at, in_bytes}
use Rattle.digits.specs.NumberLaws.{bytes_length}
use Rattle.frames.specs.Answers.{each_size, sizes_bytes, stored_bytes, message_bytes, gap_bytes, empty_bytes, refusal_bytes, bad_bytes, line_of}
use Rattle.frames.specs.Writing.{sizes_length}
use Rattle.logs.specs.Types.{Refusal}
use Rattle.logs.specs.Said.{code_in, said_in, bad_told, nothing_told}
use Rattle.logs.proofs.Fields.{field, bytes_half}

code_back : (code : ℕ) (rest : List ℕ) → code < 256 → code_in (line_of (in_bytes 1 code ++ rest)) ≡ code
code_back code rest h = field [] rest 0 1 code refl (omega arith)

-- a code and two numbers
module _ (code width n width' n' : ℕ) (code_fits : code < 256) (fits : n < 256 ^ width) (fits' : n' < 256 ^ width') where
  abbrev line : List ℕ
  line = line_of (in_bytes 1 code ++ (in_bytes width n ++ in_bytes width' n'))

  first_back : value_at (bytes_in line) 1 width ≡ n
  first_back = field (in_bytes 1 code) (in_bytes width' n') 1 width n (bytes_length 1 code) fits

  second_back : (at : ℕ) → 1 + width ≡ at → value_at (bytes_in line) at width' ≡ n'
  second_back at e =
      let front : List ℕ = in_bytes 1 code ++ in_bytes width n in
      let long : length front ≡ at = length-append (in_bytes 1 code) (in_bytes width n) ∙ rw (bytes_length 1 code, bytes_length width n, e) in
      let whole : front ++ (in_bytes width' n' ++ []) ≡ in_bytes 1 code ++ (in_bytes width n ++ in_bytes width' n') =
      rw append-nil (append_assoc (in_bytes 1 code) (in_bytes width n) (in_bytes width' n')) in
      rw (← whole) (field front [] at width' n' long fits')

pub stored_back : (n s : ℕ) → n < 256 ^ 6 → s < 256 ^ 2 → said_in (line_of (stored_bytes n s)) ≡ (0x84, n ∷ s ∷ [])
unfolding said_in stored_bytes
stored_back n s f g =
    rw (
      code_back 0x84 (in_bytes 6 n ++ in_bytes 2 s) (omega arith),
      first_back 0x84 6 n 2 s (omega arith) f g,
      second_back 0x84 6 n 2 s (omega arith) f g 7 refl,
    )

pub gap_back : (n row : ℕ) → n < 256 ^ 6 → row < 256 → said_in (line_of (gap_bytes n row)) ≡ (0x86, n ∷ row ∷ [])
unfolding said_in gap_bytes
gap_back n row f g =
    rw (
      code_back 0x86 (in_bytes 6 n ++ in_bytes 1 row) (omega arith),
      first_back 0x86 6 n 1 row (omega arith) f (omega arith),
      second_back 0x86 6 n 1 row (omega arith) f (omega arith) 7 refl,
    )

pub message_back : (n : ℕ) (payload : List ℕ) → n < 256 ^ 6 → said_in (line_of (message_bytes n payload)) ≡ (0x85, n ∷ [])
unfolding said_in message_bytes
message_back n payload f =
    rw (code_back 0x85 (in_bytes 6 n ++ payload) (omega arith), field (in_bytes 1 0x85) payload 1 6 n (bytes_length 1 0x85) f)

pub empty_back : said_in (line_of empty_bytes) ≡ (0x87, [])
unfolding said_in empty_bytes line_of bytes_in digits digit value_at in_bytes table
empty_back = refl

pub bad_back : said_in (line_of bad_bytes) ≡ bad_told
unfolding said_in bad_bytes line_of bytes_in digits digit value_at in_bytes table
bad_back = refl

pub nothing_back : said_in [] ≡ nothing_told
unfolding said_in bytes_in value_at table
nothing_back = refl

rule_small : (r : Rule) → number_of r < 256
rule_small TaskOrQueueCount = omega arith
rule_small PeriodOrDeadline = omega arith
rule_small ReceiverOrSender = omega arith
rule_small HyperperiodTooLong = omega arith
rule_small TooManyMessages = omega arith
rule_small TooManySlots = omega arith
rule_small UnsoundPlan = omega arith
rule_small ShortMemory = omega arith
rule_small NoSuchSender = omega arith
rule_small TickBeforeState = omega arith
rule_small PastLastTick = omega arith
rule_small JobOver = omega arith
rule_small SentAlready = omega arith
rule_small PayloadLength = omega arith
rule_small NoSuchNumber = omega arith

pub refusal_back : (r : Refusal) → r.row < 256 → said_in (line_of (refusal_bytes r)) ≡ refused_says r
unfolding said_in refusal_bytes
refusal_back r g =
    let n = number_of r.rule in
    let f : n < 256 ^ 1 = omega (arith, rule_small r.rule) in
    rw (
      code_back 0x7f (in_bytes 1 n ++ in_bytes 1 r.row) (omega arith),
      first_back 0x7f 1 n 1 r.row (omega arith) f (omega arith),
      second_back 0x7f 1 n 1 r.row (omega arith) f (omega arith) 2 refl,
    )

pub refusal_code : (r : Refusal) → code_in (line_of (refusal_bytes r)) ≡ 0x7f
unfolding refusal_bytes
refusal_code r = code_back 0x7f (in_bytes 1 (number_of r.rule) ++ in_bytes 1 r.row) (omega arith)

-- ## Sizes

-- size q, with the sizes before it and those behind it
size_there : (sizes : List ℕ) (n q : ℕ) → q < n →
    (rest : List ℕ) × (each_size sizes n ≡ each_size sizes q ++ (in_bytes 2 (get_or sizes q 0) ++ rest))
unfolding each_size
size_there sizes zero q h = absurd (omega arith)
size_there sizes (suc n) q h =
    ⊎_elim (λ (e : q ≡ n). ([], rw (e, append-nil)))
    (λ (l : q < n).
    let r = size_there sizes n q l in (
      r.0 ++ in_bytes 2 (get_or sizes n 0),
      rw r.1 (append_assoc (each_size sizes q) (in_bytes 2 (get_or sizes q 0) ++ r.0) (in_bytes 2 (get_or sizes n 0))
          ∙ ap (λ (x : List ℕ). each_size sizes q ++ x) (append_assoc (in_bytes 2 (get_or sizes q 0)) r.0 (in_bytes 2 (get_or sizes n 0)))),
    ))
    (eq-or-lt_of_le (le_of_suc-le-suc h))

table_same : (f g : ℕ → ℕ) (n : ℕ) → ((q : ℕ) → q < n → f q ≡ g q) → table f n ≡ table g n
unfolding table
table_same f g zero h = refl
table_same f g (suc n) h = rw (table_same f g n (λ q l. h q (omega arith)), h n (omega arith))

size_back : (sizes : List ℕ) (n q : ℕ) → q < n → get_or sizes q 0 < 256 ^ 2 →
    value_at (bytes_in (line_of (in_bytes 1 0x81 ++ each_size sizes n))) (1 + 2 * q) 2 ≡ get_or sizes q 0
size_back sizes n q l f =
    let r = size_there sizes n q l in
    let front : List ℕ = in_bytes 1 0x81 ++ each_size sizes q in
    let long : length front ≡ 1 + 2 * q = length-append (in_bytes 1 0x81) (each_size sizes q) ∙ rw (bytes_length 1 0x81, sizes_length sizes q) in
    let whole : in_bytes 1 0x81 ++ each_size sizes n ≡ front ++ (in_bytes 2 (get_or sizes q 0) ++ r.0) =
    rw r.1 (sym (append_assoc (in_bytes 1 0x81) (each_size sizes q) (in_bytes 2 (get_or sizes q 0) ++ r.0))) in
    rw whole (field front r.0 (1 + 2 * q) 2 (get_or sizes q 0) long f)

pub sizes_back : (sizes : List ℕ) (n : ℕ) → ((q : ℕ) → q < n → get_or sizes q 0 < 256 ^ 2) →
    said_in (line_of (sizes_bytes sizes n)) ≡ (0x81, table (λ q. get_or sizes q 0) n)
unfolding said_in sizes_bytes
sizes_back sizes n h =
    let bytes : List ℕ = in_bytes 1 0x81 ++ each_size sizes n in
    let many : length (bytes_in (line_of bytes)) / 2 ≡ n =
    omega (arith, bytes_half bytes, length-append (in_bytes 1 0x81) (each_size sizes n), bytes_length 1 0x81, sizes_length sizes n) in
    rw (code_back 0x81 (each_size sizes n) (omega arith), many)
    (ap (λ (t : List ℕ). (0x81, t)) (table_same _ (λ q. get_or sizes q 0) n (λ q l. size_back sizes n q l (h q l))))

pub bad_code : code_in (line_of bad_bytes) ≡ 0x7f
unfolding bad_bytes line_of bytes_in digits digit value_at in_bytes table
bad_code = refl
