-- The lines that the console answers with: each answer's bytes, as lower-case digits with a line feed behind them.
use Rattle.std.specs.Prelude.{◌∷◌, ◌++◌}
use Rattle.common.specs.Words.{ℕ, zero, suc, List, [], get_or}
use Rattle.plan.specs.Refusals.{number_of}
use Rattle.plan.specs.declared.refusal.Refusal.{Refusal}
use Rattle.digits.specs.Hex.{digits}
use Rattle.digits.specs.Numbers.{in_bytes}

-- "81 and each size (2)", of the first n queues
unfoldable pub each_size : List ℕ → ℕ → List ℕ
each_size sizes zero = []
each_size sizes (suc n) = each_size sizes n ++ in_bytes 2 (get_or sizes n 0)

unfoldable pub sizes_bytes : List ℕ → ℕ → List ℕ
sizes_bytes sizes n = in_bytes 1 0x81 ++ each_size sizes n

-- "84, number (6), slot (2, within its queue)"
unfoldable pub stored_bytes : ℕ → ℕ → List ℕ
stored_bytes number slot = in_bytes 1 0x84 ++ (in_bytes 6 number ++ in_bytes 2 slot)

-- "85, number (6), payload"
unfoldable pub message_bytes : ℕ → List ℕ → List ℕ
message_bytes number payload = in_bytes 1 0x85 ++ (in_bytes 6 number ++ payload)

-- "86, number (6), sender (1)"
unfoldable pub gap_bytes : ℕ → ℕ → List ℕ
gap_bytes number sender = in_bytes 1 0x86 ++ (in_bytes 6 number ++ in_bytes 1 sender)

-- "87 empty"
unfoldable pub empty_bytes : List ℕ
empty_bytes = in_bytes 1 0x87

-- "7f, refusal (1), row (1)"
unfoldable pub refusal_bytes : Refusal → List ℕ
refusal_bytes r = in_bytes 1 0x7f ++ (in_bytes 1 (number_of r.rule) ++ in_bytes 1 r.row)

-- "is answered 7ff000"
unfoldable pub bad_bytes : List ℕ
bad_bytes = in_bytes 3 0x7ff000

-- an answer's line, with its line feed
unfoldable pub line_of : List ℕ → List ℕ
line_of bytes = digits bytes ++ (0x0a ∷ [])

-- no answer of the console is longer, with its line feed
abbrev pub longest_answer : ℕ
longest_answer = 64
