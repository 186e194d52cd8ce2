-- "numbers high byte first": the number that so many bytes make, and a number in so many bytes. Both go by the number's width in bytes.
use Rattle.std.specs.Prelude.{◌+◌, ◌*◌, ◌/◌, ◌%◌, ◌∷◌, ◌++◌}
use Rattle.common.specs.Words.{ℕ, zero, suc, List, [], get_or}

-- the number of the `width` bytes from index `at` on
unfoldable pub value_at : List ℕ → ℕ → ℕ → ℕ
value_at bytes at zero = 0
value_at bytes at (suc width) = value_at bytes at width * 256 + get_or bytes (at + width) 0

unfoldable pub in_bytes : ℕ → ℕ → List ℕ
in_bytes zero n = []
in_bytes (suc width) n = in_bytes width (n / 256) ++ (n % 256 ∷ [])
