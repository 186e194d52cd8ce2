-- Slots in lent memory, over the payload's width w: "A slot is the message number as 8 bytes, high byte first, then the payload;
-- number 0 means never written."
use Rattle.std.specs.Prelude.{◌∷◌, ◌++◌, ◌+◌, ◌*◌, ◌/◌, ◌%◌}
use Rattle.common.specs.Words.{List, [], ℕ, get_or, drop, replicate, sets}
use Rattle.common.specs.Terms.{part}

-- "Message n lies in slot n mod L", within its queue of L slots
abbrev pub slot_of : ℕ → ℕ → ℕ
slot_of size n = n % size

-- and from the start of memory, where the queue's own slots begin at its place
abbrev pub slot_from : ℕ → ℕ → ℕ → ℕ
slot_from place size n = place + slot_of size n

-- a number as 8 bytes
unfoldable pub bytes_of : ℕ → List ℕ
bytes_of n =
    n / 0x100_0000_0000_0000 % 256 ∷ n / 0x1_0000_0000_0000 % 256 ∷ n / 0x100_0000_0000 % 256 ∷ n / 0x1_0000_0000 % 256
    ∷ n / 0x100_0000 % 256 ∷ n / 0x1_0000 % 256 ∷ n / 0x100 % 256 ∷ n % 256 ∷ []

-- the number that four bytes make, and the number whose 8 bytes stand at an index
abbrev pub joined : ℕ → ℕ → ℕ → ℕ → ℕ
joined a b c d = a * 0x100_0000 + b * 0x1_0000 + c * 0x100 + d

unfoldable pub number_from : List ℕ → ℕ → ℕ
number_from m at =
    joined (get_or m at 0) (get_or m (at + 1) 0) (get_or m (at + 2) 0) (get_or m (at + 3) 0) * 0x1_0000_0000
    + joined (get_or m (at + 4) 0) (get_or m (at + 5) 0) (get_or m (at + 6) 0) (get_or m (at + 7) 0)

-- where slot s begins
abbrev pub slot_at : ℕ → ℕ → ℕ
slot_at w s = s * (8 + w)

abbrev pub number_in : ℕ → List ℕ → ℕ → ℕ
number_in w m s = number_from m (slot_at w s)

abbrev pub payload_in : ℕ → List ℕ → ℕ → List ℕ
payload_in w m s = part m (slot_at w s + 8) w

-- the memory with a message in slot s
unfoldable pub stored : ℕ → List ℕ → ℕ → ℕ → List ℕ → List ℕ
stored w m s n payload = sets m (slot_at w s) (bytes_of n ++ payload)

-- the memory with its first k slots cleared "to zero bytes"
unfoldable pub cleared : ℕ → List ℕ → ℕ → List ℕ
cleared w m k = replicate (slot_at w k) 0 ++ drop (slot_at w k) m
