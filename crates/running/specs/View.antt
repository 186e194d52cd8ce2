-- The view of a receive answer: which bytes, and where they lie.
use Rattle.std.specs.Prelude.{◌&&◌, ◌+◌}
use Rattle.common.specs.Words.{cond, Bool, List, [], ℕ, leb, eqb, length}
use Rattle.std.specs.Borrow.{Bor}
use Rattle.plan.specs.Limits.{payload_bytes, slot_bytes}
use Rattle.slots.specs.Slots.{slot_at, payload_in}
use Rattle.running.specs.Types.{Received}

-- the slot lies inside the memory
abbrev pub slot_inside : List ℕ → ℕ → Bool
slot_inside m s = leb (slot_at payload_bytes s + slot_bytes) (length m)

abbrev pub filler_fits : List ℕ → Bool
filler_fits f = eqb (length f) payload_bytes

-- "the slot's own bytes or the filler's own bytes .. For empty and refused answers, a message whose slot doesn't lie inside the memory,
-- or a filler not of 24 bytes, it gives the empty part at the filler's start."
unfoldable pub view_of : Received → List ℕ → List ℕ → List ℕ
view_of (Received.Message n s) m f = cond (filler_fits f && slot_inside m s.0) (payload_in payload_bytes m s.0) []
view_of (Received.Gap n row) m f = cond (filler_fits f) f []
view_of Received.Empty m f = []
view_of (Received.Refused r) m f = []

-- a place: the block of memory, and how far into it
abbrev pub place_behind : Bor (List ℕ) → ℕ → ℕ × ℕ
place_behind r k = (r.ref_ptr.0, k + r.ref_ptr.1)

unfoldable pub place_of : Received → Bor (List ℕ) → Bor (List ℕ) → ℕ × ℕ
place_of (Received.Message n s) m f =
    cond (filler_fits f.now && slot_inside m.now s.0) (place_behind m (slot_at payload_bytes s.0 + 8)) f.ref_ptr
place_of (Received.Gap n row) m f = f.ref_ptr
place_of Received.Empty m f = f.ref_ptr
place_of (Received.Refused r) m f = f.ref_ptr
