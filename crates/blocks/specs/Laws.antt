-- A stream that is closed meets what is known after a read that gave nothing, and after a write that failed; and what is known after
-- several writes. Leans on Stream.antt.
use Rattle.std.specs.Prelude.{ℕ, ◌≡◌, ◌≤◌, refl, Option, None}
use Rattle.std.proofs.Common.{true≢false, sym, ◌∙◌, arith}
use Rattle.blocks.specs.declared.Stream.{Stream}
use Rattle.blocks.specs.Stream.{Came, Gone, closed, blocks_left}

pub closed_came : (s : Stream) (room : ℕ) {bytes : Option ℕ} {r : Stream} → bytes ≡ None → r ≡ closed s → Came s room bytes r
closed_came s room e f = rw e f

pub closed_gone : (s : Stream) {r : Stream} → r ≡ closed s → Gone s r
closed_gone s e = rw e (record { same_left = refl; was_open = λ h. absurd (true≢false (sym h)) })

-- no write, and a write behind others
pub gone_none : (s : Stream) → Gone s s
gone_none s = record { same_left = refl; was_open = λ h. h }

pub gone_on : {s r t : Stream} → Gone s r → Gone r t → Gone s t
gone_on g h = record { same_left = h.same_left ∙ g.same_left; was_open = λ o. g.was_open (h.was_open o) }

-- no write adds a block
pub gone_left : (s r : Stream) → Gone s r → blocks_left r ≤ blocks_left s
gone_left s r g = omega (arith, g.same_left)
