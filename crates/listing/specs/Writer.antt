-- Writing behind what was written: what one call leaves in the lent memory, and how one call's bytes join the next one's.
use Rattle.std.specs.Prelude.{◌+◌, ◌∷◌, ◌++◌, ◌≡◌}
use Rattle.common.specs.Words.{ℕ, arith, List, [], length, length-append, sets, refl, ◌∙◌}
use Rattle.common.specs.Stores.{sets_append}
use Rattle.digits.specs.Hex.{digits}
use Rattle.digits.specs.HexLaws.{digits_append}
use Rattle.frames.specs.Answers.{line_of}
use Rattle.listing.specs.declared.writer.Writer.{Writer}

-- the memory is the one that was lent before, and the bytes stand there behind what was written
pub record Put (s : Writer) (bytes : List ℕ) (r : Writer) : Type 0 where
  pub same_memory : r.out.ghost_name ≡ s.out.ghost_name
  pub same_room : length r.out.now ≡ length s.out.now
  pub put : r.out.now ≡ sets s.out.now s.at bytes
  pub behind : r.at ≡ s.at + length bytes

pub put_none : (s : Writer) → Put s [] s
put_none s = record { same_memory = refl; same_room = refl; put = refl; behind = omega arith }

-- bytes behind bytes
pub put_more : {s r t : Writer} {a b : List ℕ} → Put s a r → Put r b t → Put s (a ++ b) t
put_more {s} {r} {t} {a} {b} p q = record {
  same_memory = q.same_memory ∙ p.same_memory;
  same_room = q.same_room ∙ p.same_room;
  put = q.put ∙ rw (p.put, p.behind, sets_append a b s.out.now s.at);
  behind = omega (arith, p.behind, q.behind, length-append a b);
}

-- digits behind digits are the digits of all the bytes
pub put_digits : (a b : List ℕ) {s r t : Writer} → Put s (digits a) r → Put r (digits b) t → Put s (digits (a ++ b)) t
put_digits a b p q = rw (digits_append a b) (put_more p q)

-- the line feed ends the line
pub put_line : (bytes : List ℕ) {s r t : Writer} → Put s (digits bytes) r → Put r (10 ∷ []) t → Put s (line_of bytes) t
unfolding line_of
put_line bytes p q = put_more p q
