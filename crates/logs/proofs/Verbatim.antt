-- The digits of a payload in an 85 are those of the 04 that stored it, one by one.
use Rattle.std.specs.Prelude.{◌+◌, ◌-◌, ◌*◌, ◌/◌, ◌%◌, ◌<◌, ◌≤◌, ◌∷◌, ◌++◌, ◌⊎◌, ◌≡◌}
use Rattle.common.specs.Words.{ℕ, zero, suc, arith, Bool, true, false, cond, List, [], append_assoc, append-nil, inl, inr, refl, sym, ap, ◌∙◌}
use Rattle.common.specs.Words.{length, get_or, drop, ext_get_or, le-leb, lt-leb, le-ltb, lt-ltb, ltb-true}
use Rattle.common.specs.Tests.{lt_or_le, and_right}
use Rattle.common.proofs.Rows.{every_at}
use Rattle.common.specs.Table.{table_at}
use Rattle.digits.specs.Hex.{no_digit, digit, digit_at, even_line, is_line, byte_at, bytes_in, letter, digits}
use Rattle.digits.specs.HexLaws.{digits_append, digits_length, bytes_count, line_even, halves}
use Rattle.digits.specs.Numbers.{in_bytes}
use Rattle.frames.specs.Frames.{frame_of, payload_in}
use Rattle.frames.specs.Answers.{message_bytes, line_of}
use Rattle.console.specs.Framing.{framed_bytes}
use Rattle.logs.specs.Types.{Tick, Frame}
use Rattle.logs.specs.Said.{frame_in, payload_of}
use Rattle.logs.specs.Log.{Entry, Stores}
use Rattle.logs.proofs.Fields.{digits_at}

-- ## A line is the digits of its bytes

-- a digit's value is below 16, and it leads back to the digit
digit_back : (c : ℕ) → digit c < no_digit → (digit c < 16) × (letter (digit c) ≡ c)
unfolding digit
digit_back c = go (lt_or_le c 0x30) (lt_or_le 0x39 c) (lt_or_le c 0x61) (lt_or_le 0x66 c)
  where
    go : (c < 0x30) ⊎ (0x30 ≤ c) → (0x39 < c) ⊎ (c ≤ 0x39) → (c < 0x61) ⊎ (0x61 ≤ c) → (0x66 < c) ⊎ (c ≤ 0x66) →
        digit c < no_digit → (digit c < 16) × (letter (digit c) ≡ c)
    go (inl w) x y z = rw (lt-ltb c 0x30 w) (λ h. absurd (omega arith))
    go (inr w) (inr x) y z = rw (le-ltb c 0x30 w, le-leb c 0x39 x) (λ h. (omega arith, rw (lt-ltb (c - 0x30) 10 (omega arith)) (omega arith)))
    go (inr w) (inl x) (inl y) z = rw (le-ltb c 0x30 w, lt-leb c 0x39 x, lt-ltb c 0x61 y) (λ h. absurd (omega arith))
    go (inr w) (inl x) (inr y) (inl z) = rw (le-ltb c 0x30 w, lt-leb c 0x39 x, le-ltb c 0x61 y, lt-leb c 0x66 z) (λ h. absurd (omega arith))
    go (inr w) (inl x) (inr y) (inr z) =
        rw (le-ltb c 0x30 w, lt-leb c 0x39 x, le-ltb c 0x61 y, le-leb c 0x66 z)
        (λ h. (omega arith, rw (le-ltb (c - 0x61 + 10) 10 (omega arith)) (omega arith)))

module _ (line : List ℕ) (is : is_line line ≡ true) where
  digit_there : (i : ℕ) → i < length line → (digit (get_or line i 0) < 16) × (letter (digit (get_or line i 0)) ≡ get_or line i 0)
  unfolding is_line
  digit_there i h =
      digit_back (get_or line i 0) (ltb-true _ _ (every_at (digit_at line) (length line) i (and_right (even_line line) _ is) h))

  even : 2 * (length line / 2) ≡ length line
  even = halves line (line_even line is).1

  byte_there : (k : ℕ) → k < length line / 2 → get_or (bytes_in line) k 0 ≡ byte_at line k
  unfolding bytes_in
  byte_there k h = table_at (byte_at line) (length line / 2) k 0 h

  -- the two digits of byte k
  pair_there : (k : ℕ) → k < length line / 2 →
      (get_or (digits (bytes_in line)) (2 * k) 0 ≡ get_or line (2 * k) 0)
      × (get_or (digits (bytes_in line)) (2 * k + 1) 0 ≡ get_or line (2 * k + 1) 0)
  pair_there k h =
      let a = digit (get_or line (2 * k) 0) in
      let b = digit (get_or line (2 * k + 1) 0) in
      let x = digit_there (2 * k) (omega (arith, even)) in
      let y = digit_there (2 * k + 1) (omega (arith, even)) in
      let d = rw (append-nil (digits (bytes_in line))) at (digits_at (bytes_in line) k [] (omega (arith, bytes_count line))) in
      let high : (a * 16 + b) / 16 ≡ a = omega (arith, x.0, y.0) in
      let low : (a * 16 + b) % 16 ≡ b = omega (arith, x.0, y.0) in
      (d.0 ∙ rw (byte_there k h, high) x.1, d.1 ∙ rw (byte_there k h, low) y.1)

  line_digits : digits (bytes_in line) ≡ line
  line_digits =
      let long : length (digits (bytes_in line)) ≡ length line = digits_length (bytes_in line) ∙ rw (bytes_count line) even in
      ext_get_or 0 (digits (bytes_in line)) line long (λ i h. at i (omega (arith, long)))
    where
      at : (i : ℕ) → i < length line → get_or (digits (bytes_in line)) i 0 ≡ get_or line i 0
      at i h = go (i % 2) refl
        where
          half : i / 2 < length line / 2
          half = omega (arith, even)

          go : (r : ℕ) → i % 2 ≡ r → get_or (digits (bytes_in line)) i 0 ≡ get_or line i 0
          go zero e = let w : 2 * (i / 2) ≡ i = omega arith in rw w at (pair_there (i / 2) half).0
          go (suc r) e = let w : 2 * (i / 2) + 1 ≡ i = omega arith in rw w at (pair_there (i / 2) half).1

-- ## The payload of a 04

digits_drop : (n : ℕ) (bs : List ℕ) → digits (drop n bs) ≡ drop (2 * n) (digits bs)
unfolding digits
digits_drop zero bs = refl
digits_drop (suc n) [] = let e : 2 * suc n ≡ suc (suc (2 * n)) = omega arith in rw e
digits_drop (suc n) (b ∷ bs) = let e : 2 * suc n ≡ suc (suc (2 * n)) = omega arith in rw e (digits_drop n bs)

-- a line that is a frame holds bytes
frame_line : (line : List ℕ) (q i : ℕ) (t : Tick) → frame_in line ≡ Frame.Send q i t →
    (is_line line ≡ true) × (framed_bytes line ≡ bytes_in line)
unfolding framed_bytes frame_of
frame_line line q i t e = go (is_line line) refl e
  where
    go : (b : Bool) → is_line line ≡ b → frame_of (cond b (bytes_in line) []) ≡ Frame.Send q i t →
        (is_line line ≡ true) × (cond (is_line line) (bytes_in line) [] ≡ bytes_in line)
    go true is h = (is, rw is)
    go false is h = absurd (let z : ◌≡◌ {A = ℕ} 0 1 = cc in omega arith)

payload_digits : (line : List ℕ) (q i : ℕ) (t : Tick) → frame_in line ≡ Frame.Send q i t → digits (payload_of line) ≡ drop 16 line
unfolding payload_in
payload_digits line q i t e =
    let h = frame_line line q i t e in
    rw h.1 (digits_drop 8 (bytes_in line) ∙ ap (drop 16) (line_digits line h.0))

-- 85, the number, and then the digits that stood in the 04 behind its tick
pub message_verbatim : (q n : ℕ) (payload : List ℕ) (e : Entry) → Stores q n payload e →
    line_of (message_bytes n payload) ≡ digits (in_bytes 1 0x85 ++ in_bytes 6 n) ++ (drop 16 e.line ++ (0x0a ∷ []))
unfolding line_of message_bytes
message_verbatim q n payload e s =
    let same : digits payload ≡ drop 16 e.line = ap digits (sym s.carried) ∙ payload_digits e.line q s.task s.tick s.asked in
    rw (
      ← append_assoc (in_bytes 1 0x85) (in_bytes 6 n) payload,
      digits_append (in_bytes 1 0x85 ++ in_bytes 6 n) payload,
      same,
      append_assoc (digits (in_bytes 1 0x85 ++ in_bytes 6 n)) (drop 16 e.line) (0x0a ∷ []),
    )
