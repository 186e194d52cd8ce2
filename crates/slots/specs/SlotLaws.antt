-- What is read from a memory after a message was stored in it, or after its slots were cleared: laws of `stored` and `cleared`, over the
-- payload's width w. They lean on the laws of a run of stores (common's Stores).
use Rattle.std.specs.Prelude.{◌≡◌, ◌⊎◌, ◌∷◌, ◌++◌, ◌+◌, ◌*◌, ◌/◌, ◌%◌, ◌≤◌, ◌<◌, ◌^◌}
use Rattle.common.specs.Words.{refl, sym, ◌∙◌, inl, inr, ⊎_elim, List, [], ℕ, add-zero, div-add-mod', div-div-eq-div-mul, mul-le-mul_right}
use Rattle.common.specs.Words.{arith, lit<, length, get_or, drop, replicate, length-append, length-drop, length-replicate, get_or-replicate}
use Rattle.common.specs.Words.{get_or-append, append_assoc, take, drop-drop, sets, sets-eq, length-sets, drop_at, drop-set-lt}
use borrow.Rule.Slice.PartMut.{put_mid}
use Rattle.common.specs.Tests.{lt_or_le}
use Rattle.common.specs.Stores.{sets_in, sets_before, sets_after, sets_append, part_same, part_other}
use Rattle.slots.specs.Slots.{bytes_of, joined, number_from, slot_at, number_in, payload_in, stored, cleared}

-- the code copies a run of bytes into a part of the memory
pub put_sets : (l vs : List ℕ) (i : ℕ) → i + length vs ≤ length l → put_mid i (length vs) l vs ≡ sets l i vs
put_sets l vs i h = rw (sets-eq vs l i h, append_assoc (take i l) vs (drop (i + length vs) l), drop-drop (length vs) i l)

-- ## A number in 8 bytes

pub bytes_length : (n : ℕ) → length (bytes_of n) ≡ 8
unfolding bytes_of
bytes_length n = refl

-- of eight bytes that a run stored, the number there is what they make
from_run :
    (vs m : List ℕ) (at : ℕ) → 8 ≤ length vs → at + 8 ≤ length m →
    number_from (sets m at vs) at
    ≡ joined (get_or vs 0 0) (get_or vs 1 0) (get_or vs 2 0) (get_or vs 3 0) * 0x1_0000_0000
    + joined (get_or vs 4 0) (get_or vs 5 0) (get_or vs 6 0) (get_or vs 7 0)
unfolding number_from
from_run vs m at h g =
    let b0 : get_or (sets m at vs) at 0 ≡ get_or vs 0 0 = rw (add-zero at) at (sets_in vs m at 0 0 (omega arith) (omega arith)) in
    cc (
      b0,
      sets_in vs m at 1 0 (omega arith) (omega arith),
      sets_in vs m at 2 0 (omega arith) (omega arith),
      sets_in vs m at 3 0 (omega arith) (omega arith),
      sets_in vs m at 4 0 (omega arith) (omega arith),
      sets_in vs m at 5 0 (omega arith) (omega arith),
      sets_in vs m at 6 0 (omega arith) (omega arith),
      sets_in vs m at 7 0 (omega arith) (omega arith),
    )

-- each quotient is the next one and a digit
digit : (n k : ℕ) → n / k ≡ n / (k * 256) * 256 + n / k % 256
digit n k = rw (← div-div-eq-div-mul n k 256) (sym (div-add-mod' (n / k) 256))

-- digits of base 256 make the number again: over variables, so that `omega` sees no quotient
digits :
    (n a b c d e f g r0 r1 r2 r3 r4 r5 r6 : ℕ) →
    n ≡ a * 256 + r0 → a ≡ b * 256 + r1 → b ≡ c * 256 + r2 → c ≡ d * 256 + r3 → d ≡ e * 256 + r4 → e ≡ f * 256 + r5 →
    f ≡ g * 256 + r6 →
    joined g r6 r5 r4 * 0x1_0000_0000 + joined r3 r2 r1 r0 ≡ n
digits n a b c d e f g r0 r1 r2 r3 r4 r5 r6 p0 p1 p2 p3 p4 p5 p6 = omega arith

top : (n : ℕ) → n < 2 ^ 64 → n / 0x100_0000_0000_0000 % 256 ≡ n / 0x100_0000_0000_0000
top n h = omega arith

back :
    (n : ℕ) → n < 2 ^ 64 →
    joined (n / 0x100_0000_0000_0000 % 256) (n / 0x1_0000_0000_0000 % 256) (n / 0x100_0000_0000 % 256) (n / 0x1_0000_0000 % 256) * 0x1_0000_0000
    + joined (n / 0x100_0000 % 256) (n / 0x1_0000 % 256) (n / 0x100 % 256) (n % 256) ≡ n
back n h =
    rw (top n h)
    (digits n _ _ _ _ _ _ _ _ _ _ _ _ _ _ (sym (div-add-mod' n 256)) (digit n 0x100) (digit n 0x1_0000)
    (digit n 0x100_0000) (digit n 0x1_0000_0000) (digit n 0x100_0000_0000) (digit n 0x1_0000_0000_0000))

-- two memories with the same eight bytes have the same number there
from_same : (l m : List ℕ) (b : ℕ) → ((k : ℕ) → k < 8 → get_or l (b + k) 0 ≡ get_or m (b + k) 0) → number_from l b ≡ number_from m b
unfolding number_from
from_same l m b e =
    let e0 : get_or l b 0 ≡ get_or m b 0 = simp add-zero at (e 0 (lit< tt)) in
    cc (e0, e 1 (lit< tt), e 2 (lit< tt), e 3 (lit< tt), e 4 (lit< tt), e 5 (lit< tt), e 6 (lit< tt), e 7 (lit< tt))

-- eight zero bytes are the number 0
from_zeros : (l : List ℕ) (b : ℕ) → ((k : ℕ) → k < 8 → get_or l (b + k) 0 ≡ 0) → number_from l b ≡ 0
unfolding number_from
from_zeros l b e =
    let e0 : get_or l b 0 ≡ 0 = simp add-zero at (e 0 (lit< tt)) in
    rw (e0, e 1 (lit< tt), e 2 (lit< tt), e 3 (lit< tt), e 4 (lit< tt), e 5 (lit< tt), e 6 (lit< tt), e 7 (lit< tt))

-- an index that the run does not meet
unchanged :
    (vs m : List ℕ) (at b k : ℕ) → k < 8 → (b + 8 ≤ at) ⊎ (at + length vs ≤ b) →
    get_or (sets m at vs) (b + k) 0 ≡ get_or m (b + k) 0
unchanged vs m at b k h apart =
    ⊎_elim (λ (l : b + 8 ≤ at). sets_before vs m at (b + k) 0 (omega arith))
    (λ (l : at + length vs ≤ b). sets_after vs m at (b + k) 0 (omega arith)) apart

-- what lies behind a run is as it was
drop_sets : (vs m : List ℕ) (at n : ℕ) → at + length vs ≤ n → drop n (sets m at vs) ≡ drop n m
drop_sets [] m at n h = refl
drop_sets (v ∷ vs) m at n h = drop_sets vs _ _ n (omega arith) ∙ drop-set-lt n m at v (omega arith)

-- ## Slots

-- a slot ends where the next one begins, or before
pub slots_apart : (w s t : ℕ) → s < t → slot_at w s + (8 + w) ≤ slot_at w t
slots_apart w s t h = omega (arith, mul-le-mul_right (8 + w) h)

-- of two slots one ends before the other begins
either_side : (w s t : ℕ) → (t ≡ s → ⊥) → (slot_at w t + (8 + w) ≤ slot_at w s) ⊎ (slot_at w s + (8 + w) ≤ slot_at w t)
either_side w s t ne =
    ⊎_elim (λ (l : t < s). inl (slots_apart w t s l))
    (λ (g : s ≤ t). ⊎_elim (λ (l : s < t). inr (slots_apart w s t l)) (λ (l : t ≤ s). absurd (ne (omega arith))) (lt_or_le s t))
    (lt_or_le t s)

module _ (w : ℕ) (m p : List ℕ) (s n : ℕ) (whole : length p ≡ w) where
  run : length (bytes_of n ++ p) ≡ 8 + w
  run = omega (arith, length-append (bytes_of n) p, bytes_length n)

  -- the number of another slot is as it was
  pub number_other : (t : ℕ) → (t ≡ s → ⊥) → number_in w (stored w m s n p) t ≡ number_in w m t
  unfolding stored
  number_other t ne =
      let a : (slot_at w t + 8 ≤ slot_at w s) ⊎ (slot_at w s + length (bytes_of n ++ p) ≤ slot_at w t) =
      ⊎_elim (λ l. inl (omega arith)) (λ l. inr (omega (arith, run))) (either_side w s t ne) in
      from_same _ _ (slot_at w t) (λ k h. unchanged (bytes_of n ++ p) m (slot_at w s) (slot_at w t) k h a)

  -- and so is its payload
  pub payload_other : (t : ℕ) → (t ≡ s → ⊥) → payload_in w (stored w m s n p) t ≡ payload_in w m t
  unfolding stored
  payload_other t ne =
      let a : (slot_at w t + 8 + w ≤ slot_at w s) ⊎ (slot_at w s + length (bytes_of n ++ p) ≤ slot_at w t + 8) =
      ⊎_elim (λ l. inl (omega arith)) (λ l. inr (omega (arith, run))) (either_side w s t ne) in
      part_other (bytes_of n ++ p) m (slot_at w s) (slot_at w t + 8) w a

  pub length_stored : length (stored w m s n p) ≡ length m
  unfolding stored
  length_stored = length-sets m (slot_at w s) (bytes_of n ++ p)

  -- bytes behind the last slot stay
  pub behind_stored : (k : ℕ) → s < k → drop (slot_at w k) (stored w m s n p) ≡ drop (slot_at w k) m
  unfolding stored
  behind_stored k h = drop_sets (bytes_of n ++ p) m (slot_at w s) (slot_at w k) (omega (arith, run, slots_apart w s k h))

  module _ (inside : slot_at w s + (8 + w) ≤ length m) where
    -- the number that was stored is read again
    pub number_same : n < 2 ^ 64 → number_in w (stored w m s n p) s ≡ n
    unfolding stored bytes_of
    number_same h = from_run (bytes_of n ++ p) m (slot_at w s) (omega (arith, run)) (omega arith) ∙ back n h

    -- and so is the payload
    pub payload_same : payload_in w (stored w m s n p) s ≡ p
    unfolding stored
    payload_same =
        let d = sets m (slot_at w s) (bytes_of n) in
        let l : length d ≡ length m = length-sets m (slot_at w s) (bytes_of n) in
        simp (sets_append (bytes_of n) p m (slot_at w s), bytes_length n)
        (rw whole at (part_same p d (slot_at w s + 8) (omega arith)))

module _ (w : ℕ) (m : List ℕ) (k : ℕ) where
  pub length_cleared : slot_at w k ≤ length m → length (cleared w m k) ≡ length m
  unfolding cleared
  length_cleared h = simp (length-append, length-replicate, length-drop) (omega arith)

  -- "number 0 means never written"
  pub number_cleared : (s : ℕ) → s < k → number_in w (cleared w m k) s ≡ 0
  unfolding cleared
  number_cleared s h =
      from_zeros _ (slot_at w s)
      (λ i b.
      let l : slot_at w s + i < slot_at w k = omega (arith, slots_apart w s k h) in
      get_or-append (replicate (slot_at w k) 0) (drop (slot_at w k) m) 0 (slot_at w s + i) (rw (length-replicate {A = ℕ} (slot_at w k) 0) l)
      ∙ get_or-replicate (slot_at w k) (slot_at w s + i) 0 0 l)

  pub behind_cleared : drop (slot_at w k) (cleared w m k) ≡ drop (slot_at w k) m
  unfolding cleared
  behind_cleared = drop_at (replicate (slot_at w k) 0) (drop (slot_at w k) m) (slot_at w k) (length-replicate (slot_at w k) 0)
