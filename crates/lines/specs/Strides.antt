-- How far whole strides without a line feed are passed over: the laws of a loop that does it, and that the line still ends where it did.
use Rattle.std.specs.Prelude.{◌+◌, ◌*◌, ◌<◌, ◌≤◌, ◌&&◌, ◌≡◌}
use Rattle.common.specs.Words.{ℕ, zero, suc, arith, Bool, true, false, not, List, ◌∙◌, leb, length, ⊎_elim, le-leb, leb-true, not-true}
use Rattle.common.specs.Tests.{lt_or_le, and_left, and_right}
use Rattle.common.proofs.Rows.{first_bad, first_bad_none, first_bad_more, first_bad_found, first_bad_is}
use Rattle.lines.specs.Ends.{stride, feed_in, end_of, end_passes}

-- at a place stands a whole stride without a line feed
abbrev pub free : List ℕ → ℕ → Bool
free piece i = leb (i + stride) (length piece) && not (feed_in piece i stride)

abbrev pub free_from : List ℕ → ℕ → ℕ → Bool
free_from piece from k = free piece (from + k * stride)

-- the first place, in strides from a place on, where none stands
unfoldable pub skip_of : List ℕ → ℕ → ℕ
skip_of piece from = from + first_bad (free_from piece from) (length piece) * stride

-- so many strides are passed over up to i
pub record Passed (piece : List ℕ) (from i : ℕ) : Type 0 where
  pub strides : ℕ
  pub is : i ≡ from + strides * stride
  pub within : strides ≤ length piece
  pub all_free : first_bad (free_from piece from) strides ≡ strides

module _ (p : List ℕ) (from : ℕ) where
  pub passed_none : Passed p from from
  passed_none = record { strides = 0; is = omega arith; within = omega arith; all_free = first_bad_none (free_from p from) }

  pub passed_more : {i : ℕ} → Passed p from i → i + stride ≤ length p → feed_in p i stride ≡ false → Passed p from (i + stride)
  passed_more {i} d l f =
      let e : free_from p from d.strides ≡ true = rw (← d.is, le-leb _ _ l, f) in
      record {
        strides = d.strides + 1;
        is = omega (arith, d.is);
        within = omega (arith, d.is);
        all_free = first_bad_more (free_from p from) d.strides d.all_free e;
      }

  -- the loop stops where no free stride stands
  pub passed_all : {i : ℕ} → Passed p from i → free p i ≡ false → i ≡ skip_of p from
  unfolding skip_of
  passed_all {i} d h =
      let e : free_from p from d.strides ≡ false = rw (← d.is) h in
      ⊎_elim (λ (l : d.strides < length p). rw (first_bad_found (free_from p from) d.strides (length p) l d.all_free e) d.is)
      (λ (g : length p ≤ d.strides).
      let n : d.strides ≡ length p = omega (arith, d.within) in
      rw (← n, d.all_free) d.is)
      (lt_or_le d.strides (length p))

  passes : (k : ℕ) → ((j : ℕ) → j < k → free_from p from j ≡ true) → end_of p (from + k * stride) ≡ end_of p from
  passes zero h = let z : from + 0 * stride ≡ from = omega arith in rw z
  passes (suc k) h =
      let f = h k (omega arith) in
      let z : from + suc k * stride ≡ from + k * stride + stride = omega arith in
      rw z
      (end_passes p (from + k * stride) stride (leb-true _ _ (and_left _ _ f))
      (not-true _ (and_right (leb (from + k * stride + stride) (length p)) _ f))
      ∙ passes k (λ j l. h j (omega arith)))

  -- what is passed over lies in the block
  pub skip_within : from ≤ length p → skip_of p from ≤ length p
  unfolding skip_of
  skip_within h = go (first_bad (free_from p from) (length p)) (first_bad_is (free_from p from) (length p)).before
    where
      go : (n : ℕ) → ((i : ℕ) → i < n → free_from p from i ≡ true) → from + n * stride ≤ length p
      go zero f = omega arith
      go (suc k) f = omega (arith, leb-true (from + k * stride + stride) (length p) (and_left _ _ (f k (omega arith))))

  -- the line ends where it did
  pub skip_ends : end_of p (skip_of p from) ≡ end_of p from
  unfolding skip_of
  skip_ends =
      let f = first_bad_is (free_from p from) (length p) in
      passes (first_bad (free_from p from) (length p)) f.before
