-- What the calendar's functions answer: ticks, jobs, numbers and slots, passed on from Units, and a multiple up to a limit.
use Rattle.std.specs.Prelude.{◌<◌, ◌≤◌, ◌≡◌, Option, Some, None}
use Rattle.common.specs.Words.{ℕ, arith, Bool, true, false, cond, refl, leb, leb-true, leb-false}
pub use Rattle.calendar.specs.Units.{tick, job, message, slot}

-- n where it is within the limit, and none exactly where it is over
abbrev pub capped : ℕ → ℕ → Option ℕ
capped limit n = cond (leb n limit) (Some n) None

-- what an answer up to the limit says of the multiple
pub capped_within : (limit n m : ℕ) → capped limit n ≡ Some m → (m ≡ n) × (n ≤ limit)
capped_within limit n m h = go (leb n limit) refl h
  where
    go : (b : Bool) → leb n limit ≡ b → cond b (Some n) None ≡ Some m → (m ≡ n) × (n ≤ limit)
    go true e h = (cc, leb-true n limit e)
    go false e h = absurd (let z : ◌≡◌ {A = ℕ} 0 1 = cc in omega arith)

pub capped_over : (limit n : ℕ) → capped limit n ≡ None → limit < n
capped_over limit n h = go (leb n limit) refl h
  where
    go : (b : Bool) → leb n limit ≡ b → cond b (Some n) None ≡ None → limit < n
    go true e h = absurd (let z : ◌≡◌ {A = ℕ} 0 1 = cc in omega arith)
    go false e h = leb-false n limit e
