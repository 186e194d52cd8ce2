-- What source 000 and document 01 say of the numbers and sizes that Model computes, for the laws to hold them to: the order of
-- Definition 1, when a message is outdated, which numbers of slots are fit, equation 3, common multiples and divisors.
-- There are definitions only. No contract of the code needs them.
use Rattle.std.specs.Prelude.{◌+◌, ◌-◌, ◌*◌, ◌/◌, ◌<◌, ◌≤◌, ◌⊎◌, ◌≡◌}
use Rattle.common.specs.Words.{ℕ, ◌∣◌, true, cond}
use Rattle.common.specs.Terms.{only, sum, most}
use Rattle.model.specs.Model.{Queue, Sender, receiver_period, release_of, deadline_of, precedes, count_of, number, wanted_until}

-- Definition 1: message (i, k) goes before (j, l).
abbrev pub Before : Queue → ℕ → ℕ → ℕ → ℕ → Type 0
Before q i k j l =
    (deadline_of q i k < deadline_of q j l) ⊎ ((deadline_of q i k ≡ deadline_of q j l) × (precedes q i j ≡ true))

-- Request b, in words: row i has the higher priority, or an equal one and the lower row (law `prec_iff`).
abbrev pub Ahead : Queue → ℕ → ℕ → Type 0
Ahead q i j = (q.priority j < q.priority i) ⊎ ((q.priority i ≡ q.priority j) × (i < j))

-- "The number is the count of messages of that queue strictly before, plus one": row j's messages before (i, k) are its jobs below this
-- bound (law `before_iff`), and the number is one more than the sum of the bounds (law `number_counts`).
unfoldable pub jobs_before : Queue → ℕ → ℕ → ℕ → ℕ
jobs_before q i k j =
    cond (precedes q j i) (count_of q (deadline_of q i k) j) (count_of q (deadline_of q i k - 1) j)

-- The receiver's job whose window has the deadline d: d / R rounded up.
abbrev pub job_for : Queue → ℕ → ℕ
job_for q d = (d + (receiver_period q - 1)) / receiver_period q

-- "and outdated from that tick on": a message with deadline d.
unfoldable pub outdated_at : Queue → ℕ → ℕ
outdated_at q d = wanted_until q (job_for q d)

-- "L is fit if for every n >= 1 the job sending n + L is released no earlier than the tick at which n is outdated."
-- Here n is the number of (i, k), and (j, l) has n + L.
abbrev pub Fit : Queue → ℕ → Type 0
Fit q L =
    (i k j l : ℕ) → Sender q i → Sender q j → number q j l ≡ number q i k + L →
    outdated_at q (deadline_of q i k) ≤ release_of q j l

-- Equation 3: "the sum over senders of floor((2R + greatest sender deadline) / P) + 1."
unfoldable pub reach : Queue → ℕ
reach q = 2 * receiver_period q + most (λ i. only (q.sends i) (q.deadline i)) q.rows

unfoldable pub equation3 : Queue → ℕ
equation3 q = sum (λ i. only (q.sends i) (reach q / q.period i + 1)) q.rows

-- H holds each of these periods a whole number of times.
pub record CommonMultiple (q : Queue) (H : ℕ) : Type 0 where
  pub pos : 1 ≤ H
  pub receiver : H / receiver_period q * receiver_period q ≡ H
  pub row : (i : ℕ) → Sender q i → H / q.period i * q.period i ≡ H

-- g divides a and b, and what divides both divides it.
pub record IsGcd (a b g : ℕ) : Type 0 where
  pub left : g ∣ a
  pub right : g ∣ b
  pub most : (d : ℕ) → d ∣ a → d ∣ b → d ∣ g
