-- One task's count up to a tick, from its count up to a tick before: the deadlines that follow are those of a task whose first one comes
-- so many ticks after that tick.
use Rattle.std.specs.Prelude.{◌+◌, ◌-◌, ◌*◌, ◌/◌, ◌<◌, ◌≤◌, ◌≡◌}
use Rattle.common.specs.Words.{ℕ, min, arith, ⊎_elim, ap, div-eq_of_lt-le}
use Rattle.common.specs.Tests.{lt_or_le}
use Rattle.common.specs.Totals.{eq_by}
use Rattle.model.specs.Model.{count}
use Rattle.model.proofs.Count.{count_iff, count_before, count_from}

module _ (P D : ℕ) (pos : 1 ≤ P) where
  pub count_on : (t next x : ℕ) → t + next ≡ count P D t * P + D → count P D (t + x) ≡ count P D t + count P next x
  count_on t next x e =
      eq_by _ _
      (λ k l.
      let late : k * P + D ≤ t + x = (count_iff P D k (t + x) pos).0 l in
      ⊎_elim (λ (s : k < count P D t). omega arith)
      (λ (s : count P D t ≤ k).
      let g : (k - count P D t) + count P D t ≡ k = omega arith in
      let h : (k - count P D t) * P + next ≤ x = omega (arith, e, ap (λ (n : ℕ). n * P) g) in
      omega (arith, (count_iff P next (k - count P D t) x pos).1 h))
      (lt_or_le k (count P D t)))
      (λ k l.
      (count_iff P D k (t + x) pos).1
      (⊎_elim (λ (s : k < count P D t). omega (arith, (count_iff P D k t pos).0 s))
      (λ (s : count P D t ≤ k).
      let g : (k - count P D t) + count P D t ≡ k = omega arith in
      omega (arith, e, ap (λ (n : ℕ). n * P) g, (count_iff P next (k - count P D t) x pos).0 (omega arith)))
      (lt_or_le k (count P D t))))

-- up to two periods after the tick before the first deadline there are at most two
pub count_two : (P next x : ℕ) → 1 ≤ next → x + 1 - next - P ≤ P →
    count P next x ≡ min (x + 1 - next) 1 + min (x + 1 - next - P) 1
count_two P next x n h =
    ⊎_elim (λ (l : x < next). omega (arith, count_before P next x l))
    (λ (g : next ≤ x).
    ⊎_elim
    (λ (l : x - next < P). let z : (x - next) / P ≡ 0 = div-eq_of_lt-le P (omega arith) (omega arith) in omega (arith, count_from P next x g, z))
    (λ (m : P ≤ x - next). let z : (x - next) / P ≡ 1 = div-eq_of_lt-le P (omega arith) (omega arith) in omega (arith, count_from P next x g, z))
    (lt_or_le (x - next) P))
    (lt_or_le x next)
