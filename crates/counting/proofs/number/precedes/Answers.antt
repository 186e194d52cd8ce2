-- `number::precedes`: the model's rule for equal deadlines, by its two laws.
use Rattle.std.specs.Prelude.{◌+◌, ◌<◌, ◌≤◌, ◌≡◌}
use Rattle.std.specs.Int.{from_bool}
use Rattle.common.specs.Words.{ℕ, ℕ_discrete, arith, Bool, true, false, ⊎_elim, sym, ◌∙◌, ltb, lt-ltb, le-ltb}
use Rattle.common.specs.Tests.{lt_or_le}
use Rattle.model.specs.Model.{Queue, precedes}
use Rattle.model.proofs.Ties.{prec_equal, prec_higher}
use Rattle.counting.proofs.number.precedes.Goals as goal

-- one more decides between equal numbers,
equal : (a b : ℕ) (first : Bool) → a ≡ b → ltb b (a + from_bool first) ≡ first
equal a b true e = lt-ltb b (a + 1) (omega (arith, e))
equal a b false e = le-ltb b (a + 0) (omega (arith, e))

-- and between no others
apart : (a b : ℕ) (first : Bool) → (a ≡ b → ⊥) → ltb b (a + from_bool first) ≡ ltb b a
apart a b first d =
    ⊎_elim (λ (l : b < a). lt-ltb b (a + from_bool first) (omega arith) ∙ sym (lt-ltb b a l))
    (λ (l : a ≤ b). le-ltb b (a + from_bool first) (beyond first l) ∙ sym (le-ltb b a l))
    (lt_or_le b a)
  where
    beyond : (first : Bool) → a ≤ b → a + from_bool first ≤ b
    beyond true l = omega (arith, d)
    beyond false l = omega (arith, d)

by_lead : (q : Queue) (i j : ℕ) → ltb (q.priority j) (q.priority i + from_bool (ltb i j)) ≡ precedes q i j
by_lead q i j =
    elim (ℕ_discrete (q.priority i) (q.priority j)) [
      | yes e ↦ equal (q.priority i) (q.priority j) (ltb i j) e ∙ sym (prec_equal q i j e)
      | no d ↦ apart (q.priority i) (q.priority j) (ltb i j) d ∙ sym (prec_higher q i j d)
    ]

pub returns : goal.returns
returns c q own other = rw (c.from.ensures, c.from-2.ensures, c.from-3.ensures, ← own, ← other) (by_lead q _ _)
