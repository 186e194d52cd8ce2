-- `calendar::count`: before the first deadline the quotient is 0, and from there on it is one more than that of the definition.
use Rattle.std.specs.Prelude.{◌+◌, ◌-◌, ◌*◌, ◌/◌, ◌<◌, ◌≤◌, ◌≡◌}
use Rattle.common.specs.Words.{ℕ, add-mul-div_right, div-eq_of_lt-le, arith, ⊎_elim, sym, ◌∙◌}
use Rattle.common.specs.Tests.{lt_or_le}
use Rattle.model.specs.Model.{count}
use Rattle.model.proofs.Count.{count_before, count_from}
use Rattle.calendar.proofs.count.Goals as goal

quotient : (P D t : ℕ) → 1 ≤ P → D ≤ P → (t + (P - D)) / P ≡ count P D t
quotient P D t pos fits =
    ⊎_elim (λ (l : t < D). div-eq_of_lt-le P (omega arith) (omega arith) ∙ sym (count_before P D t l))
    (λ (g : D ≤ t).
    let e : t + (P - D) ≡ t - D + 1 * P = omega arith in
    rw e (add-mul-div_right (t - D) 1 pos) ∙ sym (count_from P D t g))
    (lt_or_le t D)

pub returns : goal.returns
returns c = let s = c in quotient s.args.period s.args.deadline s.args.at.0 s.requires.0 s.requires.1
