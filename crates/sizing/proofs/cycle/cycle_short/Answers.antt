-- `sizing::cycle::cycle_short`: the hyperperiod was found within the limit, or over it.
use Rattle.std.specs.Prelude.{◌≡◌, Some, None, is_some}
use Rattle.common.specs.Words.{ℕ, Bool, true, false, cond, refl, leb, ◌∙◌}
use Rattle.calendar.specs.Calendar.{capped}
use Rattle.sizing.proofs.cycle.cycle_short.Goals as goal

is_within : (limit n : ℕ) → is_some (capped limit n) ≡ leb n limit
is_within limit n = go (leb n limit)
  where
    go : (b : Bool) → is_some (cond b (Some n) None) ≡ b
    go true = refl
    go false = refl

pub returns : goal.returns
returns c = c.is_some.ensures ∙ rw c.hyperperiod_of.ensures (is_within _ _)
