-- What rules 7 and 9 leave of a queue where they have passed.
use Rattle.std.specs.Prelude.{◌≡◌}
use Rattle.common.specs.Words.{ℕ, not-false, ltb-true, sym, ◌∙◌}
use Rattle.common.specs.Tests.{having}
use Rattle.plan.specs.Plan.{Usable}
use Rattle.plan.specs.Sound.{sound_iff, usable}
use Rattle.plan.specs.Verdicts.{Verdict, clear, verdict, clear_passed}
use Rattle.plan.specs.declared.Plan.{Plan}
use Rattle.lookups.specs.Lookups.{queue_lines}

pub counted : (p : Plan) (q : ℕ) {v : Verdict} → v ≡ verdict (queue_lines p q) → v ≡ clear → Usable p q
counted p q e h =
    having (clear_passed (queue_lines p q) (sym e ∙ h))
    (λ x. usable ((sound_iff p).0 (not-false _ x.0)) q (ltb-true _ _ (not-false _ x.1.0)))
