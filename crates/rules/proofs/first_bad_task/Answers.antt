-- `rules::first_bad_task`: what the search finds is the first bad row.
use Rattle.std.specs.Prelude.{◌≡◌}
use Rattle.common.specs.Words.{ℕ, true, false, rules, get_or}
use Rattle.common.specs.Tests.{tests}
use Rattle.std.proofs.lemmas.Iterator.{first_from_Range}
use Rattle.plan.specs.Rules.{task_good}
use Rattle.rules.proofs.Found.{found}
use Rattle.rules.proofs.first_bad_task.Goals as goal

pub returns : goal.returns
returns c =
    let good = λ (i : ℕ). task_good (get_or c.args.period.now i 0) (get_or c.args.deadline.now i 0) in
    found good _ _
    (first_from_Range _ _ _ _ (λ i. good i ≡ false) (λ i. good i ≡ true) c.find.ensures.ran (λ x q k. search (rules, tests))
    (λ x q k. search (rules, tests)))
