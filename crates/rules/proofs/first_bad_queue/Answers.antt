-- `rules::first_bad_queue`: what the search finds is the first bad row.
use Rattle.std.specs.Prelude.{◌≡◌}
use Rattle.common.specs.Words.{ℕ, true, false, rules, get_or}
use Rattle.common.specs.Tests.{tests}
use Rattle.std.proofs.lemmas.Iterator.{first_from_Range}
use Rattle.plan.specs.Rules.{queue_good}
use Rattle.plan.specs.Square.{entry}
use Rattle.rules.proofs.Found.{found}
use Rattle.rules.proofs.first_bad_queue.Goals as goal

pub returns : goal.returns
returns c =
    let good = λ (q : ℕ). queue_good c.args.tasks (get_or c.args.receiver.now q 0) (entry c.args.square q) in
    found good _ _
    (first_from_Range _ _ _ _ (λ i. good i ≡ false) (λ i. good i ≡ true) c.find.ensures.ran (λ x q k. search (rules, tests))
    (λ x q k. search (rules, tests)))
