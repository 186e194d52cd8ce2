-- `rules::only_tasks_send`: every row may send as it does.
use Rattle.std.specs.Prelude.{◌≡◌}
use Rattle.common.specs.Words.{ℕ, Bool, true, false, rules}
use Rattle.common.specs.Tests.{tests}
use Rattle.std.proofs.lemmas.Iterator.{cases_from_all, YieldsList-from_slice}
use Rattle.std.proofs.lemmas.Iterator.Consumers.{YieldsList-from_enumerate, YieldsList-at}
use Rattle.plan.specs.Rules.{only_tasks_send, may_send}
use Rattle.rules.proofs.Found.{all_rows}
use Rattle.rules.proofs.only_tasks_send.Goals as goal

pub returns : goal.returns
unfolding only_tasks_send
returns c =
    let may = λ (i : ℕ) (sends : Bool). may_send c.args.tasks sends i in
    all_rows may c.args.row.now false 16 c.told-row _
    (cases_from_all _ _ _ (λ (p : ℕ × Bool). may p.0 p.1 ≡ true) (λ p. may p.0 p.1 ≡ false) c.all.ensures.ran
    (YieldsList-from_enumerate (YieldsList-at c.enumerate.ensures.source (YieldsList-from_slice c.args.row.now cc)) (search rules))
    (λ x q k. search (rules, tests))
    (λ x q k. search (rules, tests)))
