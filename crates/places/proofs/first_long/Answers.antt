-- `places::first_long`: what the search finds is the first queue that is too long.
use Rattle.std.specs.Prelude.{◌&&◌, ◌≡◌}
use Rattle.common.specs.Words.{ℕ, true, false, rules}
use Rattle.common.specs.Tests.{tests}
use Rattle.std.proofs.lemmas.Iterator.{first_from_Range}
use Rattle.rules.proofs.Found.{found}
use Rattle.sizing.specs.Cycle.{cycle_short, messages_few}
use Rattle.places.specs.Places.{long_queue}
use Rattle.places.proofs.first_long.Goals as goal

pub returns : goal.returns
unfolding long_queue
returns c =
    let good = λ (q : ℕ). cycle_short c.args.table.now q && messages_few c.args.table.now q in
    found good _ _
    (first_from_Range _ _ _ _ (λ i. good i ≡ false) (λ i. good i ≡ true) c.find.ensures.ran (λ x q k. search (rules, tests))
    (λ x q k. search (rules, tests)))
