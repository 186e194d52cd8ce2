-- `sender::sender_at`: what the search finds is the first row that sent the message.
use Rattle.std.specs.Option.{unwrap_or}
use Rattle.std.specs.Prelude.{◌<◌, ◌≤◌, ◌≡◌, Option, Some, None, MatchOption}
use Rattle.common.specs.Words.{ℕ, Bool, true, false, not, arith, rules, sym, ◌∙◌}
use Rattle.common.specs.Tests.{tests}
use Rattle.std.proofs.lemmas.Iterator.{first_from_Range}
use Rattle.common.proofs.Rows.{first_bad, first_bad_only}
use Rattle.model.specs.Model.{sent_by}
use Rattle.plan.specs.Plan.{queue_at}
use Rattle.counting.proofs.sender.sender_at.Goals as goal

first_row : (s : ℕ → Bool) (n : ℕ) (r : Option ℕ) →
    MatchOption r ((k : ℕ) → 0 ≤ k → k < n → s k ≡ false)
    (λ i. (0 ≤ i) × (i < n) × (s i ≡ true) × ((k : ℕ) → 0 ≤ k → k < i → s k ≡ false)) →
    unwrap_or r n ≡ first_bad (λ i. not (s i)) n
first_row s n (Some i) h =
    sym (first_bad_only _ n i (record {
      within = omega (arith, h.1);
      before = λ k l. rw (h.3 k (omega arith) l);
      bad = λ l. rw h.2;
    }))
first_row s n None h =
    sym (first_bad_only _ n n (record {
      within = omega arith;
      before = λ k l. rw (h k (omega arith) l);
      bad = λ l. absurd (omega (arith, l));
    }))

pub returns : goal.returns
returns c =
    let sent = sent_by (queue_at c.args.plan.now c.args.queue) c.args.at.0 c.args.n.0 in
    c.unwrap_or.ensures
    ∙ first_row sent c.args.plan.now.tasks c.find.result
    (first_from_Range _ _ _ _ (λ i. sent i ≡ true) (λ i. sent i ≡ false) c.find.ensures.ran (λ x q k. search (rules, tests))
    (λ x q k. search (rules, tests)))
