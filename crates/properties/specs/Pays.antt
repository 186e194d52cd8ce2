-- Properties declare nothing, so nothing has to be paid for them; a section's list pays for itself.
use Rattle.properties.specs.declared.Of.{Of}
use Rattle.std.specs.Prelude.{◌≡◌}
use Rattle.common.specs.Words.{ℕ, arith, List, [], refl, eqb, get_or}
use Rattle.words.specs.Kinds.{NONE, OPEN_BRACE, CLOSE_BRACE, PROPERTIES}
use Rattle.tokens.specs.Tokens.{Token}
use Rattle.tokens.specs.Laws.{cases}
use Rattle.steps.specs.Steps.{On, is, named, the}
use Rattle.steps.specs.Laws.{moves_the}
use Rattle.phrases.specs.Laws.{nothing_moves}
use Rattle.rows.specs.Said.{Said, Rule, quiet}
use Rattle.rows.specs.Pays.{PaidBy, Pays, paid_less, paid_moved, paid_silent, pays_quiet, paid_onward, pays_optionally, pays_repeat}
use Rattle.properties.specs.Properties.{property_at, read_in, owned, skipped_in, association_in, associations_in, block_in, maybe_block_in, none_or}
use Rattle.properties.specs.Properties.{properties_in}
use Rattle.properties.specs.Laws.{association_in_moves}

pub association_silent : (c : Of) (ps : List ℕ) (ts : List Token) → (association_in c ps ts).rows ≡ []
unfolding association_in owned skipped_in
association_silent c ps ts =
    let P : Said → Type 0 = λ (s : Said). s.rows ≡ [] in
    cases P (read_in c (property_at (On ts))) (λ _. cases P (eqb (get_or ps (property_at (On ts)) 0) 0) (λ _. refl) (λ _. refl)) (λ _. refl)

association_pays : (c : Of) → Pays 0 0 (association_in c)
association_pays c ps ts =
    paid_less 0 0 (omega arith) (omega arith) (paid_silent (association_in c ps ts) (association_silent c ps ts) (association_in_moves c ps ts))

associations_pay : (c : Of) → Pays 0 0 (associations_in c)
unfolding associations_in
associations_pay c = pays_repeat named (association_in c) (association_pays c)

block_pays : (c : Of) → Pays 0 2 (block_in c)
unfolding block_in
block_pays c ps ts =
    paid_onward _ (quiet (the CLOSE_BRACE)) (paid_onward _ (associations_in c)
    (paid_moved (moves_the OPEN_BRACE refl ts)) (associations_pay c))
    (pays_quiet (the CLOSE_BRACE) (moves_the CLOSE_BRACE refl))

pub maybe_block_pays : (c : Of) → Pays 0 0 (maybe_block_in c)
unfolding maybe_block_in
maybe_block_pays c = pays_optionally (is OPEN_BRACE) (block_in c) (block_pays c)

pub none_or_pays : (rule : Rule) → Pays 0 0 rule → Pays 0 0 (none_or rule)
unfolding none_or
none_or_pays rule h ps ts =
    cases (PaidBy 0 0 ts) (is NONE ts) (λ _. paid_less 0 0 (omega arith) (omega arith) (paid_moved (nothing_moves ts))) (λ _. h ps ts)

pub properties_in_pays : (c : Of) → Pays 0 1 (properties_in c)
unfolding properties_in
properties_in_pays c ps ts =
    paid_onward _ (none_or (associations_in c)) (paid_moved (moves_the PROPERTIES refl ts))
    (none_or_pays (associations_in c) (associations_pay c))
