-- Properties declare nothing, and no Priority over 255 is kept; a section's list declares rows with all their columns where its rule does.
use Rattle.properties.specs.declared.Of.{Of}
use Rattle.std.specs.Prelude.{◌≤◌, ◌∷◌, ◌≡◌}
use Rattle.common.specs.Words.{ℕ, zero, suc, List, [], refl, ap, eqb, get_or, set}
use Rattle.words.specs.Kinds.{NONE, OPEN_BRACE, CLOSE_BRACE, PROPERTIES}
use Rattle.tokens.specs.Tokens.{Token}
use Rattle.tokens.specs.Laws.{cases}
use Rattle.steps.specs.Steps.{Step, On, is, named, the}
use Rattle.times.specs.PriorityLaws.{priority_low}
use Rattle.rows.specs.Rows.{most_value}
use Rattle.rows.specs.Said.{Said, Rule, quiet}
use Rattle.rows.specs.Wide.{Low, Wide, WideOn, wide_silent, wide_quiet, wide_onward, wide_optionally, wide_repeat}
use Rattle.properties.specs.Properties.{priority, property_at, read_in, form, owned, skipped_in, association_in, associations_in, block_in}
use Rattle.properties.specs.Properties.{maybe_block_in, none_or, properties_in}
use Rattle.properties.specs.Laws.{form_priority, form_at}
use Rattle.properties.specs.Pays.{association_silent}

-- ## What is kept of a Priority

-- an entry that is stored to, and one that is not
set_low : (m : ℕ) (l : List ℕ) (i j v : ℕ) → get_or l j 0 ≤ m → (i ≡ j → v ≤ m) → get_or (set l i v) j 0 ≤ m
set_low m [] i j v g h = g
set_low m (x ∷ l) zero zero v g h = h refl
set_low m (x ∷ l) zero (suc j) v g h = g
set_low m (x ∷ l) (suc i) zero v g h = g
set_low m (x ∷ l) (suc i) (suc j) v g h = set_low m l i j v g (λ e. h (ap suc e))

form_low : (q : ℕ) (s : Step) → q ≡ priority → (form q s).value ≤ most_value
form_low q s e = rw (form_priority q s e) (priority_low s)

owned_low : (q : ℕ) (ps : List ℕ) (ts : List Token) → Low ps → Low (owned q ps ts).props
unfolding owned
owned_low q ps ts l =
    cases (λ (s : Said). Low s.props) (eqb (get_or ps q 0) 0)
    (λ _. set_low most_value ps q priority (form_at q (On ts)).value l (λ e. form_low q _ e)) (λ _. l)

-- ## Rules

association_wide : (c : Of) → WideOn (association_in c)
unfolding association_in skipped_in
association_wide c ps ts =
    wide_silent _ (association_silent c ps ts)
    (λ l. cases (λ (s : Said). Low s.props) (read_in c (property_at (On ts))) (λ _. owned_low (property_at (On ts)) ps ts l) (λ _. l))

associations_wide : (c : Of) → WideOn (associations_in c)
unfolding associations_in
associations_wide c = wide_repeat named (association_in c) (association_wide c)

block_wide : (c : Of) → WideOn (block_in c)
unfolding block_in
block_wide c ps ts =
    wide_onward _ (quiet (the CLOSE_BRACE)) (wide_onward _ (associations_in c) (wide_quiet (the OPEN_BRACE) ps ts) (associations_wide c))
    (wide_quiet (the CLOSE_BRACE))

pub maybe_block_wide : (c : Of) → WideOn (maybe_block_in c)
unfolding maybe_block_in
maybe_block_wide c = wide_optionally (is OPEN_BRACE) (block_in c) (block_wide c)

pub none_or_wide : (rule : Rule) → WideOn rule → WideOn (none_or rule)
unfolding none_or
none_or_wide rule h ps ts = cases (Wide ps) (is NONE ts) (λ _. wide_silent _ refl (λ l. l)) (λ _. h ps ts)

pub properties_in_wide : (c : Of) → WideOn (properties_in c)
unfolding properties_in
properties_in_wide c ps ts =
    wide_onward _ (none_or (associations_in c)) (wide_quiet (the PROPERTIES) ps ts) (none_or_wide (associations_in c) (associations_wide c))
