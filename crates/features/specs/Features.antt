-- AADL.md, section 2: features of a thread type.
use Rattle.words.specs.Same.{same_kind}
use Rattle.words.specs.declared.kinds.Kind.{Kind}
use Rattle.common.specs.Words.{ℕ, Bool, true, false, cond, List}
use Rattle.words.specs.Kinds.{IN, OUT, SEMICOLON, REQUIRES, PROVIDES, FEATURE}
use Rattle.tokens.specs.Tokens.{Token}
use Rattle.steps.specs.Steps.{Step, On, ◌⟫◌, head, next, named, the}
use Rattle.steps.specs.Lifted.{first_kind, second_kind}
use Rattle.phrases.specs.Phrases.{direction, port_kind, maybe_classifier, label, word_and_rest}
use Rattle.rows.specs.Rows.{port_row}
use Rattle.rows.specs.Said.{Rule, quiet, ◌⨟◌, repeat, put, apart}
use Rattle.properties.specs.Properties.{of_port, maybe_block_in}

-- a port's direction: 1 in, 2 out, 3 in out
unfoldable pub direction_of : Step → ℕ
direction_of s = cond (same_kind (first_kind s) IN) (cond (same_kind (second_kind s) OUT) 3 1) 2

-- port = ( "in" [ "out" ] | "out" ) ( "data" "port" | "event" [ "data" ] "port" ) [ classifier ] [ block ] ";"
unfoldable pub port_head : List Token → Step
port_head ts = direction ts ⟫ port_kind ⟫ maybe_classifier

unfoldable pub port : ℕ → ℕ → Rule
port owner n ps ts =
    quiet port_head ps ts ⨟ maybe_block_in of_port ⨟ quiet (the SEMICOLON) ⨟ put (λ qs. port_row owner n (direction_of (On ts)) qs)

-- other_feature = ( "requires" | "provides" | "feature" ) rest
unfoldable pub other_feature : Kind → Bool
other_feature k = cond (same_kind k REQUIRES) true (cond (same_kind k PROVIDES) true (cond (same_kind k FEATURE) true false))

-- feature = NAME ":" ( port | other_feature )
unfoldable pub feature_of : ℕ → ℕ → Rule
feature_of owner n ps ts = let ported = apart (port owner n) ps ts in cond (other_feature (next ts)) (quiet word_and_rest ps ts) ported

unfoldable pub feature : ℕ → Rule
feature owner ps ts = quiet label ps ts ⨟ feature_of owner (head ts).start

-- { feature }
unfoldable pub features : ℕ → Rule
features owner = repeat named (feature owner)
