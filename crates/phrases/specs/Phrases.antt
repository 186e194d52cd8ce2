-- AADL.md, section 2: rules that declare nothing by themselves.
use Rattle.words.specs.Same.{same_kind}
use Rattle.words.specs.declared.kinds.Kind.{Kind}
use Rattle.common.specs.Words.{Bool, true, false, cond, List}
use Rattle.words.specs.Kinds.{ENDED, END, COLON, SCOPE, DOT, COMMA, SEMICOLON, OPEN_BRACE, ANNEXED, ARROW, DELAYING, ANNEX, CALLS, CONNECTIONS, DATA}
use Rattle.words.specs.Kinds.{EVENT, FEATURES, FLOWS, IN, MODES, NONE, OUT, PORT, PROPERTIES, PROTOTYPES, SUBCOMPONENTS}
use Rattle.tokens.specs.Tokens.{Token}
use Rattle.steps.specs.Steps.{Step, ◌⟫◌, next, second, is, named, any, the, name, optional, many}
use Rattle.values.specs.Values.{block}

-- rest = { any token but "{" ";" "end" and the text's end } [ block ] ";"
unfoldable pub rest_kind : Kind → Bool
rest_kind k = cond (same_kind k OPEN_BRACE) false
    (cond (same_kind k SEMICOLON) false (cond (same_kind k END) false (cond (same_kind k ENDED) false true)))

unfoldable pub rest : List Token → Step
rest ts = many (λ us. rest_kind (next us)) any ts ⟫ optional (is OPEN_BRACE) block ⟫ the SEMICOLON

-- { NAME "::" }
abbrev pub begins_scope : List Token → Bool
begins_scope ts = same_kind (second ts) SCOPE

abbrev pub scope : List Token → Step
scope ts = name ts ⟫ the SCOPE

unfoldable pub scopes : List Token → Step
scopes = many begins_scope scope

-- [ "." NAME ]
abbrev pub point : List Token → Step
point ts = the DOT ts ⟫ name

unfoldable pub dotted : List Token → Step
dotted = optional (is DOT) point

-- classifier = { NAME "::" } NAME [ "." NAME ]
unfoldable pub classifier : List Token → Step
classifier ts = scopes ts ⟫ name ⟫ dotted

-- path = NAME { ( "::" | "." ) NAME }
unfoldable pub join_kind : Kind → Bool
join_kind k = cond (same_kind k SCOPE) true (cond (same_kind k DOT) true false)

abbrev pub joint : List Token → Step
joint ts = any ts ⟫ name

unfoldable pub path : List Token → Step
path ts = name ts ⟫ many (λ us. join_kind (next us)) joint

-- path { "," path } ";"
abbrev pub another : List Token → Step
another ts = the COMMA ts ⟫ path

unfoldable pub paths : List Token → Step
paths ts = path ts ⟫ many (is COMMA) another ⟫ the SEMICOLON

-- annex = "annex" NAME ANNEX ";"
unfoldable pub annex : List Token → Step
annex ts = the ANNEX ts ⟫ name ⟫ the ANNEXED ⟫ the SEMICOLON

-- "in" [ "out" ] | "out"
unfoldable pub direction : List Token → Step
direction ts = let inward = the IN ts ⟫ optional (is OUT) (the OUT) in cond (is IN ts) inward (the OUT ts)

-- "data" "port" | "event" [ "data" ] "port"
unfoldable pub port_kind : List Token → Step
port_kind ts = cond (is DATA ts) (the DATA ts ⟫ the PORT) (the EVENT ts ⟫ optional (is DATA) (the DATA) ⟫ the PORT)

-- port_kind = "port" | "data" "port" | "event" [ "data" ] "port"
unfoldable pub link_kind : List Token → Step
link_kind ts = cond (is PORT ts) (the PORT ts) (port_kind ts)

-- place = NAME [ "." NAME ]
unfoldable pub place : List Token → Step
place ts = name ts ⟫ dotted

-- "->" | "->>"
unfoldable pub arrow : List Token → Step
arrow ts = cond (is DELAYING ts) (the DELAYING ts) (the ARROW ts)

-- "none" ";"
unfoldable pub nothing : List Token → Step
nothing ts = the NONE ts ⟫ the SEMICOLON

-- "Section words"
unfoldable pub section_kind : Kind → Bool
section_kind k =
    cond (same_kind k ANNEX) true
    (cond (same_kind k CALLS) true
    (cond (same_kind k CONNECTIONS) true
    (cond (same_kind k FEATURES) true
    (cond (same_kind k FLOWS) true
    (cond (same_kind k MODES) true
    (cond (same_kind k PROPERTIES) true
    (cond (same_kind k PROTOTYPES) true
    (cond (same_kind k SUBCOMPONENTS) true false))))))))

-- "a skipped section's word, then any tokens up to the next section word or "end""
unfoldable pub skip_kind : Kind → Bool
skip_kind k = cond (section_kind k) false (cond (same_kind k END) false (cond (same_kind k ENDED) false true))

unfoldable pub skipped : List Token → Step
skipped ts = any ts ⟫ many (λ us. skip_kind (next us)) any

-- NAME ":", and [ NAME ":" ]
unfoldable pub label : List Token → Step
label ts = name ts ⟫ the COLON

unfoldable pub maybe_label : List Token → Step
maybe_label = optional named label

-- [ classifier ]
unfoldable pub maybe_classifier : List Token → Step
maybe_classifier = optional named classifier

-- a word, then rest
unfoldable pub word_and_rest : List Token → Step
word_and_rest ts = any ts ⟫ rest
