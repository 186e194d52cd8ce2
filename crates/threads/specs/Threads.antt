-- AADL.md, section 2: subcomponents of a process implementation.
use Rattle.words.specs.Same.{same_kind}
use Rattle.words.specs.declared.kinds.Kind.{Kind}
use Rattle.common.specs.Words.{ℕ, Bool, true, false, cond, List}
use Rattle.words.specs.Kinds.{THREAD, DOT, SEMICOLON, DATA, SUBPROGRAM, ABSTRACT}
use Rattle.tokens.specs.Tokens.{Token}
use Rattle.steps.specs.Steps.{◌⟫◌, head, next, named, the, name}
use Rattle.steps.specs.Lifted.{first}
use Rattle.phrases.specs.Phrases.{scopes, classifier, label, word_and_rest}
use Rattle.rows.specs.Rows.{thread_row}
use Rattle.rows.specs.Said.{Rule, quiet, ◌⨟◌, repeat, put, apart}
use Rattle.properties.specs.Properties.{of_thread, maybe_block_in}

-- "In a classifier only the last type's name and the implementation's count"
unfoldable pub type_in : List Token → ℕ
type_in ts = (first (scopes ts)).start

unfoldable pub implementation_in : List Token → ℕ
implementation_in ts = (first (scopes ts ⟫ name ⟫ the DOT)).start

-- "thread" classifier [ block ] ";", from behind the word on
unfoldable pub thread_of : ℕ → ℕ → Rule
thread_of process n ps ts =
    quiet classifier ps ts ⨟ maybe_block_in of_thread ⨟ quiet (the SEMICOLON)
    ⨟ put (λ qs. thread_row process n (type_in ts) (implementation_in ts) qs)

unfoldable pub thread : ℕ → ℕ → Rule
thread process n ps ts = quiet (the THREAD) ps ts ⨟ thread_of process n

-- ( "data" | "subprogram" | "abstract" ) rest
unfoldable pub other_component : Kind → Bool
other_component k = cond (same_kind k DATA) true (cond (same_kind k SUBPROGRAM) true (cond (same_kind k ABSTRACT) true false))

-- subcomponent = NAME ":" ( "thread" classifier [ block ] ";" | ( "data" | "subprogram" | "abstract" ) rest )
unfoldable pub subcomponent_of : ℕ → ℕ → Rule
subcomponent_of process n ps ts = let threaded = apart (thread process n) ps ts in
    cond (other_component (next ts)) (quiet word_and_rest ps ts) threaded

unfoldable pub subcomponent : ℕ → Rule
subcomponent process ps ts = quiet label ps ts ⨟ subcomponent_of process (head ts).start

-- { subcomponent }
unfoldable pub subcomponents : ℕ → Rule
subcomponents process = repeat named (subcomponent process)
