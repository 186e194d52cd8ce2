-- AADL.md, section 2: thread types, thread implementations and process implementations.
use Rattle.words.specs.declared.kinds.Kind.{Kind}
use Rattle.common.specs.Words.{ℕ, List}
use Rattle.words.specs.Kinds.{THREAD, PROCESS, IMPLEMENTATION, EXTENDS, END, DOT, SEMICOLON}
use Rattle.tokens.specs.Tokens.{Token}
use Rattle.steps.specs.Steps.{Step, ◌⟫◌, head, is, the, name, own, optional}
use Rattle.steps.specs.Lifted.{first}
use Rattle.phrases.specs.Phrases.{scopes, classifier}
use Rattle.rows.specs.Rows.{a_process, a_type, an_implementation, process_row, type_row, implementation_row}
use Rattle.rows.specs.Said.{Rule, quiet, ◌⨟◌, put}
use Rattle.declarations.specs.Sections.{sections}

-- [ "extends" classifier ]
abbrev pub extension : List Token → Step
extension ts = the EXTENDS ts ⟫ classifier

unfoldable pub maybe_extends : List Token → Step
maybe_extends = optional (is EXTENDS) extension

-- a thread_type's NAME, and where that of the type stands that it extends: the last of its classifier, 0 where it extends none
abbrev pub type_name : Step → Token
type_name s = first (s ⟫ the THREAD)

abbrev pub parent_in : Step → ℕ
parent_in s = (first (s ⟫ the THREAD ⟫ name ⟫ the EXTENDS ⟫ scopes)).start

unfoldable pub type_head : List Token → Step
type_head ts = the THREAD ts ⟫ name ⟫ maybe_extends

-- "The names after a thread_type's, thread_impl's or process_impl's "end" are its own"
unfoldable pub type_end : Token → List Token → Step
type_end n ts = the END ts ⟫ own n ⟫ the SEMICOLON

-- thread_type = "thread" NAME [ "extends" classifier ] { section } "end" NAME ";"
unfoldable pub thread_type : Rule
thread_type ps ts =
    quiet type_head ps ts ⨟ sections a_type (type_name (Step.On ts)).start ⨟ quiet (type_end (type_name (Step.On ts)))
    ⨟ put (λ qs. type_row (type_name (Step.On ts)).start (parent_in (Step.On ts)) qs)

-- an implementation's first NAME and its second
abbrev pub first_name : Kind → Step → Token
first_name word s = first (s ⟫ the word ⟫ the IMPLEMENTATION)

abbrev pub second_name : Kind → Step → Token
second_name word s = first (s ⟫ the word ⟫ the IMPLEMENTATION ⟫ name ⟫ the DOT)

unfoldable pub implementation_head : Kind → List Token → Step
implementation_head word ts = the word ts ⟫ the IMPLEMENTATION ⟫ name ⟫ the DOT ⟫ name

unfoldable pub implementation_end : Token → Token → List Token → Step
implementation_end t n ts = the END ts ⟫ own t ⟫ the DOT ⟫ own n ⟫ the SEMICOLON

-- its word, "implementation" NAME "." NAME { section } "end" NAME "." NAME ";"
unfoldable pub implementation : Kind → ℕ → ℕ → Rule
implementation word of place ps ts =
    quiet (implementation_head word) ps ts ⨟ sections of place
    ⨟ quiet (implementation_end (first_name word (Step.On ts)) (second_name word (Step.On ts)))

-- thread_impl = "thread" "implementation" NAME "." NAME { section } "end" NAME "." NAME ";"
unfoldable pub thread_implementation : Rule
thread_implementation ps ts =
    implementation THREAD an_implementation 0 ps ts
    ⨟ put (λ qs. implementation_row (first_name THREAD (Step.On ts)).start (second_name THREAD (Step.On ts)).start qs)

-- process_impl = "process" "implementation" NAME "." NAME { section } "end" NAME "." NAME ";"
unfoldable pub process_implementation : Rule
process_implementation ps ts = implementation PROCESS a_process (head ts).start ps ts ⨟ put (λ qs. process_row (head ts).start)
