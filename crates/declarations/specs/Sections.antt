-- AADL.md, sections 2 and 3: the sections of a thread type, a thread implementation and a process implementation.
use Rattle.words.specs.Same.{same_kind}
use Rattle.words.specs.declared.kinds.Kind.{Kind}
use Rattle.common.specs.Words.{ℕ, Bool, true, false, not, cond, List, eqb}
use Rattle.words.specs.Kinds.{FEATURES, SUBCOMPONENTS, CONNECTIONS, PROPERTIES, MODES}
use Rattle.tokens.specs.Tokens.{Token}
use Rattle.steps.specs.Steps.{next, is, the}
use Rattle.phrases.specs.Phrases.{section_kind, skipped}
use Rattle.rows.specs.Rows.{a_process, a_type}
use Rattle.rows.specs.Said.{Rule, quiet, ◌⨟◌, repeat, adding}
use Rattle.properties.specs.Properties.{of_thread, of_process, none_or, properties_in}
use Rattle.features.specs.Features.{features}
use Rattle.threads.specs.Threads.{subcomponents}
use Rattle.links.specs.Links.{connections}

-- ""features" .. in a thread_type", ""subcomponents" .. in a process_impl", ""connections" .. in a process_impl"
unfoldable pub list_kind : ℕ → Kind → Bool
list_kind of k =
    cond (eqb of a_type) (same_kind k FEATURES) (cond (eqb of a_process) (cond (same_kind k SUBCOMPONENTS) true (same_kind k CONNECTIONS)) false)

-- "Any other section word there fits no rule ("features" in an implementation, "modes" in a process_impl)"
unfoldable pub allowed : ℕ → Kind → Bool
allowed of k = cond (same_kind k FEATURES) (eqb of a_type) (cond (same_kind k MODES) (not (eqb of a_process)) (section_kind k))

-- { feature } of the type, { subcomponent } and { connection } of the process, whose name or begin stands at a place
unfoldable pub listed : Kind → ℕ → Rule
listed word place ps ts =
    let of_process = subcomponents place ps ts in
    let between = connections place ps ts in
    cond (same_kind word FEATURES) (features place ps ts) (cond (same_kind word SUBCOMPONENTS) of_process between)

-- its word, then ( "none" ";" | { .. } )
unfoldable pub list_in : Kind → ℕ → Rule
list_in word place ps ts = quiet (the word) ps ts ⨟ none_or (listed word place)

-- "properties" associations. "Where a declaration has several properties sections, the first that has the property counts"
unfoldable pub properties_of : ℕ → Rule
properties_of of ps ts = let own = adding (properties_in of_thread) ps ts in cond (eqb of a_process) (properties_in of_process ps ts) own

unfoldable pub section : ℕ → ℕ → Rule
section of place ps ts =
    let props = properties_of of ps ts in
    let list = list_in (next ts) place ps ts in
    cond (list_kind of (next ts)) list (cond (is PROPERTIES ts) props (quiet skipped ps ts))

abbrev pub begins : ℕ → List Token → Bool
begins of ts = allowed of (next ts)

-- { section }
unfoldable pub sections : ℕ → ℕ → Rule
sections of place = repeat (begins of) (section of place)
