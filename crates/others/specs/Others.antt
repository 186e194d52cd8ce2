-- AADL.md, sections 2 to 4: other declarations, which are skipped, and the properties in them that would reach a thread from outside.
use Rattle.steps.specs.declared.faults.Rule.TheVariants.{Unfit}
use Rattle.words.specs.Same.{same_kind}
use Rattle.words.specs.declared.kinds.Kind.{Kind}
use Rattle.std.specs.Prelude.{◌&&◌, ◌∷◌, ◌++◌}
use Rattle.common.specs.Words.{ℕ, Bool, true, false, cond, List, []}
use Rattle.words.specs.Kinds.{ENDED, END, SEMICOLON, APPLIES, BECOMES, ADDS, PERIOD, DEADLINE, DISPATCH_PROTOCOL, DISPATCH_OFFSET, PRIORITY}
use Rattle.words.specs.Kinds.{ABSTRACT, BUS, DATA, DEVICE, FEATURE, MEMORY, PROCESS}
use Rattle.words.specs.Kinds.{PROCESSOR, PROPERTY, SUBPROGRAM, SYSTEM, VIRTUAL}
use Rattle.tokens.specs.Tokens.{Token}
use Rattle.steps.specs.declared.faults.Fault.{Fault}
use Rattle.steps.specs.Faults.{fault}
use Rattle.steps.specs.Steps.{Step, On, ◌⟫◌, next, any, the}
use Rattle.phrases.specs.Phrases.{path}
use Rattle.rows.specs.Said.{said, Rule, quiet, ◌⨟◌}
use Rattle.properties.specs.Properties.{from_outside}

-- "other: abstract, bus, data, .." (thread where "group" follows is told by the declaration's choice)
unfoldable pub other_kind : Kind → Bool
other_kind k =
    cond (same_kind k ABSTRACT) true
    (cond (same_kind k BUS) true
    (cond (same_kind k DATA) true
    (cond (same_kind k DEVICE) true
    (cond (same_kind k FEATURE) true
    (cond (same_kind k MEMORY) true
    (cond (same_kind k PROCESS) true
    (cond (same_kind k PROCESSOR) true
    (cond (same_kind k PROPERTY) true
    (cond (same_kind k SUBPROGRAM) true
    (cond (same_kind k SYSTEM) true
    (cond (same_kind k VIRTUAL) true false)))))))))))

-- "an other that begins with process or system"
unfoldable pub outside_kind : Kind → Bool
outside_kind k = cond (same_kind k PROCESS) true (same_kind k SYSTEM)

unfoldable pub reaches : Kind → Bool
reaches k =
    cond (same_kind k PERIOD) true
    (cond (same_kind k DEADLINE) true
    (cond (same_kind k DISPATCH_PROTOCOL) true
    (cond (same_kind k DISPATCH_OFFSET) true (same_kind k PRIORITY))))

unfoldable pub associates : Kind → Bool
associates k = cond (same_kind k BECOMES) true (same_kind k ADDS)

-- "a word Period, Deadline, Dispatch_Protocol, Dispatch_Offset or Priority .. that `=>` or `+=>` follows directly"
unfoldable pub reaching : Kind → Kind → Bool
reaching k l = reaches k && associates l

unfoldable pub ends_waiting : Kind → Bool
ends_waiting k = cond (same_kind k APPLIES) true (same_kind k SEMICOLON)

-- such words, until "applies" comes, which notes them, or `;`
unfoldable pub waiting_after : Bool → List Fault → Kind → Kind → ℕ → List Fault
waiting_after outside waiting k l place =
    cond (ends_waiting k) [] (cond (outside && reaching k l) (waiting ++ fault Unfit place from_outside ∷ []) waiting)

unfoldable pub noted_at : List Fault → Kind → List Fault
noted_at waiting k = cond (same_kind k APPLIES) waiting []

-- what ends an other
unfoldable pub last_kind : Kind → Bool
last_kind k = cond (same_kind k END) true (same_kind k ENDED)

-- "any tokens up to the first "end"", with what is noted on the way
unfoldable pub passing : Bool → List Fault → Rule
passing outside waiting ps [] = said (On []) ps [] []
passing outside waiting ps (k ∷ ts) =
    let more = passing outside (waiting_after outside waiting k.kind (next ts) k.start) ps ts in
    cond (last_kind k.kind) (said (On (k ∷ ts)) ps [] [])
    (said more.went more.props more.rows (noted_at waiting k.kind ++ more.notes))

-- "then "end" path ";"", which ends a package too
unfoldable pub path_end : List Token → Step
path_end ts = the END ts ⟫ path ⟫ the SEMICOLON

-- other = a first word of section 3, then any tokens up to the first "end", then "end" path ";"
unfoldable pub other : Rule
other ps ts = quiet any ps ts ⨟ passing (outside_kind (next ts)) [] ⨟ quiet path_end
