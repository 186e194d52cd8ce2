-- AADL.md, section 4: the properties that are read.
use Rattle.properties.specs.declared.Of.{Of}
use Rattle.words.specs.declared.kinds.Kind.{Kind}
use Rattle.steps.specs.declared.faults.Rule.TheVariants.{Unfit}
use Rattle.steps.specs.declared.faults.Why.{Why}
use Rattle.words.specs.Same.{same_kind}
use Rattle.std.specs.Prelude.{◌∷◌}
use Rattle.common.specs.Words.{ℕ, Bool, false, cond, List, [], eqb, ltb, get_or, set}
use Rattle.words.specs.Kinds.{PERIOD, DEADLINE, DISPATCH_PROTOCOL, DISPATCH_OFFSET, PRIORITY, TIMING, TIMING_PROPERTIES, THREAD_PROPERTIES}
use Rattle.words.specs.Kinds.{COMMUNICATION_PROPERTIES, PERIODIC, DELAYED, SCOPE, BECOMES, SEMICOLON, NONE, OPEN_BRACE, CLOSE_BRACE, PROPERTIES}
use Rattle.tokens.specs.Tokens.{Token}
use Rattle.steps.specs.declared.faults.Fault.{Fault}
use Rattle.steps.specs.Faults.{fault}
use Rattle.steps.specs.Steps.{Step, On, ◌⟫◌, head, is, named, any, the, name}
use Rattle.steps.specs.Lifted.{first_kind, second_kind}
use Rattle.values.specs.Values.{value, scoped, association}
use Rattle.phrases.specs.Phrases.{nothing}
use Rattle.rows.specs.Said.{said, Rule, quiet, ◌⨟◌, optionally, repeat}
use Rattle.times.specs.Times.{Formed, formed}
use Rattle.times.specs.Sums.{time_from}
use Rattle.times.specs.Priorities.{priority_from}

-- their places in a list of properties, and that of any other property
abbrev pub period : ℕ
period = 0

abbrev pub deadline : ℕ
deadline = 1

abbrev pub protocol : ℕ
protocol = 2

abbrev pub offset : ℕ
offset = 3

abbrev pub priority : ℕ
priority = 4

abbrev pub timing : ℕ
timing = 5

abbrev pub another : ℕ
another = 6

-- "property": by its NAME
unfoldable pub named_by : Kind → ℕ
named_by kind =
    cond (same_kind kind PERIOD) period
    (cond (same_kind kind DEADLINE) deadline
    (cond (same_kind kind DISPATCH_PROTOCOL) protocol
    (cond (same_kind kind DISPATCH_OFFSET) offset
    (cond (same_kind kind PRIORITY) priority
    (cond (same_kind kind TIMING) timing another)))))

-- "also as": the set that its NAME may stand in
unfoldable pub set_of : ℕ → Kind
set_of q =
    cond (eqb q protocol) THREAD_PROPERTIES
    (cond (eqb q priority) THREAD_PROPERTIES (cond (eqb q timing) COMMUNICATION_PROPERTIES TIMING_PROPERTIES))

-- by the kinds of the first four tokens: NAME, or NAME "::" NAME, and no "::" behind it
unfoldable pub property_by : Kind → Kind → Kind → Kind → ℕ
property_by a b c d =
    cond (same_kind b SCOPE) (cond (same_kind d SCOPE) another (cond (same_kind a (set_of (named_by c))) (named_by c) another)) (named_by a)

-- at a step: behind NAME "::" stands the inner NAME
abbrev pub inner_name : Step → Step
inner_name s = s ⟫ any ⟫ any

unfoldable pub property_at : Step → ℕ
property_at s = property_by (first_kind s) (second_kind s) (first_kind (inner_name s)) (second_kind (inner_name s))

-- "where": a thread subcomponent's block, a thread_impl's or thread_type's properties; a port's or a port connection's block; a
-- process_impl's own properties
abbrev pub of_thread : Of
of_thread = Of.Thread

abbrev pub of_port : Of
of_port = Of.Port

abbrev pub of_process : Of
of_process = Of.Process

unfoldable pub read_in : Of → ℕ → Bool
read_in Of.Thread q = ltb q timing
read_in Of.Port q = eqb q timing
read_in Of.Process q = false

-- "form": NUMBER unit, value, NUMBER without a point, or NAME, of which one is right: Periodic, Delayed
abbrev pub one_if : Bool → ℕ
one_if right = cond right 1 2

unfoldable pub right_by : ℕ → Kind → ℕ
right_by q kind = cond (eqb q protocol) (one_if (same_kind kind PERIODIC)) (one_if (same_kind kind DELAYED))

unfoldable pub form : ℕ → Step → Formed
form q s =
    let times = time_from s in
    let values = formed (s ⟫ value) 1 [] in
    let priorities = priority_from s in
    let names = formed (s ⟫ name) (right_by q (first_kind s)) [] in
    cond (ltb q protocol) times (cond (eqb q offset) values (cond (eqb q priority) priorities names))

-- what is wrong with a property: it stands there a second time, or it would reach threads from outside
abbrev pub second_time : Why
second_time = Why.SecondTime

abbrev pub from_outside : Why
from_outside = Why.FromOutside

-- "There `=>`, the form, then `;`". "A second one in the same block or section is 20 at its first NAME, noted as soon as its name is
-- read; it is read by its form and does not count"
unfoldable pub owned : ℕ → Rule
owned q ps ts =
    let f = form q (scoped ts ⟫ the BECOMES) in
    let w = f.went ⟫ the SEMICOLON in
    cond (eqb (get_or ps q 0) 0) (said w (set ps q f.value) [] f.notes) (said w ps [] (fault Unfit (head ts).start second_time ∷ f.notes))

-- "in a process_impl's own properties such a property is 20 at its first NAME .. and its value skipped"
unfoldable pub note_in : Of → List Token → List Fault
note_in Of.Process ts = cond (ltb (property_at (On ts)) timing) (fault Unfit (head ts).start from_outside ∷ []) []
note_in _ ts = []

unfoldable pub skipped_in : Of → Rule
skipped_in c ps ts = said (association ts) ps [] (note_in c ts)

unfoldable pub association_in : Of → Rule
association_in c ps ts =
    let read = owned (property_at (On ts)) ps ts in
    let skipped = skipped_in c ps ts in
    cond (read_in c (property_at (On ts))) read skipped

-- { association }
unfoldable pub associations_in : Of → Rule
associations_in c = repeat named (association_in c)

-- block = "{" { association } "}"
unfoldable pub block_in : Of → Rule
block_in c ps ts = quiet (the OPEN_BRACE) ps ts ⨟ associations_in c ⨟ quiet (the CLOSE_BRACE)

-- [ block ]
unfoldable pub maybe_block_in : Of → Rule
maybe_block_in c = optionally (is OPEN_BRACE) (block_in c)

-- "none" ";" | { rule }
unfoldable pub none_or : Rule → Rule
none_or rule ps ts = let some = rule ps ts in cond (is NONE ts) (quiet nothing ps ts) some

-- "properties" associations
unfoldable pub properties_in : Of → Rule
properties_in c ps ts = quiet (the PROPERTIES) ps ts ⨟ none_or (associations_in c)
