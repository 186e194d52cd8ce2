-- AADL.md, section 2: declarations, packages and the whole text.
use Rattle.steps.specs.declared.faults.Why.{Why}
use Rattle.words.specs.Same.{same_kind}
use Rattle.words.specs.declared.kinds.Kind.{Kind}
use Rattle.std.specs.Prelude.{◌&&◌}
use Rattle.common.specs.Words.{Bool, true, cond, List}
use Rattle.words.specs.Kinds.{ENDED, THREAD, PROCESS, IMPLEMENTATION, GROUP, ANNEX, PACKAGE, PUBLIC, PRIVATE, WITH, PROPERTIES, NONE}
use Rattle.tokens.specs.Tokens.{Token}
use Rattle.steps.specs.Steps.{Step, On, ◌⟫◌, next, second, is, any, the, unfit}
use Rattle.values.specs.Values.{associations}
use Rattle.phrases.specs.Phrases.{path, paths, annex, nothing}
use Rattle.rows.specs.Said.{Rule, quiet, ◌⨟◌, repeat, apart}
use Rattle.declarations.specs.Declarations.{thread_type, thread_implementation, process_implementation}
use Rattle.others.specs.Others.{other_kind, path_end, other}

-- declaration = thread_type | thread_impl | process_impl | annex | other
unfoldable pub declaration_kind : Kind → Bool
declaration_kind k = cond (same_kind k THREAD) true (cond (same_kind k ANNEX) true (other_kind k))

-- "thread where "group" follows" is an other
unfoldable pub thread_by : Rule
thread_by ps ts =
    let type = thread_type ps ts in
    let group = other ps ts in
    cond (same_kind (second ts) IMPLEMENTATION) (thread_implementation ps ts) (cond (same_kind (second ts) GROUP) group type)

-- "process (where "implementation" does not follow)" is an other
unfoldable pub chosen : Rule
chosen ps ts =
    let process = process_implementation ps ts in
    let rest = other ps ts in
    let annexed = quiet annex ps ts in
    cond (is THREAD ts) (thread_by ps ts) (cond (is ANNEX ts) annexed (cond (is PROCESS ts && same_kind (second ts) IMPLEMENTATION) process rest))

-- each has properties of its own
unfoldable pub declaration : Rule
declaration = apart chosen

-- associations = "none" ";" | { association }
unfoldable pub none_or_some : List Token → Step
none_or_some ts = cond (is NONE ts) (nothing ts) (associations ts)

-- "public" | "private" | "with" path { "," path } ";" | "properties" associations
unfoldable pub clause_kind : Kind → Bool
clause_kind k = cond (same_kind k PUBLIC) true (cond (same_kind k PRIVATE) true (cond (same_kind k WITH) true (same_kind k PROPERTIES)))

unfoldable pub clause : List Token → Step
clause ts = cond (is WITH ts) (the WITH ts ⟫ paths) (cond (is PROPERTIES ts) (the PROPERTIES ts ⟫ none_or_some) (any ts))

unfoldable pub part_kind : Kind → Bool
part_kind k = cond (clause_kind k) true (declaration_kind k)

unfoldable pub part : Rule
part ps ts = let declared = declaration ps ts in cond (clause_kind (next ts)) (quiet clause ps ts) declared

abbrev pub begins_part : List Token → Bool
begins_part ts = part_kind (next ts)

unfoldable pub parts : Rule
parts = repeat begins_part part

-- package = "package" path { "public" | .. | declaration } "end" path ";"
abbrev pub package_head : List Token → Step
package_head ts = the PACKAGE ts ⟫ path

unfoldable pub packaged : Rule
packaged ps ts = quiet package_head ps ts ⨟ parts ⨟ quiet path_end

-- text = { package | declaration }
unfoldable pub piece_kind : Kind → Bool
piece_kind k = cond (same_kind k PACKAGE) true (declaration_kind k)

unfoldable pub piece : Rule
piece ps ts = let declared = declaration ps ts in cond (is PACKAGE ts) (packaged ps ts) declared

abbrev pub begins_piece : List Token → Bool
begins_piece ts = piece_kind (next ts)

unfoldable pub pieces : Rule
pieces = repeat begins_piece piece

-- what was expected there: a package, a declaration or the text's end
abbrev pub a_declaration : Why
a_declaration = Why.ADeclaration

unfoldable pub finished : List Token → Step
finished ts = cond (is ENDED ts) (On ts) (unfit a_declaration ts)

unfoldable pub whole_text : Rule
whole_text ps ts = pieces ps ts ⨟ quiet finished
