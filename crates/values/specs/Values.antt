-- AADL.md, section 2: values of properties, associations and blocks of them, as they are skipped.
use Rattle.steps.specs.declared.faults.Rule.TheVariants.{TooDeep}
use Rattle.steps.specs.declared.faults.Why.{Why}
use Rattle.words.specs.Same.{same_kind}
use Rattle.words.specs.declared.kinds.Kind.{Kind}
use Rattle.common.specs.Words.{ℕ, zero, suc, Bool, true, false, cond, List, eqb}
use Rattle.words.specs.Kinds.{ENDED, END, BECOMES, ADDS, SCOPE, COMMA, SEMICOLON, OPEN_PAREN, CLOSE_PAREN, OPEN_BRACKET, CLOSE_BRACKET, OPEN_BRACE}
use Rattle.words.specs.Kinds.{CLOSE_BRACE}
use Rattle.tokens.specs.Tokens.{Token}
use Rattle.steps.specs.Steps.{Step, ◌⟫◌, next, is, named, stop_at, unfit, any, the, name, many}

-- what is expected, or wrong
abbrev pub a_value : Why
a_value = Why.AValue

abbrev pub too_deep : Why
too_deep = Why.TooDeep

-- a part begins with a bracket that opens or is an atom: "any token but ( ) [ ] { } , ; => +=> "end" and the text's end"
unfoldable pub part_kind : Kind → Bool
part_kind k =
    cond (same_kind k CLOSE_PAREN) false
    (cond (same_kind k CLOSE_BRACKET) false
    (cond (same_kind k OPEN_BRACE) false
    (cond (same_kind k CLOSE_BRACE) false
    (cond (same_kind k COMMA) false
    (cond (same_kind k SEMICOLON) false
    (cond (same_kind k BECOMES) false
    (cond (same_kind k ADDS) false
    (cond (same_kind k END) false
    (cond (same_kind k ENDED) false true)))))))))

abbrev pub begins_part : List Token → Bool
begins_part ts = part_kind (next ts)

-- value = part { part }
unfoldable pub value_by : (List Token → Step) → List Token → Step
value_by part ts = part ts ⟫ many begins_part part

-- value { "," value }
abbrev pub comma_by : (List Token → Step) → List Token → Step
comma_by value ts = the COMMA ts ⟫ value

unfoldable pub values_by : (List Token → Step) → List Token → Step
values_by value ts = value ts ⟫ many (is COMMA) (comma_by value)

-- a list from behind its bracket on: [ value { "," value } ] ")"
unfoldable pub list_by : (List Token → Step) → List Token → Step
list_by value ts = let some = values_by value ts ⟫ the CLOSE_PAREN in cond (is CLOSE_PAREN ts) (the CLOSE_PAREN ts) some

-- a record from behind its bracket on: { NAME "=>" value ";" } "]"
abbrev pub field_by : (List Token → Step) → List Token → Step
field_by value ts = name ts ⟫ the BECOMES ⟫ value ⟫ the SEMICOLON

unfoldable pub record_by : (List Token → Step) → List Token → Step
record_by value ts = many named (field_by value) ts ⟫ the CLOSE_BRACKET

-- part = "(" .. ")" | "[" .. "]" | atom, by what the brackets hold
unfoldable pub part_by : (List Token → Step) → (List Token → Step) → List Token → Step
part_by list fields ts =
    let opens = list ts in
    let holds = fields ts in
    cond (is OPEN_PAREN ts) opens (cond (is OPEN_BRACKET ts) holds (cond (begins_part ts) (any ts) (unfit a_value ts)))

-- "a ninth open ( or [ within one value is 23 at the bracket": d more brackets may open
unfoldable pub part_of : ℕ → List Token → Step
part_of zero = part_by (stop_at TooDeep too_deep) (stop_at TooDeep too_deep)
part_of (suc d) =
    part_by (λ ts. the OPEN_PAREN ts ⟫ list_by (value_by (part_of d))) (λ ts. the OPEN_BRACKET ts ⟫ record_by (value_by (part_of d)))

abbrev pub value_of : ℕ → List Token → Step
value_of d = value_by (part_of d)

abbrev pub depth_limit : ℕ
depth_limit = 8

unfoldable pub value : List Token → Step
value = value_of depth_limit

-- value { "," value }
unfoldable pub values : List Token → Step
values = values_by value

-- NAME { "::" NAME }
abbrev pub inner : List Token → Step
inner ts = the SCOPE ts ⟫ name

unfoldable pub scoped : List Token → Step
scoped ts = name ts ⟫ many (is SCOPE) inner

-- "=>" | "+=>"
unfoldable pub assigns : List Token → Step
assigns ts = cond (is ADDS ts) (the ADDS ts) (the BECOMES ts)

-- association = NAME { "::" NAME } ( "=>" | "+=>" ) value { "," value } ";"
unfoldable pub association : List Token → Step
association ts = scoped ts ⟫ assigns ⟫ values ⟫ the SEMICOLON

-- { association }
unfoldable pub associations : List Token → Step
associations = many named association

-- block = "{" { association } "}"
unfoldable pub block : List Token → Step
block ts = the OPEN_BRACE ts ⟫ associations ⟫ the CLOSE_BRACE
