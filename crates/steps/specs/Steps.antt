-- Rules of a grammar: a rule is given the tokens from a place on, and says how they go on behind what it reads, or stops at a fault. Rules
-- in a row, a choice by the next token, a rule any number of times, and the rules of one token.
use Rattle.std.specs.Prelude.{◌∷◌}
use Rattle.common.specs.Words.{ℕ, zero, suc, Bool, cond, List, [], length, drop}
use Rattle.words.specs.declared.kinds.Kind.{Kind}
use Rattle.words.specs.Words.{is_name, NAME}
use Rattle.words.specs.Same.{same_kind}
use Rattle.words.specs.Kinds.{ENDED}
use Rattle.words.specs.Letters.{same}
use Rattle.tokens.specs.Tokens.{Token, token}
use Rattle.steps.specs.declared.faults.Rule.{Rule}
use Rattle.steps.specs.declared.faults.Rule.TheVariants.{Unfit}
use Rattle.steps.specs.declared.faults.Why.{Why}
use Rattle.steps.specs.declared.faults.Fault.{Fault}
use Rattle.steps.specs.Faults.{fault}

pub data Step : Type 0 where
  On : List Token → Step
  Stop : Fault → Step

infixl 40 ◌⟫◌
-- one rule after another
abbrev pub ◌⟫◌ : Step → (List Token → Step) → Step
On ts ⟫ rule = rule ts
Stop f ⟫ rule = Stop f

-- the first token; behind the last there is none
abbrev pub nothing : Token
nothing = token ENDED 0 []

abbrev pub head : List Token → Token
head [] = nothing
head (k ∷ ts) = k

-- the kinds of the first token and of the second
abbrev pub next : List Token → Kind
next ts = (head ts).kind

abbrev pub second : List Token → Kind
second ts = next (drop 1 ts)

abbrev pub is : Kind → List Token → Bool
is kind ts = same_kind (next ts) kind

abbrev pub named : List Token → Bool
named ts = is_name (next ts)

-- "What fits no rule is 20 at that token"
abbrev pub stop_at : Rule → Why → List Token → Step
stop_at rule why ts = Stop (fault rule (head ts).start why)

abbrev pub unfit : Why → List Token → Step
unfit why ts = stop_at Unfit why ts

-- the next token, whatever it is; the text's end stays
unfoldable pub any : List Token → Step
any ts = On (cond (is ENDED ts) ts (drop 1 ts))

-- the next token is of this kind
unfoldable pub the : Kind → List Token → Step
the kind ts = cond (is kind ts) (any ts) (unfit (Why.Expected kind) ts)

-- the next token is a NAME
unfoldable pub name : List Token → Step
name ts = cond (named ts) (any ts) (unfit (Why.Expected NAME) ts)

-- the next token is this NAME: "another name there fits no rule"
abbrev pub its_own : Why
its_own = Why.ItsOwn

unfoldable pub own : Token → List Token → Step
own k ts = cond (named ts) (cond (same (head ts).letters k.letters) (any ts) (unfit its_own ts)) (unfit its_own ts)

-- [ rule ], where the next tokens begin it
unfoldable pub optional : (List Token → Bool) → (List Token → Step) → List Token → Step
optional begins rule ts = let taken = rule ts in cond (begins ts) taken (On ts)

-- { rule }: again and again while the next tokens begin it; no more often than there are tokens (`many_step`: that is often enough)
unfoldable pub many_by : ℕ → (List Token → Bool) → (List Token → Step) → List Token → Step
many_by zero begins rule ts = On ts
many_by (suc n) begins rule ts = let more = rule ts ⟫ many_by n begins rule in cond (begins ts) more (On ts)

unfoldable pub many : (List Token → Bool) → (List Token → Step) → List Token → Step
many begins rule ts = many_by (suc (length ts)) begins rule ts
