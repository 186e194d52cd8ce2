-- Laws of values: each rule goes on by a token at least, and rules in a row begin from what a rule has said.
use Rattle.steps.specs.declared.faults.Rule.TheVariants.{TooDeep}
use Rattle.words.specs.Same.{same_kind, kind_differs, kind_not}
use Rattle.words.specs.declared.kinds.Kind.{Kind}
use Rattle.std.specs.Prelude.{◌-◌, ◌<◌, ◌≤◌, ◌⊎◌, ◌≡◌}
use Rattle.common.specs.Words.{ℕ, zero, suc, arith, true, false, true≢false, cond, List, ⊎_elim, refl, sym, ◌∙◌}
use Rattle.words.specs.Kinds.{ENDED, ADDS, BECOMES, SCOPE, COMMA, SEMICOLON, OPEN_PAREN, CLOSE_PAREN, OPEN_BRACKET, CLOSE_BRACKET, OPEN_BRACE}
use Rattle.words.specs.Kinds.{CLOSE_BRACE}
use Rattle.tokens.specs.Tokens.{Token}
use Rattle.tokens.specs.Laws.{cases}
use Rattle.steps.specs.Steps.{Step, On, Stop, ◌⟫◌, next, is, named, stop_at, unfit, any, the, name, many}
use Rattle.steps.specs.Lifted.{first_kind}
use Rattle.steps.specs.Laws.{Moved, Moves, advances, stopped, moved_any, moved_then, moved_less, moved_either, moves_the, moves_name, moves_many}
use Rattle.steps.specs.Laws.{then_then, choose_on, choose_off, kind_on, kind_off, is_on, is_off}
use Rattle.common.specs.Tests.{lt_or_le}
use Rattle.values.specs.Values.{a_value, too_deep, part_kind, begins_part, value_by, comma_by, values_by, list_by, field_by, record_by, part_by}
use Rattle.values.specs.Values.{part_of, value_of, value, values, inner, scoped, assigns, association, associations, block}

-- a kind that is none of the text's end
the_moves : (kind : Kind) → same_kind kind ENDED ≡ false → Moves 0 (the kind)
the_moves kind n ts = moved_less 0 (omega arith) (moves_the kind n ts)

not_ended : (k : Kind) → part_kind k ≡ true → same_kind k ENDED ≡ false
unfolding part_kind
not_ended k h = kind_differs k ENDED (λ e. true≢false (sym h ∙ rw e))

atom_moves : (ts : List Token) → Moved 1 ts (cond (begins_part ts) (any ts) (unfit a_value ts))
atom_moves ts = cases (Moved 1 ts) (begins_part ts) (λ h. moved_any ts (not_ended (next ts) h)) (λ _. stopped)

part_by_moves : (list fields : List Token → Step) → Moves 1 list → Moves 1 fields → Moves 1 (part_by list fields)
unfolding part_by
part_by_moves list fields l f ts = moved_either (is OPEN_PAREN ts) (l ts) (moved_either (is OPEN_BRACKET ts) (f ts) (atom_moves ts))

module _ (v : List Token → Step) (m : Moves 1 v) where
  pub comma_moves : Moves 2 (comma_by v)
  comma_moves ts = moved_then (moves_the COMMA refl ts) m

  pub values_by_moves : Moves 1 (values_by v)
  unfolding values_by
  values_by_moves ts = moved_then (m ts) (moves_many (is COMMA) (comma_by v) (advances (is COMMA) comma_moves))

  pub field_moves : Moves 1 (field_by v)
  field_moves ts =
      moved_less 1 (omega arith)
      (moved_then (moved_then (moved_then (moves_name ts) (the_moves BECOMES refl)) m) (the_moves SEMICOLON refl))

  list_moves : Moves 1 (list_by v)
  unfolding list_by
  list_moves ts =
      moved_either (is CLOSE_PAREN ts) (moves_the CLOSE_PAREN refl ts)
      (moved_less 1 (omega arith) (moved_then (values_by_moves ts) (the_moves CLOSE_PAREN refl)))

  record_moves : Moves 1 (record_by v)
  unfolding record_by
  record_moves ts = moved_then (moves_many named (field_by v) (advances named field_moves) ts) (moves_the CLOSE_BRACKET refl)

value_by_moves : (p : List Token → Step) → Moves 1 p → Moves 1 (value_by p)
unfolding value_by
value_by_moves p m ts = moved_then (m ts) (moves_many begins_part p (advances begins_part m))

pub part_moves : (d : ℕ) → Moves 1 (part_of d)
unfolding part_of
part_moves zero = part_by_moves (stop_at TooDeep too_deep) (stop_at TooDeep too_deep) (λ ts. stopped) (λ ts. stopped)
part_moves (suc d) =
    let m = value_by_moves (part_of d) (part_moves d) in
    part_by_moves (λ ts. the OPEN_PAREN ts ⟫ list_by (value_of d)) (λ ts. the OPEN_BRACKET ts ⟫ record_by (value_of d))
    (λ ts. moved_less 1 (omega arith) (moved_then (moves_the OPEN_PAREN refl ts) (list_moves (value_of d) m)))
    (λ ts. moved_less 1 (omega arith) (moved_then (moves_the OPEN_BRACKET refl ts) (record_moves (value_of d) m)))

pub value_of_moves : (d : ℕ) → Moves 1 (value_of d)
value_of_moves d = value_by_moves (part_of d) (part_moves d)

pub value_moves : Moves 1 value
unfolding value
value_moves = value_of_moves 8

values_moves : Moves 1 values
unfolding values
values_moves = values_by_moves value value_moves

pub inner_moves : Moves 1 inner
inner_moves ts = moved_less 1 (omega arith) (moved_then (moves_the SCOPE refl ts) moves_name)

pub scoped_moves : Moves 1 scoped
unfolding scoped
scoped_moves ts = moved_then (moves_name ts) (moves_many (is SCOPE) inner (advances (is SCOPE) inner_moves))

assigns_moves : Moves 0 assigns
unfolding assigns
assigns_moves ts = moved_either (is ADDS ts) (the_moves ADDS refl ts) (the_moves BECOMES refl ts)

pub association_moves : Moves 1 association
unfolding association
association_moves ts =
    moved_less 1 (omega arith) (moved_then (moved_then (moved_then (scoped_moves ts) assigns_moves) values_moves)
    (the_moves SEMICOLON refl))

pub associations_moves : Moves 0 associations
unfolding associations
associations_moves = moves_many named association (advances named association_moves)

pub block_moves : Moves 1 block
unfolding block
block_moves ts =
    moved_less 1 (omega arith) (moved_then (moved_then (moves_the OPEN_BRACE refl ts) associations_moves)
    (the_moves CLOSE_BRACE refl))

-- ## Rules in a row

pub association_then : (s : Step) → s ⟫ scoped ⟫ assigns ⟫ values ⟫ the SEMICOLON ≡ s ⟫ association
unfolding association
association_then (On ts) = refl
association_then (Stop f) = refl

pub block_then : (s : Step) → s ⟫ the OPEN_BRACE ⟫ associations ⟫ the CLOSE_BRACE ≡ s ⟫ block
unfolding block
block_then (On ts) = refl
block_then (Stop f) = refl

pub scoped_then : (s : Step) → (s ⟫ name) ⟫ many (is SCOPE) inner ≡ s ⟫ scoped
unfolding scoped
scoped_then (On ts) = refl
scoped_then (Stop f) = refl

pub value_then : (d : ℕ) (s : Step) → (s ⟫ part_of d) ⟫ many begins_part (part_of d) ≡ s ⟫ value_of d
unfolding value_by
value_then d (On ts) = refl
value_then d (Stop f) = refl

pub values_then : (v : List Token → Step) (s : Step) → (s ⟫ v) ⟫ many (is COMMA) (comma_by v) ≡ s ⟫ values_by v
unfolding values_by
values_then v (On ts) = refl
values_then v (Stop f) = refl

pub field_then : (v : List Token → Step) (s : Step) → s ⟫ name ⟫ the BECOMES ⟫ v ⟫ the SEMICOLON ≡ s ⟫ field_by v
field_then v (On ts) = refl
field_then v (Stop f) = refl

pub record_then : (v : List Token → Step) (s : Step) → (s ⟫ many named (field_by v)) ⟫ the CLOSE_BRACKET ≡ s ⟫ record_by v
unfolding record_by
record_then v (On ts) = refl
record_then v (Stop f) = refl

-- ## Choices as the code makes them

pub assigns_adds : (s : Step) → same_kind (first_kind s) ADDS ≡ true → s ⟫ the ADDS ≡ s ⟫ assigns
unfolding assigns
assigns_adds s e = choose_on (is ADDS) (the ADDS) (the BECOMES) s (is_on ADDS s refl e)

pub assigns_becomes : (s : Step) → same_kind (first_kind s) ADDS ≡ false → s ⟫ the BECOMES ≡ s ⟫ assigns
unfolding assigns
assigns_becomes s n = choose_off (is ADDS) (the ADDS) (the BECOMES) s (is_off ADDS s n)

module _ (v : List Token → Step) (s : Step) where
  pub list_ends : same_kind (first_kind s) CLOSE_PAREN ≡ true → s ⟫ the CLOSE_PAREN ≡ s ⟫ list_by v
  unfolding list_by
  list_ends e = choose_on (is CLOSE_PAREN) (the CLOSE_PAREN) (λ ts. values_by v ts ⟫ the CLOSE_PAREN) s (is_on CLOSE_PAREN s refl e)

  pub list_goes : same_kind (first_kind s) CLOSE_PAREN ≡ false → s ⟫ values_by v ⟫ the CLOSE_PAREN ≡ s ⟫ list_by v
  unfolding list_by
  list_goes n =
      then_then s (values_by v) (the CLOSE_PAREN)
      ∙ choose_off (is CLOSE_PAREN) (the CLOSE_PAREN) (λ ts. values_by v ts ⟫ the CLOSE_PAREN) s (is_off CLOSE_PAREN s n)

module _ (list fields : List Token → Step) (s : Step) where
  other : List Token → Step
  other ts = cond (is OPEN_BRACKET ts) (fields ts) (cond (begins_part ts) (any ts) (unfit a_value ts))

  atom : List Token → Step
  atom ts = cond (begins_part ts) (any ts) (unfit a_value ts)

  part_list : same_kind (first_kind s) OPEN_PAREN ≡ true → s ⟫ list ≡ s ⟫ part_by list fields
  unfolding part_by other
  part_list e = choose_on (is OPEN_PAREN) list other s (is_on OPEN_PAREN s refl e)

  part_record : same_kind (first_kind s) OPEN_BRACKET ≡ true → s ⟫ fields ≡ s ⟫ part_by list fields
  unfolding part_by other atom
  part_record e =
      choose_on (is OPEN_BRACKET) fields atom s (is_on OPEN_BRACKET s refl e)
      ∙ choose_off (is OPEN_PAREN) list other s (is_off OPEN_PAREN s (kind_not _ OPEN_BRACKET OPEN_PAREN e refl))

  part_rest : same_kind (first_kind s) OPEN_PAREN ≡ false → same_kind (first_kind s) OPEN_BRACKET ≡ false → s ⟫ atom ≡
      s ⟫ part_by list fields
  unfolding part_by other atom
  part_rest n m =
      choose_off (is OPEN_BRACKET) fields atom s (is_off OPEN_BRACKET s m) ∙ choose_off (is OPEN_PAREN) list other s (is_off OPEN_PAREN s n)

part_none : part_of 0 ≡ part_by (stop_at TooDeep too_deep) (stop_at TooDeep too_deep)
unfolding part_of
part_none = refl

part_some : (d : ℕ) → 0 < d →
    part_of d ≡ part_by (λ ts. the OPEN_PAREN ts ⟫ list_by (value_of (d - 1))) (λ ts. the OPEN_BRACKET ts ⟫ record_by (value_of (d - 1)))
unfolding part_of
part_some zero h = absurd (omega arith)
part_some (suc d) h = let e : suc d - 1 ≡ d = omega arith in rw e

module _ (d : ℕ) (s : Step) where
  pub part_too_deep : d ≡ 0 →
      (same_kind (first_kind s) OPEN_PAREN ≡ true) ⊎ (same_kind (first_kind s) OPEN_BRACKET ≡ true) → s ⟫ stop_at TooDeep too_deep ≡
      s ⟫ part_of d
  part_too_deep z h =
      rw (z, part_none)
      (⊎_elim (λ (e : same_kind (first_kind s) OPEN_PAREN ≡ true). part_list (stop_at TooDeep too_deep) (stop_at TooDeep too_deep) s e)
      (λ (e : same_kind (first_kind s) OPEN_BRACKET ≡ true). part_record (stop_at TooDeep too_deep) (stop_at TooDeep too_deep) s e) h)

  pub part_opens : 0 < d → same_kind (first_kind s) OPEN_PAREN ≡ true → s ⟫ the OPEN_PAREN ⟫ list_by (value_of (d - 1)) ≡ s ⟫ part_of d
  part_opens h e = rw (part_some d h) (then_then s (the OPEN_PAREN) (list_by (value_of (d - 1))) ∙ part_list _ _ s e)

  pub part_holds : 0 < d → same_kind (first_kind s) OPEN_BRACKET ≡ true → s ⟫ the OPEN_BRACKET ⟫ record_by (value_of (d - 1)) ≡
      s ⟫ part_of d
  part_holds h e = rw (part_some d h) (then_then s (the OPEN_BRACKET) (record_by (value_of (d - 1))) ∙ part_record _ _ s e)

  part_by_lem : same_kind (first_kind s) OPEN_PAREN ≡ false → same_kind (first_kind s) OPEN_BRACKET ≡ false →
      s ⟫ (λ ts. cond (begins_part ts) (any ts) (unfit a_value ts)) ≡ s ⟫ part_of d
  unfolding atom
  part_by_lem n m =
      ⊎_elim (λ (l : 0 < d). rw (part_some d l) (part_rest _ _ s n m)) (λ (g : d ≤ 0). let z : d ≡ 0 = omega arith in
      rw (z, part_none) (part_rest _ _ s n m)) (lt_or_le 0 d)

  pub part_atom : same_kind (first_kind s) OPEN_PAREN ≡ false → same_kind (first_kind s) OPEN_BRACKET ≡ false →
      part_kind (first_kind s) ≡ true → s ⟫ any ≡ s ⟫ part_of d
  unfolding part_kind
  part_atom n m h = choose_on begins_part any (unfit a_value) s (kind_on part_kind s refl h) ∙ part_by_lem n m

  pub part_unfit : same_kind (first_kind s) OPEN_PAREN ≡ false → same_kind (first_kind s) OPEN_BRACKET ≡ false →
      part_kind (first_kind s) ≡ false → s ⟫ unfit a_value ≡ s ⟫ part_of d
  part_unfit n m h = choose_off begins_part any (unfit a_value) s (kind_off part_kind s h) ∙ part_by_lem n m
