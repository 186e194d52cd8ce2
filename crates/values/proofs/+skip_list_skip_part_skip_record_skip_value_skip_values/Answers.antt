-- The cycle of `values::skip_value`: a value calls its parts, a part that is a list or a record calls back with one bracket less to open.
use Rattle.words.specs.Kinds.{CLOSE_PAREN, OPEN_BRACKET, OPEN_PAREN}
use Rattle.words.specs.Same.{told_eq}
use Rattle.words.specs.Same.{kind_eq}
use Rattle.common.specs.Words.{rules, refl, sym, ◌∙◌, arith, inl, inr}
use Rattle.words.specs.Words.{is_name}
use Rattle.words.specs.Kinds.{COMMA}
use Rattle.steps.specs.Steps.{is as is_kind, named, the}
use Rattle.steps.specs.Lifted.{lift}
use Rattle.steps.specs.Laws.{then_then, kind_on, kind_off, is_on, is_off, advances, many_on, many_off, many_less}
use Rattle.values.specs.Values.{part_kind, begins_part, comma_by, field_by, part_of, value_of}
use Rattle.values.specs.Laws.{part_moves, value_of_moves, comma_moves, field_moves, value_then, values_then, field_then, record_then, list_ends}
use Rattle.values.specs.Laws.{list_goes, part_too_deep, part_opens, part_holds, part_atom, part_unfit}
use Rattle.values.proofs.+skip_list_skip_part_skip_record_skip_value_skip_values.Goals as goal

pub skip_list-returns-then-eq : goal.skip_list-returns-then-eq
unfolding part_kind
skip_list-returns-then-eq t c =
    let a = c.args in
    rw c.symbol.ensures (list_ends (value_of a.depth) (lift a.text.now a.went) (told_eq CLOSE_PAREN c.next.ensures c.if-eq.ensures))

pub skip_list-returns : goal.skip_list-returns
unfolding part_kind
skip_list-returns t c =
    let a = c.args in
    rw (c.symbol-2.ensures, c.skip_values.ensures)
    (list_goes (value_of a.depth) (lift a.text.now a.went) (told_eq CLOSE_PAREN c.next.ensures c.if-eq.ensures))

pub skip_part-returns-then-depth-eq0 : goal.skip_part-returns-then-depth-eq0
unfolding part_kind
skip_part-returns-then-depth-eq0 t c =
    let a = c.args in
    rw c.stop.ensures (part_too_deep a.depth (lift a.text.now a.went) c.if-depth-eq0.true
    (inl (told_eq OPEN_PAREN c.next-kind.ensures c.if-eq.ensures)))

pub skip_part-returns-then-eq : goal.skip_part-returns-then-eq
unfolding part_kind
skip_part-returns-then-eq t c =
    let a = c.args in
    rw (c.skip_list.ensures, c.symbol.ensures)
    (part_opens a.depth (lift a.text.now a.went) (search rules) (told_eq OPEN_PAREN c.next-kind.ensures c.if-eq.ensures))

pub skip_part-returns-then-depth-eq0-2 : goal.skip_part-returns-then-depth-eq0-2
unfolding part_kind
skip_part-returns-then-depth-eq0-2 t c =
    let a = c.args in
    rw c.stop-then-depth-eq0-2.ensures (part_too_deep a.depth (lift a.text.now a.went) c.if-depth-eq0-2.true
    (inr (told_eq OPEN_BRACKET c.next-kind.ensures c.if-eq-2.ensures)))

pub skip_part-returns-then-eq-2 : goal.skip_part-returns-then-eq-2
unfolding part_kind
skip_part-returns-then-eq-2 t c =
    let a = c.args in
    rw (c.skip_record.ensures, c.symbol-then-eq-2.ensures)
    (part_holds a.depth (lift a.text.now a.went) (search rules) (told_eq OPEN_BRACKET c.next-kind.ensures c.if-eq-2.ensures))

pub skip_part-returns-then-begins_part : goal.skip_part-returns-then-begins_part
unfolding part_kind
skip_part-returns-then-begins_part t c =
    let a = c.args in
    rw c.any.ensures
    (part_atom a.depth (lift a.text.now a.went) (told_eq OPEN_PAREN c.next-kind.ensures c.if-eq.ensures)
    (told_eq OPEN_BRACKET c.next-kind.ensures c.if-eq-2.ensures)
    (rw (← c.next-kind.ensures, ← c.begins_part.ensures) c.if-begins_part.true))

pub skip_part-returns : goal.skip_part-returns
unfolding part_kind
skip_part-returns t c =
    let a = c.args in
    rw c.stop-2.ensures
    (part_unfit a.depth (lift a.text.now a.went) (told_eq OPEN_PAREN c.next-kind.ensures c.if-eq.ensures)
    (told_eq OPEN_BRACKET c.next-kind.ensures c.if-eq-2.ensures)
    (rw (← c.next-kind.ensures, ← c.begins_part.ensures) c.if-begins_part.false))

pub skip_record-loop-w-smaller : goal.skip_record-loop-w-smaller
unfolding part_kind
skip_record-loop-w-smaller t c =
    let a = c.args in
    let s = lift a.text.now c.loop-w.w in
    rw (c.symbol-w.ensures, c.skip_value.ensures, c.symbol-assigned.ensures, c.name.ensures, field_then (value_of a.depth) s)
    (many_less named (field_by (value_of a.depth)) (advances named (field_moves (value_of a.depth) (value_of_moves a.depth))) s
    (kind_on is_name s refl (rw (← c.next.ensures, ← c.is_name.ensures) c.loop-w-test.true)))

pub skip_record-loop-w-preserved : goal.skip_record-loop-w-preserved
unfolding part_kind
skip_record-loop-w-preserved t c =
    let a = c.args in
    let s = lift a.text.now c.loop-w.w in
    rw (c.symbol-w.ensures, c.skip_value.ensures, c.symbol-assigned.ensures, c.name.ensures, field_then (value_of a.depth) s)
    (many_on named (field_by (value_of a.depth)) (advances named (field_moves (value_of a.depth) (value_of_moves a.depth))) s
    (kind_on is_name s refl (rw (← c.next.ensures, ← c.is_name.ensures) c.loop-w-test.true)) ∙ c.loop-w.invariant)

pub skip_record-returns : goal.skip_record-returns
unfolding part_kind
skip_record-returns t c =
    let a = c.args in
    let s = lift a.text.now c.loop-w.w in
    rw (
      c.symbol.ensures,
      many_off named (field_by (value_of a.depth))
          (advances named (field_moves (value_of a.depth) (value_of_moves a.depth))) s
          (kind_off is_name s (rw (← c.next.ensures, ← c.is_name.ensures) c.loop-w-test.false)) ∙ c.loop-w.invariant,
    )
    (record_then (value_of a.depth) (lift a.text.now a.went))

pub skip_value-loop-w-smaller : goal.skip_value-loop-w-smaller
unfolding part_kind
skip_value-loop-w-smaller t c =
    let a = c.args in
    let s = lift a.text.now c.loop-w.w in
    rw c.skip_part-w-in-loop-w.ensures
    (many_less begins_part (part_of a.depth) (advances begins_part (part_moves a.depth)) s
    (kind_on part_kind s refl (rw (← c.next.ensures, ← c.begins_part.ensures) c.loop-w-test.true)))

pub skip_value-loop-w-preserved : goal.skip_value-loop-w-preserved
unfolding part_kind
skip_value-loop-w-preserved t c =
    let a = c.args in
    let s = lift a.text.now c.loop-w.w in
    rw c.skip_part-w-in-loop-w.ensures
    (many_on begins_part (part_of a.depth) (advances begins_part (part_moves a.depth)) s
    (kind_on part_kind s refl (rw (← c.next.ensures, ← c.begins_part.ensures) c.loop-w-test.true)) ∙ c.loop-w.invariant)

pub skip_value-returns : goal.skip_value-returns
unfolding part_kind
skip_value-returns t c =
    let a = c.args in
    let s = lift a.text.now c.loop-w.w in
    many_off begins_part (part_of a.depth) (advances begins_part (part_moves a.depth)) s
    (kind_off part_kind s (rw (← c.next.ensures, ← c.begins_part.ensures) c.loop-w-test.false))
    ∙ c.loop-w.invariant ∙ rw c.skip_part-w.ensures (value_then a.depth (lift a.text.now a.went))

pub skip_values-loop-w-smaller : goal.skip_values-loop-w-smaller
unfolding part_kind
skip_values-loop-w-smaller t c =
    let a = c.args in
    let s = lift a.text.now c.loop-w.w in
    rw (c.skip_value-w-in-loop-w.ensures, c.symbol.ensures, then_then s (the COMMA) (value_of a.depth))
    (many_less (is_kind COMMA) (comma_by (value_of a.depth)) (advances (is_kind COMMA) (comma_moves (value_of a.depth) (value_of_moves a.depth)))
    s (is_on COMMA s refl (told_eq COMMA c.next.ensures c.loop-w-test.ensures)))

pub skip_values-loop-w-preserved : goal.skip_values-loop-w-preserved
unfolding part_kind
skip_values-loop-w-preserved t c =
    let a = c.args in
    let s = lift a.text.now c.loop-w.w in
    rw (c.skip_value-w-in-loop-w.ensures, c.symbol.ensures, then_then s (the COMMA) (value_of a.depth))
    (many_on (is_kind COMMA) (comma_by (value_of a.depth)) (advances (is_kind COMMA) (comma_moves (value_of a.depth) (value_of_moves a.depth)))
    s (is_on COMMA s refl (told_eq COMMA c.next.ensures c.loop-w-test.ensures)) ∙ c.loop-w.invariant)

pub skip_values-returns : goal.skip_values-returns
unfolding part_kind
skip_values-returns t c =
    let a = c.args in
    let s = lift a.text.now c.loop-w.w in
    many_off (is_kind COMMA) (comma_by (value_of a.depth)) (advances (is_kind COMMA) (comma_moves (value_of a.depth) (value_of_moves a.depth))) s
    (is_off COMMA s (told_eq COMMA c.next.ensures c.loop-w-test.ensures))
    ∙ c.loop-w.invariant ∙ rw c.skip_value-w.ensures (values_then (value_of a.depth) (lift a.text.now a.went))
