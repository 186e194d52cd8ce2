-- The cycle of `values::skip_value`: a value calls its parts, a part that is a list or a record calls back with one bracket less to open.
use Rattle.std.specs.Prelude.{◌≡◌, ◌+◌, ◌*◌}
use Rattle.words.specs.Kinds.{COMMA}
use Rattle.steps.specs.Steps.{◌⟫◌, is as is_kind, named, many}
use Rattle.steps.specs.Lifted.{lift, size}
use Rattle.values.specs.Values.{begins_part, comma_by, field_by, part_of, value_of}
use Rattle.values.proofs.+skip_list_skip_part_skip_record_skip_value_skip_values.Given as goal

abbrev pub decreases-skip_list : goal.decreases-skip_list
decreases-skip_list l = 4 * l.depth + 3

abbrev pub decreases-skip_part : goal.decreases-skip_part
decreases-skip_part l = 4 * l.depth

abbrev pub decreases-skip_record : goal.decreases-skip_record
decreases-skip_record l = 4 * l.depth + 2

abbrev pub decreases-skip_value : goal.decreases-skip_value
decreases-skip_value l = 4 * l.depth + 1

abbrev pub decreases-skip_values : goal.decreases-skip_values
decreases-skip_values l = 4 * l.depth + 2

abbrev pub invariant-skip_record-loop-w : goal.invariant-skip_record-loop-w
invariant-skip_record-loop-w l =
    lift l.text l.w ⟫ many named (field_by (value_of l.depth)) ≡ lift l.text l.initial.w ⟫ many named (field_by (value_of l.depth))

abbrev pub decreases-skip_record-loop-w : goal.decreases-skip_record-loop-w
decreases-skip_record-loop-w l = size (lift l.text l.w)

abbrev pub invariant-skip_value-loop-w : goal.invariant-skip_value-loop-w
invariant-skip_value-loop-w l =
    lift l.text l.w ⟫ many begins_part (part_of l.depth) ≡ lift l.text l.initial.w ⟫ many begins_part (part_of l.depth)

abbrev pub decreases-skip_value-loop-w : goal.decreases-skip_value-loop-w
decreases-skip_value-loop-w l = size (lift l.text l.w)

abbrev pub invariant-skip_values-loop-w : goal.invariant-skip_values-loop-w
invariant-skip_values-loop-w l =
    lift l.text l.w ⟫ many (is_kind COMMA) (comma_by (value_of l.depth))
    ≡ lift l.text l.initial.w ⟫ many (is_kind COMMA) (comma_by (value_of l.depth))

abbrev pub decreases-skip_values-loop-w : goal.decreases-skip_values-loop-w
decreases-skip_values-loop-w l = size (lift l.text l.w)
