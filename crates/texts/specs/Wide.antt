-- Every row that a text declares has all its columns, and no Priority over 255.
use Rattle.words.specs.Same.{same_kind}
use Rattle.std.specs.Prelude.{◌&&◌}
use Rattle.common.specs.Words.{[], refl}
use Rattle.words.specs.Kinds.{THREAD, PROCESS, IMPLEMENTATION, GROUP, ANNEX, PACKAGE}
use Rattle.tokens.specs.Laws.{cases}
use Rattle.steps.specs.Steps.{next, second, is, any}
use Rattle.rows.specs.Said.{quiet}
use Rattle.rows.specs.Wide.{Wide, WideOn, wide_silent, wide_quiet, wide_onward, wide_apart, wide_repeat}
use Rattle.declarations.specs.Wide.{thread_type_wide, thread_implementation_wide, process_wide}
use Rattle.others.specs.Others.{outside_kind, passing, path_end, other}
use Rattle.others.specs.Pays.{passing_silent}
use Rattle.texts.specs.Texts.{thread_by, chosen, declaration, clause_kind, part, begins_part, parts, package_head, packaged, piece, begins_piece}
use Rattle.texts.specs.Texts.{pieces, finished, whole_text}

other_wide : WideOn other
unfolding other
other_wide ps ts =
    wide_onward _ (quiet path_end)
    (wide_onward _ (passing (outside_kind (next ts)) []) (wide_quiet any ps ts)
    (λ qs us. let q = passing_silent (outside_kind (next ts)) [] qs us in wide_silent _ q.0 (λ l. rw q.1 l)))
    (wide_quiet path_end)

thread_by_wide : WideOn thread_by
unfolding thread_by
thread_by_wide ps ts =
    cases (Wide ps) (same_kind (second ts) IMPLEMENTATION) (λ _. thread_implementation_wide ps ts)
    (λ _. cases (Wide ps) (same_kind (second ts) GROUP) (λ _. other_wide ps ts) (λ _. thread_type_wide ps ts))

chosen_wide : WideOn chosen
unfolding chosen
chosen_wide ps ts =
    cases (Wide ps) (is THREAD ts) (λ _. thread_by_wide ps ts)
    (λ _. cases (Wide ps) (is ANNEX ts) (λ _. wide_silent _ refl (λ l. l))
    (λ _. cases (Wide ps) (is PROCESS ts && same_kind (second ts) IMPLEMENTATION) (λ _. process_wide ps ts) (λ _. other_wide ps ts)))

declaration_wide : WideOn declaration
unfolding declaration
declaration_wide = wide_apart chosen chosen_wide

part_wide : WideOn part
unfolding part
part_wide ps ts = cases (Wide ps) (clause_kind (next ts)) (λ _. wide_silent _ refl (λ l. l)) (λ _. declaration_wide ps ts)

parts_wide : WideOn parts
unfolding parts
parts_wide = wide_repeat begins_part part part_wide

packaged_wide : WideOn packaged
unfolding packaged
packaged_wide ps ts = wide_onward _ (quiet path_end) (wide_onward _ parts (wide_quiet package_head ps ts) parts_wide) (wide_quiet path_end)

piece_wide : WideOn piece
unfolding piece
piece_wide ps ts = cases (Wide ps) (is PACKAGE ts) (λ _. packaged_wide ps ts) (λ _. declaration_wide ps ts)

pieces_wide : WideOn pieces
unfolding pieces
pieces_wide = wide_repeat begins_piece piece piece_wide

pub whole_wide : WideOn whole_text
unfolding whole_text
whole_wide ps ts = wide_onward _ (quiet finished) (pieces_wide ps ts) (wide_quiet finished)
