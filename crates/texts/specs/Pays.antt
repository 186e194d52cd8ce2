-- What a whole text declares is paid for by its bytes: a text has 9 bytes at least for each row.
use Rattle.words.specs.Same.{same_kind}
use Rattle.std.specs.Prelude.{◌*◌, ◌≤◌, ◌&&◌}
use Rattle.common.specs.Words.{ℕ, arith, List, length, refl}
use Rattle.words.specs.Kinds.{ENDED, THREAD, PROCESS, IMPLEMENTATION, GROUP, ANNEX, PACKAGE, WITH, PROPERTIES, NONE}
use Rattle.tokens.specs.Tokens.{from}
use Rattle.tokens.specs.Laws.{cases}
use Rattle.steps.specs.Steps.{next, second, is}
use Rattle.steps.specs.Laws.{Moves, went, stopped, goes_none, moved_then, moved_less, moved_either, moves_the, moves_any}
use Rattle.steps.specs.Weights.{from_weighs}
use Rattle.values.specs.Laws.{associations_moves}
use Rattle.phrases.specs.Laws.{path_moves, paths_moves, annex_moves, nothing_moves}
use Rattle.rows.specs.Said.{quiet, no_props}
use Rattle.rows.specs.Pays.{PaidBy, Pays, paid_all, paid_less, paid_moved, pays_quiet, paid_onward, pays_apart, pays_repeat}
use Rattle.declarations.specs.Pays.{thread_type_pays, thread_implementation_pays, process_pays}
use Rattle.others.specs.Others.{path_end}
use Rattle.others.specs.Laws.{path_end_moves}
use Rattle.others.specs.Pays.{other_pays}
use Rattle.texts.specs.Texts.{thread_by, chosen, declaration, none_or_some, clause_kind, clause, part, begins_part, parts, package_head, packaged}
use Rattle.texts.specs.Texts.{piece, begins_piece, pieces, finished, whole_text}

-- ## Declarations

thread_by_pays : Pays 0 0 thread_by
unfolding thread_by
thread_by_pays ps ts =
    cases (PaidBy 0 0 ts) (same_kind (second ts) IMPLEMENTATION) (λ _. paid_less 0 0 (omega arith) (omega arith) (thread_implementation_pays ps ts))
    (λ _. cases (PaidBy 0 0 ts) (same_kind (second ts) GROUP) (λ _. paid_less 0 0 (omega arith) (omega arith) (other_pays ps ts))
    (λ _. paid_less 0 0 (omega arith) (omega arith) (thread_type_pays ps ts)))

chosen_pays : Pays 0 0 chosen
unfolding chosen
chosen_pays ps ts =
    cases (PaidBy 0 0 ts) (is THREAD ts) (λ _. thread_by_pays ps ts)
    (λ _. cases (PaidBy 0 0 ts) (is ANNEX ts) (λ _. paid_less 0 0 (omega arith) (omega arith) (paid_moved (annex_moves ts)))
    (λ _. cases (PaidBy 0 0 ts) (is PROCESS ts && same_kind (second ts) IMPLEMENTATION)
    (λ _. paid_less 0 0 (omega arith) (omega arith) (process_pays ps ts))
    (λ _. paid_less 0 0 (omega arith) (omega arith) (other_pays ps ts))))

pub declaration_pays : Pays 0 0 declaration
unfolding declaration
declaration_pays = pays_apart chosen chosen_pays

-- ## Packages

none_or_some_stays : Moves 0 none_or_some
unfolding none_or_some
none_or_some_stays ts = moved_either (is NONE ts) (moved_less 0 (omega arith) (nothing_moves ts)) (associations_moves ts)

clause_stays : Moves 0 clause
unfolding clause
clause_stays ts =
    moved_either (is WITH ts) (moved_less 0 (omega arith) (moved_then (moves_the WITH refl ts) paths_moves))
    (moved_either (is PROPERTIES ts) (moved_less 0 (omega arith)
    (moved_then (moves_the PROPERTIES refl ts) none_or_some_stays)) (moves_any ts))

part_pays : Pays 0 0 part
unfolding part
part_pays ps ts = cases (PaidBy 0 0 ts) (clause_kind (next ts)) (λ _. paid_moved (clause_stays ts)) (λ _. declaration_pays ps ts)

pub parts_pay : Pays 0 0 parts
unfolding parts
parts_pay = pays_repeat begins_part part part_pays

head_moves : Moves 2 package_head
head_moves ts = moved_then (moves_the PACKAGE refl ts) path_moves

pub packaged_pays : Pays 0 5 packaged
unfolding packaged
packaged_pays ps ts =
    paid_onward _ (quiet path_end) (paid_onward _ parts (paid_moved (head_moves ts)) parts_pay) (pays_quiet path_end path_end_moves)

-- ## The whole text

piece_pays : Pays 0 0 piece
unfolding piece
piece_pays ps ts =
    cases (PaidBy 0 0 ts) (is PACKAGE ts) (λ _. paid_less 0 0 (omega arith) (omega arith) (packaged_pays ps ts)) (λ _. declaration_pays ps ts)

pub pieces_pay : Pays 0 0 pieces
unfolding pieces
pieces_pay = pays_repeat begins_piece piece piece_pays

finished_stays : Moves 0 finished
unfolding finished
finished_stays ts = moved_either (is ENDED ts) (went (goes_none ts)) stopped

pub whole_pays : Pays 0 0 whole_text
unfolding whole_text
whole_pays ps ts = paid_onward _ (quiet finished) (pieces_pay ps ts) (pays_quiet finished finished_stays)

-- whether it is read to its end or not
pub room : (p : List ℕ) → 9 * length (whole_text no_props (from p 0)).rows ≤ length p
room p = omega (arith, paid_all (whole_pays no_props (from p 0)), from_weighs p 0)
