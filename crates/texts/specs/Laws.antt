-- Laws of whole texts: what the code does one after another and by choice is what the rules say, and how far they go.
use Rattle.steps.specs.declared.faults.Rule.TheVariants.{Unfit}
use Rattle.words.specs.Same.{kind_differs}
use Rattle.words.specs.Same.{same_kind}
use Rattle.std.specs.Prelude.{◌≡◌, ◌&&◌}
use Rattle.common.specs.Words.{arith, true, false, true≢false, List, refl, sym, ap, ◌∙◌}
use Rattle.words.specs.Kinds.{ENDED, THREAD, PROCESS, IMPLEMENTATION, GROUP, ANNEX, PACKAGE, WITH, PROPERTIES, NONE}
use Rattle.tokens.specs.Tokens.{Token}
use Rattle.tokens.specs.Laws.{cases}
use Rattle.steps.specs.Steps.{Step, On, Stop, ◌⟫◌, next, second, is, any, the, stop_at}
use Rattle.steps.specs.Lifted.{first_kind, second_kind, holds}
use Rattle.steps.specs.Laws.{Moved, Moves, moved_any, moved_then, moved_less, moved_either, moves_the, kind_on, kind_off}
use Rattle.values.specs.Values.{associations}
use Rattle.values.specs.Laws.{associations_moves}
use Rattle.phrases.specs.Phrases.{path, paths, annex, nothing}
use Rattle.phrases.specs.Laws.{path_moves, paths_moves, annex_moves, nothing_moves}
use Rattle.rows.specs.Said.{Said, quiet, ◌⨟◌}
use Rattle.rows.specs.States.{State, does}
use Rattle.rows.specs.Laws.{MovesOn, AdvancesOn, advances_on, moved_onward, moves_quiet, moves_apart, moves_repeat, by_went, does_then}
use Rattle.declarations.specs.Declarations.{thread_type, thread_implementation, process_implementation}
use Rattle.declarations.specs.Laws.{thread_type_moves, thread_implementation_moves, process_moves}
use Rattle.others.specs.Others.{other_kind, path_end, other}
use Rattle.others.specs.Laws.{path_end_moves, other_moves}
use Rattle.texts.specs.Texts.{declaration_kind, thread_by, chosen, declaration, none_or_some, clause_kind, clause, part_kind, part, begins_part}
use Rattle.texts.specs.Texts.{parts, package_head, packaged, piece_kind, piece, begins_piece, pieces, a_declaration, finished, whole_text}

-- ## Which part or piece begins

-- the text's end begins none
part_ended : part_kind ENDED ≡ false
unfolding part_kind clause_kind declaration_kind other_kind
part_ended = refl

piece_ended : piece_kind ENDED ≡ false
unfolding piece_kind declaration_kind other_kind
piece_ended = refl

module _ (s : Step) where
  pub part_on : part_kind (first_kind s) ≡ true → holds begins_part s ≡ true
  part_on h = kind_on part_kind s part_ended h

  pub part_off : part_kind (first_kind s) ≡ false → holds begins_part s ≡ false
  part_off h = kind_off part_kind s h

  pub piece_on : piece_kind (first_kind s) ≡ true → holds begins_piece s ≡ true
  piece_on h = kind_on piece_kind s piece_ended h

  pub piece_off : piece_kind (first_kind s) ≡ false → holds begins_piece s ≡ false
  piece_off h = kind_off piece_kind s h

-- ## What the code does in a declaration

module _ (s : State) where
  pub thread_by_implementation : same_kind (second_kind s.went) IMPLEMENTATION ≡ true → does s thread_implementation ≡ does s thread_by
  unfolding does thread_by
  thread_by_implementation =
      by_went (λ (s : State). same_kind (second_kind s.went) IMPLEMENTATION ≡ true → does s thread_implementation ≡ does s thread_by)
      (λ ts qs x t e. rw e) (λ f qs x t e. refl) s

  pub thread_by_group : same_kind (second_kind s.went) IMPLEMENTATION ≡ false → same_kind (second_kind s.went) GROUP ≡ true →
      does s other ≡ does s thread_by
  unfolding does thread_by
  thread_by_group =
      by_went (λ (s : State). same_kind (second_kind s.went) IMPLEMENTATION ≡ false →
      same_kind (second_kind s.went) GROUP ≡ true → does s other ≡ does s thread_by)
      (λ ts qs x t n e. rw (n, e)) (λ f qs x t n e. refl) s

  pub thread_by_type : same_kind (second_kind s.went) IMPLEMENTATION ≡ false →
      same_kind (second_kind s.went) GROUP ≡ false → does s thread_type ≡ does s thread_by
  unfolding does thread_by
  thread_by_type =
      by_went (λ (s : State). same_kind (second_kind s.went) IMPLEMENTATION ≡ false →
      same_kind (second_kind s.went) GROUP ≡ false → does s thread_type ≡ does s thread_by)
      (λ ts qs x t n m. rw (n, m)) (λ f qs x t n m. refl) s

  pub chosen_thread : same_kind (first_kind s.went) THREAD ≡ true → does s thread_by ≡ does s chosen
  unfolding does chosen
  chosen_thread =
      by_went (λ (s : State). same_kind (first_kind s.went) THREAD ≡ true → does s thread_by ≡ does s chosen)
      (λ ts qs x t e. rw e) (λ f qs x t e. refl) s

  pub chosen_annex : same_kind (first_kind s.went) THREAD ≡ false → same_kind (first_kind s.went) ANNEX ≡ true → does s (quiet annex) ≡
      does s chosen
  unfolding does chosen
  chosen_annex =
      by_went (λ (s : State). same_kind (first_kind s.went) THREAD ≡ false → same_kind (first_kind s.went) ANNEX ≡ true →
      does s (quiet annex) ≡ does s chosen)
      (λ ts qs x t n e. rw (n, e)) (λ f qs x t n e. refl) s

  pub chosen_process : same_kind (first_kind s.went) THREAD ≡ false → same_kind (first_kind s.went) ANNEX ≡ false →
      (same_kind (first_kind s.went) PROCESS && same_kind (second_kind s.went) IMPLEMENTATION) ≡ true → does s process_implementation ≡
      does s chosen
  unfolding does chosen
  chosen_process =
      by_went (λ (s : State). same_kind (first_kind s.went) THREAD ≡ false → same_kind (first_kind s.went) ANNEX ≡ false →
      (same_kind (first_kind s.went) PROCESS && same_kind (second_kind s.went) IMPLEMENTATION) ≡ true → does s process_implementation ≡
      does s chosen)
      (λ ts qs x t n m h. rw (n, m, h)) (λ f qs x t n m h. refl) s

  pub chosen_other : same_kind (first_kind s.went) THREAD ≡ false → same_kind (first_kind s.went) ANNEX ≡ false →
      (same_kind (first_kind s.went) PROCESS && same_kind (second_kind s.went) IMPLEMENTATION) ≡ false → does s other ≡ does s chosen
  unfolding does chosen
  chosen_other =
      by_went (λ (s : State). same_kind (first_kind s.went) THREAD ≡ false → same_kind (first_kind s.went) ANNEX ≡ false →
      (same_kind (first_kind s.went) PROCESS && same_kind (second_kind s.went) IMPLEMENTATION) ≡ false → does s other ≡ does s chosen)
      (λ ts qs x t n m h. rw (n, m, h)) (λ f qs x t n m h. refl) s

-- ## In a package

pub none_on : (s : Step) → same_kind (first_kind s) NONE ≡ true → s ⟫ nothing ≡ s ⟫ none_or_some
unfolding none_or_some
none_on (On ts) e = rw e
none_on (Stop f) e = refl

pub none_off : (s : Step) → same_kind (first_kind s) NONE ≡ false → s ⟫ associations ≡ s ⟫ none_or_some
unfolding none_or_some
none_off (On ts) n = rw n
none_off (Stop f) n = refl

pub clause_with : (s : Step) → same_kind (first_kind s) WITH ≡ true → s ⟫ the WITH ⟫ paths ≡ s ⟫ clause
unfolding clause
clause_with (On ts) e = rw e
clause_with (Stop f) e = refl

pub clause_properties : (s : Step) → same_kind (first_kind s) WITH ≡ false →
    same_kind (first_kind s) PROPERTIES ≡ true → s ⟫ the PROPERTIES ⟫ none_or_some ≡ s ⟫ clause
unfolding clause
clause_properties (On ts) n e = rw (n, e)
clause_properties (Stop f) n e = refl

pub clause_word : (s : Step) → same_kind (first_kind s) WITH ≡ false → same_kind (first_kind s) PROPERTIES ≡ false → s ⟫ any ≡
    s ⟫ clause
unfolding clause
clause_word (On ts) n m = rw (n, m)
clause_word (Stop f) n m = refl

pub head_then : (s : Step) → s ⟫ the PACKAGE ⟫ path ≡ s ⟫ package_head
head_then (On ts) = refl
head_then (Stop f) = refl

module _ (s : State) where
  pub part_clause : clause_kind (first_kind s.went) ≡ true → does s (quiet clause) ≡ does s part
  unfolding does part
  part_clause =
      by_went (λ (s : State). clause_kind (first_kind s.went) ≡ true → does s (quiet clause) ≡ does s part)
      (λ ts qs x t h. rw h) (λ f qs x t h. refl) s

  pub part_declaration : clause_kind (first_kind s.went) ≡ false → does s declaration ≡ does s part
  unfolding does part
  part_declaration =
      by_went (λ (s : State). clause_kind (first_kind s.went) ≡ false → does s declaration ≡ does s part)
      (λ ts qs x t h. rw h) (λ f qs x t h. refl) s

  pub package_does : does (does (does s (quiet package_head)) parts) (quiet path_end) ≡ does s packaged
  unfolding packaged
  package_does =
      ap (λ (t : State). does t (quiet path_end)) (does_then s (quiet package_head) parts)
      ∙ does_then s (λ ps ts. quiet package_head ps ts ⨟ parts) (quiet path_end)

-- ## In a text

module _ (s : State) where
  pub piece_package : same_kind (first_kind s.went) PACKAGE ≡ true → does s packaged ≡ does s piece
  unfolding does piece
  piece_package =
      by_went (λ (s : State). same_kind (first_kind s.went) PACKAGE ≡ true → does s packaged ≡ does s piece)
      (λ ts qs x t e. rw e) (λ f qs x t e. refl) s

  pub piece_declaration : same_kind (first_kind s.went) PACKAGE ≡ false → does s declaration ≡ does s piece
  unfolding does piece
  piece_declaration =
      by_went (λ (s : State). same_kind (first_kind s.went) PACKAGE ≡ false → does s declaration ≡ does s piece)
      (λ ts qs x t n. rw n) (λ f qs x t n. refl) s

  pub text_does : does (does s pieces) (quiet finished) ≡ does s whole_text
  unfolding whole_text
  text_does = does_then s pieces (quiet finished)

pub finished_on : (s : Step) → same_kind (first_kind s) ENDED ≡ true → s ≡ s ⟫ finished
unfolding finished
finished_on (On ts) e = rw e
finished_on (Stop f) e = refl

pub finished_off : (s : Step) → same_kind (first_kind s) ENDED ≡ false → s ⟫ stop_at Unfit a_declaration ≡ s ⟫ finished
unfolding finished
finished_off (On ts) n = rw n
finished_off (Stop f) n = refl

-- ## How far they go

thread_by_moves : MovesOn 3 thread_by
unfolding thread_by
thread_by_moves ps ts =
    cases (λ (s : Said). Moved 3 ts s.went) (same_kind (second ts) IMPLEMENTATION)
    (λ _. moved_less 3 (omega arith) (thread_implementation_moves ps ts))
    (λ _. cases (λ (s : Said). Moved 3 ts s.went) (same_kind (second ts) GROUP) (λ _. other_moves ps ts)
    (λ _. moved_less 3 (omega arith) (thread_type_moves ps ts)))

chosen_moves : MovesOn 3 chosen
unfolding chosen
chosen_moves ps ts =
    cases (λ (s : Said). Moved 3 ts s.went) (is THREAD ts) (λ _. thread_by_moves ps ts)
    (λ _. cases (λ (s : Said). Moved 3 ts s.went) (is ANNEX ts) (λ _. moved_less 3 (omega arith) (annex_moves ts))
    (λ _. cases (λ (s : Said). Moved 3 ts s.went) (is PROCESS ts && same_kind (second ts) IMPLEMENTATION)
    (λ _. moved_less 3 (omega arith) (process_moves ps ts))
    (λ _. other_moves ps ts)))

pub declaration_moves : MovesOn 3 declaration
unfolding declaration
declaration_moves = moves_apart chosen chosen_moves

none_or_some_moves : Moves 0 none_or_some
unfolding none_or_some
none_or_some_moves ts = moved_either (is NONE ts) (moved_less 0 (omega arith) (nothing_moves ts)) (associations_moves ts)

-- its word is any: at the text's end it stays
clause_moves : (ts : List Token) → same_kind (next ts) ENDED ≡ false → Moved 1 ts (clause ts)
unfolding clause
clause_moves ts n =
    moved_either (is WITH ts) (moved_less 1 (omega arith) (moved_then (moves_the WITH refl ts) paths_moves))
    (moved_either (is PROPERTIES ts) (moved_then (moves_the PROPERTIES refl ts) none_or_some_moves) (moved_any ts n))

pub part_advances : AdvancesOn begins_part part
unfolding part
part_advances ps ts h =
    let real = kind_differs (next ts) ENDED (λ e. true≢false (sym h ∙ ap part_kind e ∙ part_ended)) in
    cases (λ (s : Said). Moved 1 ts s.went) (clause_kind (next ts)) (λ _. clause_moves ts real)
    (λ _. moved_less 1 (omega arith) (declaration_moves ps ts))

pub parts_moves : MovesOn 0 parts
unfolding parts
parts_moves = moves_repeat begins_part part part_advances

pub packaged_moves : MovesOn 5 packaged
unfolding packaged
packaged_moves ps ts =
    moved_onward _ (quiet path_end) (moved_onward _ parts (moved_then (moves_the PACKAGE refl ts) path_moves) parts_moves)
    (moves_quiet path_end path_end_moves)

pub piece_moves : MovesOn 3 piece
unfolding piece
piece_moves ps ts =
    cases (λ (s : Said). Moved 3 ts s.went) (is PACKAGE ts) (λ _. moved_less 3 (omega arith) (packaged_moves ps ts))
    (λ _. declaration_moves ps ts)

pub piece_advances : AdvancesOn begins_piece piece
piece_advances = advances_on begins_piece piece piece_moves
