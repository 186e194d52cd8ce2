-- Declarations are paid for by their text, with what stands in their sections.
use Rattle.words.specs.Same.{same_kind}
use Rattle.words.specs.declared.kinds.Kind.{Kind}
use Rattle.std.specs.Prelude.{◌≡◌}
use Rattle.common.specs.Words.{ℕ, false, refl, arith, eqb}
use Rattle.words.specs.Kinds.{ENDED, THREAD, PROCESS, FEATURES, SUBCOMPONENTS, PROPERTIES}
use Rattle.tokens.specs.Laws.{cases}
use Rattle.steps.specs.Steps.{On, head, next, is, any, the}
use Rattle.steps.specs.Laws.{Moves, stopped, moved_then, moved_either, moves_any, moves_many}
use Rattle.phrases.specs.Phrases.{skip_kind, skipped}
use Rattle.phrases.specs.Laws.{skip_advances}
use Rattle.rows.specs.Rows.{a_process, a_type, an_implementation, process_row, type_row, implementation_row}
use Rattle.rows.specs.Said.{quiet, put}
use Rattle.rows.specs.Pays.{PaidBy, Pays, paid_less, paid_moved, pays_quiet, paid_onward, pays_put, pays_adding, pays_repeat}
use Rattle.properties.specs.Properties.{of_thread, of_process, none_or, properties_in}
use Rattle.properties.specs.Pays.{none_or_pays, properties_in_pays}
use Rattle.features.specs.Pays.{features_pay}
use Rattle.threads.specs.Pays.{subcomponents_pay}
use Rattle.links.specs.Pays.{connections_pay}
use Rattle.declarations.specs.Sections.{list_kind, listed, list_in, properties_of, section, begins, sections}
use Rattle.declarations.specs.Declarations.{type_name, parent_in, type_end, thread_type, first_name, second_name, implementation_end, implementation}
use Rattle.declarations.specs.Declarations.{thread_implementation, process_implementation}
use Rattle.declarations.specs.Laws.{type_head_moves, type_end_moves, implementation_head_moves, implementation_end_moves}

-- ## Sections

listed_pays : (word : Kind) (place : ℕ) → Pays 0 0 (listed word place)
unfolding listed
listed_pays word place ps ts =
    cases (PaidBy 0 0 ts) (same_kind word FEATURES) (λ _. features_pay place ps ts)
    (λ _. cases (PaidBy 0 0 ts) (same_kind word SUBCOMPONENTS) (λ _. subcomponents_pay place ps ts) (λ _. connections_pay place ps ts))

-- whatever token it is
the_stays : (kind : Kind) → Moves 0 (the kind)
unfolding the
the_stays kind ts = moved_either (is kind ts) (moves_any ts) stopped

list_pays : (word : Kind) (place : ℕ) → Pays 0 0 (list_in word place)
unfolding list_in
list_pays word place ps ts = paid_onward _ (none_or (listed word place)) (paid_moved (the_stays word ts))
    (none_or_pays (listed word place) (listed_pays word place))

properties_pay : (of : ℕ) → Pays 0 1 (properties_of of)
unfolding properties_of
properties_pay of ps ts =
    cases (PaidBy 0 1 ts) (eqb of a_process) (λ _. properties_in_pays of_process ps ts)
    (λ _. pays_adding (properties_in of_thread) (properties_in_pays of_thread) ps ts)

skipped_stays : Moves 0 skipped
unfolding skipped
skipped_stays ts = moved_then (moves_any ts) (moves_many (λ us. skip_kind (next us)) any skip_advances)

section_pays : (of place : ℕ) → Pays 0 0 (section of place)
unfolding section
section_pays of place ps ts =
    cases (PaidBy 0 0 ts) (list_kind of (next ts)) (λ _. list_pays (next ts) place ps ts)
    (λ _. cases (PaidBy 0 0 ts) (is PROPERTIES ts) (λ _. paid_less 0 0 (omega arith) (omega arith) (properties_pay of ps ts))
    (λ _. paid_moved (skipped_stays ts)))

pub sections_pay : (of place : ℕ) → Pays 0 0 (sections of place)
unfolding sections
sections_pay of place = pays_repeat (begins of) (section of place) (section_pays of place)

-- ## Declarations

pub thread_type_pays : Pays 0 1 thread_type
unfolding thread_type
thread_type_pays ps ts =
    paid_onward _ (put (λ qs. type_row (type_name (On ts)).start (parent_in (On ts)) qs))
    (paid_onward _ (quiet (type_end (type_name (On ts))))
    (paid_onward _ (sections a_type (type_name (On ts)).start) (paid_moved (type_head_moves ts)) (sections_pay a_type (type_name (On ts)).start))
    (pays_quiet (type_end (type_name (On ts))) (type_end_moves (type_name (On ts)))))
    (pays_put (λ qs. type_row (type_name (On ts)).start (parent_in (On ts)) qs))

implementation_pays : (word : Kind) (of place : ℕ) → same_kind word ENDED ≡ false → Pays 0 10 (implementation word of place)
unfolding implementation
implementation_pays word of place n ps ts =
    paid_onward _ (quiet (implementation_end (first_name word (On ts)) (second_name word (On ts))))
    (paid_onward _ (sections of place) (paid_moved (implementation_head_moves word n ts)) (sections_pay of place))
    (pays_quiet (implementation_end (first_name word (On ts)) (second_name word (On ts)))
    (implementation_end_moves (first_name word (On ts)) (second_name word (On ts))))

pub thread_implementation_pays : Pays 0 1 thread_implementation
unfolding thread_implementation
thread_implementation_pays ps ts =
    paid_onward _ (put (λ qs. implementation_row (first_name THREAD (On ts)).start (second_name THREAD (On ts)).start qs))
    (implementation_pays THREAD an_implementation 0 refl ps ts)
    (pays_put (λ qs. implementation_row (first_name THREAD (On ts)).start (second_name THREAD (On ts)).start qs))

pub process_pays : Pays 0 1 process_implementation
unfolding process_implementation
process_pays ps ts =
    paid_onward _ (put (λ qs. process_row (head ts).start)) (implementation_pays PROCESS a_process (head ts).start refl ps ts)
    (pays_put (λ qs. process_row (head ts).start))
