-- The rows of declarations have all their columns, and no Priority over 255.
use Rattle.words.specs.Same.{same_kind}
use Rattle.words.specs.declared.kinds.Kind.{Kind}
use Rattle.common.specs.Words.{ℕ, arith, refl, eqb}
use Rattle.words.specs.Kinds.{THREAD, PROCESS, FEATURES, SUBCOMPONENTS, PROPERTIES}
use Rattle.tokens.specs.Laws.{cases}
use Rattle.steps.specs.Steps.{On, head, next, is, the}
use Rattle.rows.specs.Rows.{a_process, a_type, an_implementation, process_row, type_row, implementation_row}
use Rattle.rows.specs.Said.{quiet, put}
use Rattle.rows.specs.Wide.{Wide, WideOn, wide_silent, wide_quiet, wide_put, wide_onward, wide_adding, wide_repeat}
use Rattle.properties.specs.Properties.{of_thread, of_process, none_or, properties_in}
use Rattle.properties.specs.Wide.{none_or_wide, properties_in_wide}
use Rattle.features.specs.Wide.{features_wide}
use Rattle.threads.specs.Wide.{subcomponents_wide}
use Rattle.links.specs.Wide.{connections_wide}
use Rattle.declarations.specs.Sections.{list_kind, listed, list_in, properties_of, section, begins, sections}
use Rattle.declarations.specs.Declarations.{type_name, parent_in, type_head, type_end, thread_type, first_name, second_name, implementation_head}
use Rattle.declarations.specs.Declarations.{implementation_end, implementation, thread_implementation, process_implementation}

listed_wide : (word : Kind) (place : ℕ) → WideOn (listed word place)
unfolding listed
listed_wide word place ps ts =
    cases (Wide ps) (same_kind word FEATURES) (λ _. features_wide place ps ts)
    (λ _. cases (Wide ps) (same_kind word SUBCOMPONENTS) (λ _. subcomponents_wide place ps ts) (λ _. connections_wide place ps ts))

list_wide : (word : Kind) (place : ℕ) → WideOn (list_in word place)
unfolding list_in
list_wide word place ps ts =
    wide_onward _ (none_or (listed word place)) (wide_quiet (the word) ps ts) (none_or_wide (listed word place) (listed_wide word place))

properties_wide : (of : ℕ) → WideOn (properties_of of)
unfolding properties_of
properties_wide of ps ts =
    cases (Wide ps) (eqb of a_process) (λ _. properties_in_wide of_process ps ts)
    (λ _. wide_adding (properties_in of_thread) (properties_in_wide of_thread) ps ts)

section_wide : (of place : ℕ) → WideOn (section of place)
unfolding section
section_wide of place ps ts =
    cases (Wide ps) (list_kind of (next ts)) (λ _. list_wide (next ts) place ps ts)
    (λ _. cases (Wide ps) (is PROPERTIES ts) (λ _. properties_wide of ps ts) (λ _. wide_silent _ refl (λ l. l)))

sections_wide : (of place : ℕ) → WideOn (sections of place)
unfolding sections
sections_wide of place = wide_repeat (begins of) (section of place) (section_wide of place)

pub thread_type_wide : WideOn thread_type
unfolding thread_type type_row
thread_type_wide ps ts =
    wide_onward _ (put (λ qs. type_row (type_name (On ts)).start (parent_in (On ts)) qs))
    (wide_onward _ (quiet (type_end (type_name (On ts))))
    (wide_onward _ (sections a_type (type_name (On ts)).start) (wide_quiet type_head ps ts) (sections_wide a_type (type_name (On ts)).start))
    (wide_quiet (type_end (type_name (On ts)))))
    (wide_put (λ qs. type_row (type_name (On ts)).start (parent_in (On ts)) qs) (λ qs. refl) (λ qs l. l))

implementation_wide : (word : Kind) (of place : ℕ) → WideOn (implementation word of place)
unfolding implementation
implementation_wide word of place ps ts =
    wide_onward _ (quiet (implementation_end (first_name word (On ts)) (second_name word (On ts))))
    (wide_onward _ (sections of place) (wide_quiet (implementation_head word) ps ts) (sections_wide of place))
    (wide_quiet (implementation_end (first_name word (On ts)) (second_name word (On ts))))

pub thread_implementation_wide : WideOn thread_implementation
unfolding thread_implementation implementation_row
thread_implementation_wide ps ts =
    wide_onward _ (put (λ qs. implementation_row (first_name THREAD (On ts)).start (second_name THREAD (On ts)).start qs))
    (implementation_wide THREAD an_implementation 0 ps ts)
    (wide_put (λ qs. implementation_row (first_name THREAD (On ts)).start (second_name THREAD (On ts)).start qs) (λ qs. refl) (λ qs l. l))

pub process_wide : WideOn process_implementation
unfolding process_implementation process_row
process_wide ps ts =
    wide_onward _ (put (λ qs. process_row (head ts).start)) (implementation_wide PROCESS a_process (head ts).start ps ts)
    (wide_put (λ qs. process_row (head ts).start) (λ qs. refl) (λ qs l. omega arith))
