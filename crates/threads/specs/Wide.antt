-- A thread's row has all its columns, and no Priority over 255.
use Rattle.common.specs.Words.{ℕ, refl}
use Rattle.words.specs.Kinds.{THREAD, SEMICOLON}
use Rattle.tokens.specs.Laws.{cases}
use Rattle.steps.specs.Steps.{head, next, named, the}
use Rattle.phrases.specs.Phrases.{classifier, label}
use Rattle.rows.specs.Rows.{thread_row}
use Rattle.rows.specs.Said.{quiet, put}
use Rattle.rows.specs.Wide.{Wide, WideOn, wide_silent, wide_quiet, wide_put, wide_onward, wide_apart, wide_repeat}
use Rattle.properties.specs.Properties.{of_thread, maybe_block_in}
use Rattle.properties.specs.Wide.{maybe_block_wide}
use Rattle.threads.specs.Threads.{type_in, implementation_in, thread_of, thread, other_component, subcomponent_of, subcomponent, subcomponents}

thread_of_wide : (p n : ℕ) → WideOn (thread_of p n)
unfolding thread_of thread_row
thread_of_wide p n ps ts =
    wide_onward _ (put (λ qs. thread_row p n (type_in ts) (implementation_in ts) qs))
    (wide_onward _ (quiet (the SEMICOLON)) (wide_onward _ (maybe_block_in of_thread) (wide_quiet classifier ps ts) (maybe_block_wide of_thread))
    (wide_quiet (the SEMICOLON)))
    (wide_put (λ qs. thread_row p n (type_in ts) (implementation_in ts) qs) (λ qs. refl) (λ qs l. l))

thread_wide : (p n : ℕ) → WideOn (thread p n)
unfolding thread
thread_wide p n ps ts = wide_onward _ (thread_of p n) (wide_quiet (the THREAD) ps ts) (thread_of_wide p n)

subcomponent_of_wide : (p n : ℕ) → WideOn (subcomponent_of p n)
unfolding subcomponent_of
subcomponent_of_wide p n ps ts =
    cases (Wide ps) (other_component (next ts)) (λ _. wide_silent _ refl (λ l. l)) (λ _. wide_apart (thread p n) (thread_wide p n) ps ts)

subcomponent_wide : (p : ℕ) → WideOn (subcomponent p)
unfolding subcomponent
subcomponent_wide p ps ts = wide_onward _ (subcomponent_of p (head ts).start) (wide_quiet label ps ts) (subcomponent_of_wide p (head ts).start)

pub subcomponents_wide : (p : ℕ) → WideOn (subcomponents p)
unfolding subcomponents
subcomponents_wide p = wide_repeat named (subcomponent p) (subcomponent_wide p)
