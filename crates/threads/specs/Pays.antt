-- A thread is paid for by its text.
use Rattle.common.specs.Words.{ℕ, arith, refl}
use Rattle.words.specs.Kinds.{THREAD, SEMICOLON}
use Rattle.tokens.specs.Laws.{cases}
use Rattle.steps.specs.Steps.{head, next, named, the}
use Rattle.steps.specs.Laws.{moves_the}
use Rattle.phrases.specs.Laws.{classifier_moves, label_moves, word_moves}
use Rattle.rows.specs.Rows.{thread_row}
use Rattle.rows.specs.Said.{quiet, put}
use Rattle.rows.specs.Pays.{PaidBy, Pays, paid_less, paid_moved, pays_quiet, paid_onward, pays_put, pays_apart, pays_repeat}
use Rattle.properties.specs.Properties.{of_thread, maybe_block_in}
use Rattle.properties.specs.Pays.{maybe_block_pays}
use Rattle.threads.specs.Threads.{type_in, implementation_in, thread_of, thread, other_component, subcomponent_of, subcomponent, subcomponents}

-- all but 7 bytes, of which its word has 6
thread_of_pays : (p n : ℕ) → Pays 7 0 (thread_of p n)
unfolding thread_of
thread_of_pays p n ps ts =
    paid_onward _ (put (λ qs. thread_row p n (type_in ts) (implementation_in ts) qs))
    (paid_onward _ (quiet (the SEMICOLON)) (paid_onward _ (maybe_block_in of_thread) (paid_moved (classifier_moves ts)) (maybe_block_pays of_thread))
    (pays_quiet (the SEMICOLON) (moves_the SEMICOLON refl)))
    (pays_put (λ qs. thread_row p n (type_in ts) (implementation_in ts) qs))

thread_pays : (p n : ℕ) → Pays 1 0 (thread p n)
unfolding thread
thread_pays p n ps ts = paid_onward _ (thread_of p n) (paid_moved (moves_the THREAD refl ts)) (thread_of_pays p n)

subcomponent_of_pays : (p n : ℕ) → Pays 1 0 (subcomponent_of p n)
unfolding subcomponent_of
subcomponent_of_pays p n ps ts =
    cases (PaidBy 1 0 ts) (other_component (next ts)) (λ _. paid_less 1 0 (omega arith) (omega arith) (paid_moved (word_moves ts)))
    (λ _. pays_apart (thread p n) (thread_pays p n) ps ts)

pub subcomponent_pays : (p : ℕ) → Pays 0 1 (subcomponent p)
unfolding subcomponent
subcomponent_pays p ps ts = paid_onward _ (subcomponent_of p (head ts).start) (paid_moved (label_moves ts)) (subcomponent_of_pays p (head ts).start)

pub subcomponents_pay : (p : ℕ) → Pays 0 0 (subcomponents p)
unfolding subcomponents
subcomponents_pay p = pays_repeat named (subcomponent p) (λ ps ts. paid_less 0 0 (omega arith) (omega arith) (subcomponent_pays p ps ts))
