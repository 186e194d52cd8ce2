-- A connection is paid for by its text.
use Rattle.std.specs.Prelude.{◌&&◌}
use Rattle.common.specs.Words.{ℕ, arith, refl}
use Rattle.words.specs.Kinds.{SEMICOLON}
use Rattle.tokens.specs.Laws.{cases}
use Rattle.steps.specs.Steps.{On, head, next, second, the}
use Rattle.steps.specs.Laws.{moves_the}
use Rattle.phrases.specs.Laws.{maybe_label_moves, word_moves}
use Rattle.rows.specs.Said.{quiet, put}
use Rattle.rows.specs.Pays.{PaidBy, Pays, paid_less, paid_moved, pays_quiet, paid_onward, pays_put, pays_optionally, pays_apart, pays_repeat}
use Rattle.properties.specs.Properties.{of_port, maybe_block_in}
use Rattle.properties.specs.Pays.{maybe_block_pays}
use Rattle.links.specs.Links.{sending, receiving, pointed, linked, declared, link, other_kind, connection_of, label_in, connection, connection_kind}
use Rattle.links.specs.Links.{connections}
use Rattle.links.specs.Laws.{ends_moves}

link_pays : (p start n : ℕ) → Pays 0 0 (link p start n)
unfolding link declared
link_pays p start n ps ts =
    paid_onward _ (declared p start n (On ts))
    (paid_onward _ (quiet (the SEMICOLON)) (paid_onward _ (maybe_block_in of_port) (paid_moved (ends_moves ts)) (maybe_block_pays of_port))
    (pays_quiet (the SEMICOLON) (moves_the SEMICOLON refl)))
    (pays_optionally (λ us. pointed (sending (On ts)) && pointed (receiving (On ts)))
    (put (linked p start n (On ts))) (pays_put (linked p start n (On ts))))

connection_of_pays : (p start n : ℕ) → Pays 0 0 (connection_of p start n)
unfolding connection_of
connection_of_pays p start n ps ts =
    cases (PaidBy 0 0 ts) (other_kind (next ts) (second ts)) (λ _. paid_less 0 0 (omega arith) (omega arith) (paid_moved (word_moves ts)))
    (λ _. pays_apart (link p start n) (link_pays p start n) ps ts)

pub connection_pays : (p : ℕ) → Pays 0 0 (connection p)
unfolding connection
connection_pays p ps ts =
    paid_onward _ (connection_of p (head ts).start (label_in (On ts))) (paid_moved (maybe_label_moves ts))
    (connection_of_pays p (head ts).start (label_in (On ts)))

pub connections_pay : (p : ℕ) → Pays 0 0 (connections p)
unfolding connections
connections_pay p = pays_repeat (λ ts. connection_kind (next ts)) (connection p) (connection_pays p)
