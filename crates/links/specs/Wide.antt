-- A connection's row has all its columns.
use Rattle.std.specs.Prelude.{◌&&◌}
use Rattle.common.specs.Words.{ℕ, arith, refl}
use Rattle.words.specs.Kinds.{SEMICOLON}
use Rattle.tokens.specs.Laws.{cases}
use Rattle.steps.specs.Steps.{On, head, next, second, the}
use Rattle.phrases.specs.Phrases.{maybe_label}
use Rattle.rows.specs.Rows.{link_row}
use Rattle.rows.specs.Said.{quiet, put}
use Rattle.rows.specs.Wide.{Wide, WideOn, wide_silent, wide_quiet, wide_put, wide_onward, wide_optionally, wide_apart, wide_repeat}
use Rattle.properties.specs.Properties.{of_port, maybe_block_in}
use Rattle.properties.specs.Wide.{maybe_block_wide}
use Rattle.links.specs.Links.{sending, receiving, ends, pointed, linked, declared, link, other_kind, connection_of, label_in, connection}
use Rattle.links.specs.Links.{connection_kind, connections}

link_wide : (p start n : ℕ) → WideOn (link p start n)
unfolding link declared link_row
link_wide p start n ps ts =
    wide_onward _ (declared p start n (On ts))
    (wide_onward _ (quiet (the SEMICOLON)) (wide_onward _ (maybe_block_in of_port) (wide_quiet (λ us. ends (On us)) ps ts)
    (maybe_block_wide of_port))
    (wide_quiet (the SEMICOLON)))
    (wide_optionally (λ us. pointed (sending (On ts)) && pointed (receiving (On ts)))
    (put (linked p start n (On ts))) (wide_put (linked p start n (On ts)) (λ qs. refl) (λ qs l. omega arith)))

connection_of_wide : (p start n : ℕ) → WideOn (connection_of p start n)
unfolding connection_of
connection_of_wide p start n ps ts =
    cases (Wide ps) (other_kind (next ts) (second ts)) (λ _. wide_silent _ refl (λ l. l))
    (λ _. wide_apart (link p start n) (link_wide p start n) ps ts)

connection_wide : (p : ℕ) → WideOn (connection p)
unfolding connection
connection_wide p ps ts =
    wide_onward _ (connection_of p (head ts).start (label_in (On ts))) (wide_quiet maybe_label ps ts)
    (connection_of_wide p (head ts).start (label_in (On ts)))

pub connections_wide : (p : ℕ) → WideOn (connections p)
unfolding connections
connections_wide p = wide_repeat (λ ts. connection_kind (next ts)) (connection p) (connection_wide p)
