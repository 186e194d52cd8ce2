-- A port is paid for by its text.
use Rattle.common.specs.Words.{ℕ, arith, refl}
use Rattle.words.specs.Kinds.{SEMICOLON}
use Rattle.tokens.specs.Laws.{cases}
use Rattle.steps.specs.Steps.{On, head, next, named, the}
use Rattle.steps.specs.Laws.{moves_the}
use Rattle.phrases.specs.Laws.{label_moves, word_moves}
use Rattle.rows.specs.Rows.{port_row}
use Rattle.rows.specs.Said.{quiet, put}
use Rattle.rows.specs.Pays.{PaidBy, Pays, paid_less, paid_moved, pays_quiet, paid_onward, pays_put, pays_apart, pays_repeat}
use Rattle.properties.specs.Properties.{of_port, maybe_block_in}
use Rattle.properties.specs.Pays.{maybe_block_pays}
use Rattle.features.specs.Features.{direction_of, port, other_feature, feature_of, feature, features}
use Rattle.features.specs.Laws.{head_moves}

-- all but 2 bytes, which are its NAME's and the `:` behind that
port_pays : (o n : ℕ) → Pays 2 0 (port o n)
unfolding port
port_pays o n ps ts =
    paid_onward _ (put (λ qs. port_row o n (direction_of (On ts)) qs))
    (paid_onward _ (quiet (the SEMICOLON)) (paid_onward _ (maybe_block_in of_port) (paid_moved (head_moves ts)) (maybe_block_pays of_port))
    (pays_quiet (the SEMICOLON) (moves_the SEMICOLON refl)))
    (pays_put (λ qs. port_row o n (direction_of (On ts)) qs))

feature_of_pays : (o n : ℕ) → Pays 2 0 (feature_of o n)
unfolding feature_of
feature_of_pays o n ps ts =
    cases (PaidBy 2 0 ts) (other_feature (next ts)) (λ _. paid_less 2 0 (omega arith) (omega arith) (paid_moved (word_moves ts)))
    (λ _. pays_apart (port o n) (port_pays o n) ps ts)

pub feature_pays : (o : ℕ) → Pays 0 0 (feature o)
unfolding feature
feature_pays o ps ts = paid_onward _ (feature_of o (head ts).start) (paid_moved (label_moves ts)) (feature_of_pays o (head ts).start)

pub features_pay : (o : ℕ) → Pays 0 0 (features o)
unfolding features
features_pay o = pays_repeat named (feature o) (feature_pays o)
