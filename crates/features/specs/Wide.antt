-- A port's row has all its columns.
use Rattle.common.specs.Words.{ℕ, arith, refl}
use Rattle.words.specs.Kinds.{SEMICOLON}
use Rattle.tokens.specs.Laws.{cases}
use Rattle.steps.specs.Steps.{On, head, next, named, the}
use Rattle.phrases.specs.Phrases.{label}
use Rattle.rows.specs.Rows.{port_row}
use Rattle.rows.specs.Said.{quiet, put}
use Rattle.rows.specs.Wide.{Wide, WideOn, wide_silent, wide_quiet, wide_put, wide_onward, wide_apart, wide_repeat}
use Rattle.properties.specs.Properties.{of_port, maybe_block_in}
use Rattle.properties.specs.Wide.{maybe_block_wide}
use Rattle.features.specs.Features.{direction_of, port_head, port, other_feature, feature_of, feature, features}

port_wide : (o n : ℕ) → WideOn (port o n)
unfolding port port_row
port_wide o n ps ts =
    wide_onward _ (put (λ qs. port_row o n (direction_of (On ts)) qs))
    (wide_onward _ (quiet (the SEMICOLON)) (wide_onward _ (maybe_block_in of_port) (wide_quiet port_head ps ts) (maybe_block_wide of_port))
    (wide_quiet (the SEMICOLON)))
    (wide_put (λ qs. port_row o n (direction_of (On ts)) qs) (λ qs. refl) (λ qs l. omega arith))

feature_of_wide : (o n : ℕ) → WideOn (feature_of o n)
unfolding feature_of
feature_of_wide o n ps ts =
    cases (Wide ps) (other_feature (next ts)) (λ _. wide_silent _ refl (λ l. l)) (λ _. wide_apart (port o n) (port_wide o n) ps ts)

feature_wide : (o : ℕ) → WideOn (feature o)
unfolding feature
feature_wide o ps ts = wide_onward _ (feature_of o (head ts).start) (wide_quiet label ps ts) (feature_of_wide o (head ts).start)

pub features_wide : (o : ℕ) → WideOn (features o)
unfolding features
features_wide o = wide_repeat named (feature o) (feature_wide o)
