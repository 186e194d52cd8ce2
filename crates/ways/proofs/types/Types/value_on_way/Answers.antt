-- `Types::value_on_way`.
use Rattle.common.specs.Words.{rules, ℕ, ◌∙◌}
use Rattle.index.specs.Options.{value_of}
use Rattle.index.specs.Index.{cell}
use Rattle.index.specs.Held.{rows_of}
use Rattle.ways.specs.Options.{first_value}
use Rattle.ways.proofs.types.Types.value_on_way.Goals as goal

pub returns : goal.returns
returns c =
    c.first_on_way.ensures (λ (j : ℕ). value_of (cell (rows_of c.args.self.now.rows) j c.args.c)) (λ j l r p. search rules)
    ∙ first_value _ _
