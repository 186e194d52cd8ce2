-- `Types::way_ends`.
use Rattle.common.specs.Words.{rules, ap, ◌∙◌}
use Rattle.index.specs.Held.{rows_of}
use Rattle.ways.specs.Options.{end_at, some, first_end}
use Rattle.ways.proofs.types.Types.way_ends.Goals as goal

pub returns : goal.returns
returns c =
    c.is_some.ensures ∙ ap some (c.first_on_way.ensures (end_at (rows_of c.args.self.now.rows)) (λ j l r p. search rules))
    ∙ first_end _ _
