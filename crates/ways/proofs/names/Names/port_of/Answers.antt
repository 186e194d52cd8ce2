-- `Names::port_of`: the first port along the way.
use Rattle.common.specs.Words.{rules, ℕ, ◌∙◌}
use Rattle.keys.specs.Keys.{key}
use Rattle.rows.specs.Rows.{a_port}
use Rattle.index.specs.Options.{row_of}
use Rattle.index.specs.Index.{cell}
use Rattle.index.specs.Held.{rows_of}
use Rattle.ways.specs.Ways.{look, port_of}
use Rattle.ways.specs.Options.{first_row}
use Rattle.ways.specs.Laws.{known_from, port_within}
use Rattle.ways.proofs.names.Names.port_of.Goals as goal

pub returns : goal.returns
unfolding port_of
returns c =
    let d = c.args.self.now.declared in
    let first = c.first_on_way.ensures
    (λ (j : ℕ). row_of (look d.text.now 0 (rows_of d.rows) (key a_port (cell (rows_of d.rows) j 2) c.args.name 0 0)))
    (λ j l r p. search rules) ∙ first_row _ _ in
    let is = rw (c.ways.ensures.above, known_from c.args.self.now.known c.requires c.above.ensures.is) at first in
    record { is = is; within = rw is (port_within d.text.now d.rows.count d.rows.memory.now c.args.k c.args.name) }
