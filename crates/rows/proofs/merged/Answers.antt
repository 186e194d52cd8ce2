-- `rows::merged`: the entries so far are those of the table.
use Rattle.std.specs.Prelude.{◌≡◌}
use Rattle.common.specs.Words.{rules, ℕ, [], get_or}
use Rattle.common.specs.Table.{table_none, table_more, table_all}
use Rattle.rows.specs.Said.{merged}
use Rattle.rows.specs.States.{first_of}
use Rattle.rows.proofs.merged.Goals as goal

pub loop-q-init : goal.loop-q-init
unfolding merged
loop-q-init c = (search rules, search rules, table_none _ [])

pub loop-q-preserved : goal.loop-q-preserved
unfolding merged
loop-q-preserved c =
    let a = c.args in (
      search rules,
      search rules,
      rw c.first_of.ensures (table_more (λ (i : ℕ). first_of (get_or a.a i 0) (get_or a.b i 0))
          c.loop-q.out c.loop-q.q (search rules) c.loop-q.invariant.2),
    )

pub returns : goal.returns
unfolding merged
returns c = let e : c.loop-q.q ≡ 6 = search rules in table_all _ c.loop-q.out 6 c.loop-q.invariant.1 (rw e at c.loop-q.invariant.2)
