-- `building::build`: the rows so far are in the dictionary.
use Rattle.std.specs.Prelude.{◌≡◌}
use Rattle.common.specs.Words.{rules, refl, arith, length-set}
use Rattle.index.specs.Laws.{indexed_none}
use Rattle.index.proofs.building.build.Goals as goal

pub bounds-tree-1 : goal.bounds-tree-1
bounds-tree-1 g c = simp length-set (omega arith)

pub loop-k-init : goal.loop-k-init
loop-k-init g c =
    (indexed_none c.args.text.now g.row.ROLE c.args.rows.now.memory.now c.args.tree.now (search rules), refl, search rules)

pub enter-requires : goal.enter-requires
enter-requires g c =
    let l = simp length-set at c.loop-k.invariant.1 in
    (c.loop-k.invariant.0, search rules, search rules, search rules)

pub loop-k-preserved : goal.loop-k-preserved
loop-k-preserved g c = (c.enter.ensures, search rules, search rules)

pub shape_of-tree : goal.shape_of-tree
shape_of-tree g c = simp length-set at c.loop-k.invariant.1

pub returns : goal.returns
returns g c = let e : c.loop-k.k ≡ c.args.rows.now.count = search rules in rw e at c.loop-k.invariant.0
