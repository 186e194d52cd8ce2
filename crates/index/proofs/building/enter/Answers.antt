-- `building::enter`: the three stores enter the row.
use Rattle.common.specs.Words.{arith, length-set}
use Rattle.index.specs.Trees.{entered}
use Rattle.index.specs.Laws.{indexed_more}
use Rattle.index.proofs.building.enter.Goals as goal

pub bounds-tree-k-2 : goal.bounds-tree-k-2
bounds-tree-k-2 g c = simp length-set (omega arith)

pub bounds-tree-slot : goal.bounds-tree-slot
bounds-tree-slot g c = simp length-set (omega arith)

pub bounds-tree-slot-2 : goal.bounds-tree-slot-2
bounds-tree-slot-2 g c = simp length-set (omega arith)

pub returns : goal.returns
unfolding entered
returns g c =
    rw (c.linked.ensures, c.slot_among-slot.ensures.0)
    (indexed_more c.args.text.now g.row.ROLE c.args.memory.now c.args.tree.now c.args.k
    c.requires.0 c.requires.1 c.requires.2 c.requires.3)
