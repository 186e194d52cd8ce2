-- `Dictionary::slot_of`: what is left of the search ends where the whole does.
use Rattle.std.specs.Prelude.{◌+◌, ◌-◌, ◌*◌, ◌<◌}
use Rattle.keys.specs.Keys.{meant}
use Rattle.index.specs.Trees.{Left}
use Rattle.index.specs.Index.{keys_of}
use Rattle.index.specs.Held.{rows_of}
use Rattle.index.proofs.dictionary.Dictionary.slot_of.Given as goal

abbrev pub invariant-loop-slot : goal.invariant-loop-slot
invariant-loop-slot g l =
    Left l.tree (keys_of l.self.text.now g.row.ROLE (rows_of l.self.rows)) (meant l.self.text.now l.key) l.slot l.hash
    × (l.slot < 2 * l.self.rows.count + 2)

abbrev pub decreases-loop-slot : goal.decreases-loop-slot
decreases-loop-slot g l = 2 * l.self.rows.count + 2 - l.slot
