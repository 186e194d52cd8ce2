-- `Dictionary::find`: what stands at the slot where the search ends.
use Rattle.common.specs.Words.{ℕ, ap, ◌∙◌, get_or}
use Rattle.keys.specs.Keys.{meant}
use Rattle.index.specs.Options.{row_of}
use Rattle.index.specs.Laws.{found_within}
use Rattle.index.proofs.dictionary.Dictionary.find.Goals as goal

pub returns : goal.returns
returns g c =
    let d = c.args.self.now in
    let finds = ap (λ (s : ℕ). get_or d.tree.now s 0) c.slot_of.ensures.0 ∙ d.indexed.sound.finds (meant d.text.now c.args.key) in
    let is = c.row_in.ensures ∙ ap row_of finds in
    record { is = is; within = rw is (found_within d.text.now g.row.ROLE d.rows.count d.rows.memory.now (meant d.text.now c.args.key)) }
