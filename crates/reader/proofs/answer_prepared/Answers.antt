-- `reader::answer_prepared`.
use Rattle.common.specs.Words.{refl}
use Rattle.reader.specs.Laws.{answer_refused, answer_sound}
use Rattle.reader.proofs.answer_prepared.Goals as goal

pub returns-in-Some : goal.returns-in-Some
returns-in-Some c =
    rw c.no_table.ensures
    (answer_refused _ _ _ _ c.with_length-noted.ensures (rw c.requires at c.in-Some.ensures) c.in-Some.fault refl)

pub returns-in-None : goal.returns-in-None
returns-in-None c =
    answer_sound _ _ _ _ c.with_length-noted.ensures (rw c.requires at c.in-None.ensures) refl (rw c.requires at c.make_table.ensures)
