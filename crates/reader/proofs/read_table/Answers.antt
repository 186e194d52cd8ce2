-- `reader::read_table`.
use Rattle.common.specs.Words.{sym, ap, ◌∙◌, length-take-le}
use Rattle.findings.specs.declared.Table.{Table}
use Rattle.findings.specs.Findings.{no_room, answered}
use Rattle.reader.specs.Laws.{fitting_plain, enough_plain, answer_none, answer_some}
use Rattle.reader.proofs.read_table.Goals as goal

pub returns-then-not-room : goal.returns-then-not-room
returns-then-not-room c =
    let a = c.args in
    ap (λ (t : Table). answered no_room t) c.no_table.ensures
    ∙ answer_none _ a.text.now (sym c.is_enough-room.ensures ∙ c.if-not-room.true)

pub plain_bytes-n-requires : goal.plain_bytes-n-requires
plain_bytes-n-requires c =
    (fitting_plain _ _ _ _ _ _ (sym c.is_enough-room.ensures ∙ c.if-not-room.false)).0

pub slice_bounds-read_plain-end-2 : goal.slice_bounds-read_plain-end-2
slice_bounds-read_plain-end-2 c =
    sym (length-take-le c.plain_bytes-n.result _ c.plain_bytes-n.ensures.1)

pub read_plain-requires : goal.read_plain-requires
read_plain-requires c = (
  rw (length-take-le c.plain_bytes-n.result _ c.plain_bytes-n.ensures.1) c.plain_bytes-n.ensures.0,
  enough_plain _ _ _ _ _ _ (sym c.is_enough-room.ensures ∙ c.if-not-room.false),
)

pub returns : goal.returns
returns c =
    let a = c.args in
    c.read_plain.ensures
    ∙ answer_some _ a.text.now _ (sym c.is_enough-room.ensures ∙ c.if-not-room.false) c.plain_bytes-n.ensures.2
