-- `reader::read_plain`.
use Rattle.common.specs.Words.{◌∙◌, length}
use Rattle.reader.specs.Reader.{most_bytes}
use Rattle.reader.specs.Laws.{fitting_read, fitting_plain, read_answer}
use Rattle.reader.proofs.read_plain.Goals as goal

pub answer_read-requires : goal.answer_read-requires
answer_read-requires c =
    let a = c.args in
    fitting_read a.text.now c.read-reading.result a.rows.now c.read-reading.new.rows
    a.declared.now a.connected.now a.queued.now a.types.now
    c.read-reading.ensures c.requires.0 c.requires.1

pub returns : goal.returns
returns c =
    let a = c.args in
    let room = (fitting_plain most_bytes (length a.rows.now) (length a.declared.now) (length a.connected.now)
    (length a.queued.now) (length a.types.now) c.requires.1).1 in
    c.answer_read.ensures
    ∙ read_answer a.text.now c.read-reading.result a.rows.now c.read-reading.new.rows a.long c.read-reading.ensures c.requires.0 room
