-- `verdict::link`: its threads, and then what is judged where both are there.
use Rattle.common.specs.Words.{sym, ◌∙◌}
use Rattle.index.specs.Options.{no_row, gone, there, there_row}
use Rattle.ways.specs.Named.{text_of, all_rows}
use Rattle.verdict.specs.Verdict.{join_faults, link_faults}
use Rattle.verdict.specs.Laws.{worst_none, worst_then, ends_then}
use Rattle.verdict.proofs.link.Goals as goal

pub returns-in_default : goal.returns-in_default
unfolding link_faults
returns-in_default c =
    let names = c.args.joined.now.names in
    let e = rw (c.cell-process.ensures, c.cell-from.ensures) at c.thread_named-sender.ensures.is in
    let f = rw (c.cell-process.ensures, c.cell-to.ensures) at c.thread_named-receiver.ensures.is in
    ends_then (text_of names) (all_rows names) c.args.k _ _ c.args.fault
    (rw (no_row _ c.is_none.ensures e, c.cell-from.ensures) at c.note-sent.ensures)
    (rw (no_row _ c.is_none-2.ensures f, c.cell-to.ensures) at c.note-known.ensures)
    (rw (gone _ (sym c.in_default.is ∙ e)) (worst_none c.note-known.result))

pub returns-in_default-receiver : goal.returns-in_default-receiver
unfolding link_faults
returns-in_default-receiver c =
    let names = c.args.joined.now.names in
    let e = rw (c.cell-process.ensures, c.cell-from.ensures) at c.thread_named-sender.ensures.is in
    let f = rw (c.cell-process.ensures, c.cell-to.ensures) at c.thread_named-receiver.ensures.is in
    ends_then (text_of names) (all_rows names) c.args.k _ _ c.args.fault
    (rw (no_row _ c.is_none.ensures e, c.cell-from.ensures) at c.note-sent.ensures)
    (rw (no_row _ c.is_none-2.ensures f, c.cell-to.ensures) at c.note-known.ensures)
    (rw (there _ (sym c.in-Some.is ∙ e), gone _ (sym c.in_default-receiver.is ∙ f)) (worst_none c.note-known.result))

pub returns : goal.returns
unfolding link_faults join_faults
returns c =
    let names = c.args.joined.now.names in
    let e = rw (c.cell-process.ensures, c.cell-from.ensures) at c.thread_named-sender.ensures.is in
    let f = rw (c.cell-process.ensures, c.cell-to.ensures) at c.thread_named-receiver.ensures.is in
    let s = sym c.in-Some.is ∙ e in
    let r = sym c.in-Some-receiver.is ∙ f in
    let once = rw (c.connections-connections.ensures.text, c.connections-connections.ensures.rows) at c.twice-once.ensures in
    ends_then (text_of names) (all_rows names) c.args.k _ _ c.args.fault
    (rw (no_row _ c.is_none.ensures e, c.cell-from.ensures) at c.note-sent.ensures)
    (rw (no_row _ c.is_none-2.ensures f, c.cell-to.ensures) at c.note-known.ensures)
    (rw (there _ s, there _ r, there_row _ s, there_row _ r) (worst_then _ _ _ (worst_then _ _ _ once c.output-out.ensures) c.input.ensures))
