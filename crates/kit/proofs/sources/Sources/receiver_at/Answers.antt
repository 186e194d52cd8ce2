-- `Sources::receiver_at`: where there are so many, where the receiving thread stands.
use Rattle.common.specs.Words.{◌∙◌}
use Rattle.index.specs.Options.{number_row}
use Rattle.ways.specs.Named.{text_of, all_rows}
use Rattle.chosen.specs.Chosen.{threads_of, queues_of}
use Rattle.chosen.specs.Laws.{rows_are, at_said}
use Rattle.kit.specs.Kit.{receiver_of}
use Rattle.kit.proofs.sources.Sources.receiver_at.Goals as goal

pub returns : goal.returns
unfolding receiver_of
returns c =
    let names = c.args.self.now.joined.names in
    rw (
      c.thread_named-thread.ensures.is,
      number_row _,
      c.cell.ensures,
      c.cell-2.ensures,
      rows_are (threads_of (all_rows names)) c.args.self.now.threads_are,
    ) at c.place_of.ensures
    ∙ at_said (queues_of (text_of names) (all_rows names)) (receiver_of (text_of names) (all_rows names)) 0 c.args.j c.in-Some.ensures.is
