-- `Sources::queue`.
use Rattle.chosen.specs.Chosen.{queues_of}
use Rattle.chosen.specs.Laws.{queue_there}
use Rattle.ways.specs.Named.{text_of, all_rows}
use Rattle.kit.proofs.sources.Sources.queue.Goals as goal

pub returns : goal.returns
returns c =
    let names = c.args.self.now.joined.names in
    let is = c.row.ensures (queues_of (text_of names) (all_rows names)) c.args.self.now.queues_are in
    record { is = is; within = rw is (queue_there (text_of names) names.declared.rows.count names.declared.rows.memory.now c.args.j) }
