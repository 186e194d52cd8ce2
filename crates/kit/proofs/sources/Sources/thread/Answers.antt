-- `Sources::thread`.
use Rattle.chosen.specs.Chosen.{threads_of}
use Rattle.chosen.specs.Laws.{thread_there}
use Rattle.ways.specs.Named.{all_rows}
use Rattle.kit.proofs.sources.Sources.thread.Goals as goal

pub returns : goal.returns
returns c =
    let rows = c.args.self.now.joined.names.declared.rows in
    let is = c.row.ensures (threads_of (all_rows c.args.self.now.joined.names)) c.args.self.now.threads_are in
    record { is = is; within = rw is (thread_there rows.count rows.memory.now c.args.i) }
