-- `kit::make_table`: each field as it was made.
use Rattle.common.specs.Words.{refl}
use Rattle.ways.specs.Named.{text_of, all_rows}
use Rattle.kit.specs.Kit.{table_of}
use Rattle.kit.specs.Priorities.{priorities_fit}
use Rattle.kit.proofs.make_table.Goals as goal

pub in_bytes-requires : goal.in_bytes-requires
in_bytes-requires c =
    let names = c.args.prepared.now.joined.names in
    rw c.figures-3.ensures (priorities_fit (text_of names) (all_rows names) c.args.prepared.now.ranked)

pub returns : goal.returns
unfolding table_of
returns c =
    let ports = rw (c.queues.ensures.text, c.queues.ensures.rows) at c.queues-2.ensures in
    rw (
      c.senders.ensures,
      c.receivers.ensures,
      c.in_bytes.ensures,
      c.figures-3.ensures,
      c.figures-2.ensures,
      c.figures.ensures,
      ports,
      c.threads.ensures,
    )
    refl
