-- `Sources::senders`: the array is made cell by cell.
use Rattle.common.specs.Words.{false, rules}
use Rattle.ways.specs.Named.{text_of, all_rows}
use Rattle.chosen.specs.Chosen.{threads_of, queues_of}
use Rattle.kit.specs.Kit.{sends_at}
use Rattle.plan.proofs.Made.{made}
use Rattle.kit.proofs.sources.Sources.senders.Goals as goal

pub returns : goal.returns
returns c =
    let names = c.args.self.now.joined.names in
    made _ _ (sends_at (text_of names) (all_rows names) (threads_of (all_rows names)) (queues_of (text_of names) (all_rows names))) false 128
    c.from_fn.ensures.items (λ i y q l k. search rules)
