-- `Sources::receivers`: the array is made queue by queue.
use Rattle.common.specs.Words.{rules}
use Rattle.ways.specs.Named.{text_of, all_rows}
use Rattle.chosen.specs.Chosen.{queues_of, at_or}
use Rattle.kit.specs.Kit.{receiver_of}
use Rattle.plan.proofs.Made.{made}
use Rattle.kit.proofs.sources.Sources.receivers.Goals as goal

pub returns : goal.returns
returns c =
    let names = c.args.self.now.joined.names in
    made _ _ (at_or (queues_of (text_of names) (all_rows names)) (receiver_of (text_of names) (all_rows names)) 0) 0 8 c.from_fn.ensures.items
    (λ j y q l k. search rules)
