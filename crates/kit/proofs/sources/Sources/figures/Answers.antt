-- `Sources::figures`: the array is made figure by figure.
use Rattle.common.specs.Words.{rules}
use Rattle.ways.specs.Named.{text_of, all_rows}
use Rattle.chosen.specs.Chosen.{threads_of, at_or}
use Rattle.kit.specs.Kit.{figure_of}
use Rattle.plan.proofs.Made.{made}
use Rattle.kit.proofs.sources.Sources.figures.Goals as goal

pub returns : goal.returns
returns c =
    let names = c.args.self.now.joined.names in
    made _ _ (at_or (threads_of (all_rows names)) (figure_of (text_of names) (all_rows names) c.args.c) 0) 0 16 c.from_fn.ensures.items
    (λ i y q l k. search rules)
