-- `properties::rightness`.
use Rattle.common.specs.Words.{sym, ap, ◌∙◌}
use Rattle.words.specs.Kinds.{PERIODIC, DELAYED}
use Rattle.words.specs.Same.{kind_eq}
use Rattle.properties.specs.Properties.{one_if}
use Rattle.properties.specs.Laws.{right_protocol, right_timing}
use Rattle.properties.proofs.rightness.Goals as goal

pub returns-then-property-eq-PROTOCOL : goal.returns-then-property-eq-PROTOCOL
returns-then-property-eq-PROTOCOL c =
    c.one_if.ensures ∙ ap one_if (sym (kind_eq c.args.kind PERIODIC c.eq.ensures)) ∙
    right_protocol c.args.property c.args.kind c.if-property-eq-PROTOCOL.true

pub returns : goal.returns
returns c = c.one_if-2.ensures ∙ ap one_if (sym (kind_eq c.args.kind DELAYED c.eq-2.ensures)) ∙
    right_timing c.args.property c.args.kind c.if-property-eq-PROTOCOL.false
