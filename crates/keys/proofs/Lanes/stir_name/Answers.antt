-- `Lanes::stir_name`: what is left of the name gives the whole.
use Rattle.common.specs.Words.{rules, refl, sym, ap, ◌∙◌}
use Rattle.keys.specs.Keys.{stirred}
use Rattle.keys.specs.Laws.{byte_behind, named_ends, named_onward}
use Rattle.keys.proofs.Lanes.stir_name.Goals as goal

pub loop-i-init : goal.loop-i-init
loop-i-init c = (refl, search rules)

pub returns-then-byte-eq0 : goal.returns-then-byte-eq0
returns-then-byte-eq0 c =
    let ends = named_ends c.loop-i.lanes c.args.text.now c.loop-i.i (sym c.name_byte-byte.ensures ∙ c.if-byte-eq0.true) in
    (c.stir.ensures.0 ∙ ends ∙ c.loop-i.invariant.0, c.stir.ensures.1)

pub loop-i-preserved : goal.loop-i-preserved
loop-i-preserved c =
    let step = c.stir-lanes.ensures.0 ∙ ap (stirred c.loop-i.lanes) (c.wide.ensures.0 ∙ c.name_byte-byte.ensures) in
    let on = named_onward c.loop-i.lanes c.args.text.now c.loop-i.i (rw (← c.name_byte-byte.ensures) c.if-byte-eq0.false) in
    (rw step (on ∙ c.loop-i.invariant.0), c.stir-lanes.ensures.1)

pub returns : goal.returns
returns c =
    let ends = named_ends c.loop-i.lanes c.args.text.now c.loop-i.i (byte_behind c.args.text.now c.loop-i.i (search rules)) in
    (c.stir-2.ensures.0 ∙ ends ∙ c.loop-i.invariant.0, c.stir-2.ensures.1)
