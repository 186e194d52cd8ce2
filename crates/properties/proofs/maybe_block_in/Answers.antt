-- `properties::maybe_block_in`.
use Rattle.common.specs.Words.{refl}
use Rattle.words.specs.Same.{told_ne}
use Rattle.common.specs.Words.{rules, ◌∙◌}
use Rattle.words.specs.Kinds.{OPEN_BRACE}
use Rattle.steps.specs.Steps.{is}
use Rattle.steps.specs.Laws.{is_on, is_off}
use Rattle.rows.specs.States.{state_of}
use Rattle.rows.specs.Laws.{optionally_on, optionally_off}
use Rattle.properties.specs.Properties.{block_in, maybe_block_in}
use Rattle.properties.specs.Laws.{block_does}
use Rattle.properties.proofs.maybe_block_in.Goals as goal

pub next_of-requires : goal.next_of-requires
unfolding maybe_block_in
next_of-requires c = search rules

pub returns-then-ne : goal.returns-then-ne
unfolding maybe_block_in
returns-then-ne c =
    let a = c.args in
    λ m. let s = state_of a.text.now a.reading m in optionally_off (is OPEN_BRACE) (block_in a.of) s
    (is_off OPEN_BRACE s.went (told_ne OPEN_BRACE c.next_of.ensures c.if-ne.ensures))

pub symbol_on-requires : goal.symbol_on-requires
unfolding maybe_block_in
symbol_on-requires c = search rules

pub associations_in-inner-requires : goal.associations_in-inner-requires
unfolding maybe_block_in
associations_in-inner-requires c = search rules

pub symbol_on-requires-2 : goal.symbol_on-requires-2
unfolding maybe_block_in
symbol_on-requires-2 c = search rules

pub returns : goal.returns
unfolding maybe_block_in
returns c =
    let a = c.args in
    λ m. let s = state_of a.text.now a.reading m in
    rw (c.symbol_on-2.ensures m, c.associations_in-inner.ensures m, c.symbol_on.ensures m)
    (block_does a.of s ∙ optionally_on (is OPEN_BRACE) (block_in a.of) s
    (is_on OPEN_BRACE s.went refl (told_ne OPEN_BRACE c.next_of.ensures c.if-ne.ensures)))
