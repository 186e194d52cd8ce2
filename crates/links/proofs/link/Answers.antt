-- `links::link`.
use Rattle.std.specs.Prelude.{◌≡◌}
use Rattle.common.specs.Words.{ℕ, true, false, List, sym, ap, ◌∙◌}
use Rattle.words.specs.Kinds.{SEMICOLON}
use Rattle.steps.specs.Steps.{On, the}
use Rattle.rows.specs.Rows.{Row, link_row}
use Rattle.rows.specs.Said.{quiet, put}
use Rattle.rows.specs.States.{State, state_of, does}
use Rattle.rows.specs.Laws.{does_quiet}
use Rattle.properties.specs.Properties.{of_port, maybe_block_in}
use Rattle.links.specs.Links.{ends, linked}
use Rattle.links.specs.Laws.{ends_does, link_between, link_passed}
use Rattle.links.proofs.link.Goals as goal

pub returns-then-not-between : goal.returns-then-not-between
returns-then-not-between c =
    let a = c.args in
    let p = a.text.now in let m = a.rows.now in let s = state_of p a.reading m in
    let behind : state_of p c.on-head.result m ≡ does s (quiet (λ us. ends (On us))) =
    rw (c.on-head.ensures, c.ends_of-ends.ensures.went, ends_does s.went) (does_quiet s (λ us. ends (On us))) in
    let told : c.ends_of-ends.result.pointed ≡ false = c.if-not-between.true in
    c.symbol_on-whole.ensures m ∙ ap (λ (t : State). does t (quiet (the SEMICOLON))) (c.maybe_block_in.ensures m
    ∙ ap (λ (t : State). does t (maybe_block_in of_port)) behind)
    ∙ link_passed a.process a.start a.named s (sym c.ends_of-ends.ensures.both ∙ told)

pub returns : goal.returns
unfolding link_row
returns c =
    let a = c.args in
    let p = a.text.now in let m = a.rows.now in let s = state_of p a.reading m in
    let item : List ℕ → Row = linked a.process a.start a.named s.went in
    let behind : state_of p c.on-head.result m ≡ does s (quiet (λ us. ends (On us))) =
    rw (c.on-head.ensures, c.ends_of-ends.ensures.went, ends_does s.went) (does_quiet s (λ us. ends (On us))) in
    let told : c.ends_of-ends.result.pointed ≡ true = c.if-not-between.false in
    c.put.ensures p item
    (rw (
      c.timing_of.ensures,
      c.ends_of-ends.ensures.sender,
      c.ends_of-ends.ensures.out,
      c.ends_of-ends.ensures.receiver,
      c.ends_of-ends.ensures.into,
      c.ends_of-ends.ensures.delayed,
    ))
    ∙ ap (λ (t : State). does t (put item))
    (c.symbol_on-whole.ensures m ∙ ap (λ (t : State). does t (quiet (the SEMICOLON))) (c.maybe_block_in.ensures m
    ∙ ap (λ (t : State). does t (maybe_block_in of_port)) behind))
    ∙ link_between a.process a.start a.named s (sym c.ends_of-ends.ensures.both ∙ told)
