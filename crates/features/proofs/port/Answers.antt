-- `features::port`.
use Rattle.common.specs.Words.{ℕ, List, refl, ap, ◌∙◌}
use Rattle.words.specs.Kinds.{SEMICOLON}
use Rattle.steps.specs.Steps.{the}
use Rattle.rows.specs.Rows.{port_row}
use Rattle.rows.specs.Said.{quiet, put}
use Rattle.rows.specs.States.{State, state_of, does}
use Rattle.rows.specs.Laws.{does_quiet}
use Rattle.properties.specs.Properties.{of_port, maybe_block_in}
use Rattle.features.specs.Features.{port_head}
use Rattle.features.specs.Laws.{port_does}
use Rattle.features.proofs.port.Goals as goal

pub returns : goal.returns
unfolding port_row
returns c =
    let a = c.args in
    let o = a.owner in let n = a.named in let p = a.text.now in let m = a.rows.now in let s = state_of p a.reading m in
    c.put.ensures p (λ (qs : List ℕ). port_row o n c.direction_of-way.result qs) refl
    ∙ ap (λ (t : State). does t (put (λ (qs : List ℕ). port_row o n c.direction_of-way.result qs)))
    (c.symbol_on-whole.ensures m ∙ ap (λ (t : State). does t (quiet (the SEMICOLON))) (c.maybe_block_in.ensures m
    ∙ ap (λ (t : State). does t (maybe_block_in of_port)) (rw (c.on-head.ensures, c.port_head.ensures) (does_quiet s port_head))))
    ∙ port_does o n s c.direction_of-way.result c.direction_of-way.ensures
