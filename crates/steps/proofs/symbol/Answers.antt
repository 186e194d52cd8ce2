-- `steps::symbol`.
use Rattle.std.specs.Prelude.{◌≡◌}
use Rattle.common.specs.Words.{sym, ◌∙◌}
use Rattle.words.specs.Kinds.{ENDED}
use Rattle.words.specs.Same.{kind_eq, kind_ne, kind_is, kind_apart}
use Rattle.steps.specs.Spotted.{any_end, any_on, the_off, the_on}
use Rattle.steps.proofs.symbol.Goals as goal

pub returns-then-ne : goal.returns-then-ne
returns-then-ne c =
    let s = c.spot_at-spot in
    rw (c.in_ok-at.was, c.unfit.ensures)
    (the_off _ _ s.result s.ensures c.args.kind (kind_apart _ c.args.kind (kind_ne _ c.args.kind c.if-ne.ensures)))

pub returns-then-eq : goal.returns-then-eq
returns-then-eq c =
    let s = c.spot_at-spot in
    let k : s.result.kind ≡ c.args.kind = kind_is _ c.args.kind (kind_ne _ c.args.kind c.if-ne.ensures) in
    rw c.in_ok-at.was
    (any_end _ _ s.result s.ensures (k ∙ kind_is _ ENDED (kind_eq _ ENDED c.if-eq.ensures)) ∙ the_on _ _ s.result s.ensures c.args.kind k)

pub returns : goal.returns
returns c =
    let s = c.spot_at-spot in
    let k : s.result.kind ≡ c.args.kind = kind_is _ c.args.kind (kind_ne _ c.args.kind c.if-ne.ensures) in
    rw c.in_ok-at.was
    (any_on _ _ s.result s.ensures (λ e. kind_apart c.args.kind ENDED (kind_eq _ ENDED c.if-eq.ensures) (sym k ∙ e))
    ∙ the_on _ _ s.result s.ensures c.args.kind k)
