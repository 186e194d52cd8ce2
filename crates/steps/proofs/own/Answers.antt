-- `steps::own`.
use Rattle.common.specs.Words.{◌∙◌, sym, true, false}
use Rattle.common.specs.Tests.{as_tested}
use Rattle.words.specs.Kinds.{ENDED}
use Rattle.words.specs.Same.{kind_eq, kind_is, kind_apart, name_there}
use Rattle.tokens.specs.Tokens.{from}
use Rattle.tokens.specs.Spots.{token_of}
use Rattle.steps.specs.Steps.{head}
use Rattle.steps.specs.Spotted.{any_on, own_name_lem, own_by, end_differs}
use Rattle.steps.proofs.own.Goals as goal

pub returns-then-not-is_name : goal.returns-then-not-is_name
returns-then-not-is_name c =
    let a = c.args in
    rw (c.in_ok-here.was, c.unfit.ensures) (own_name_lem a.text.now _ c.spot_at-spot.result
    c.spot_at-spot.ensures (head (from a.text.now a.at)) (sym c.is_name.ensures ∙ c.if-not-is_name.true))

pub returns-then-eq : goal.returns-then-eq
returns-then-eq c =
    let a = c.args in
    let p = a.text.now in
    let s = c.spot_at-spot in
    let e = c.spot_at-its in
    let n = sym c.is_name.ensures ∙ c.if-not-is_name.false in
    rw (c.in_ok-here.was, c.unfit-then-eq.ensures, e.ensures.tokens)
    (own_by p _ s.result s.ensures (token_of p e.result) false n
    (end_differs p _ a.at s.result e.result s.ensures e.ensures n (kind_is _ ENDED (kind_eq _ ENDED c.if-eq.ensures))))

pub same_bytes-requires : goal.same_bytes-requires
same_bytes-requires c =
    let s = c.spot_at-spot in
    let e = c.spot_at-its.ensures in (
      s.ensures.forward,
      s.ensures.within (name_there s.result.kind (sym c.is_name.ensures ∙ c.if-not-is_name.false)),
      e.forward,
      e.within (kind_apart _ ENDED (kind_eq _ ENDED c.if-eq.ensures)),
    )

pub returns-then-not-same_bytes : goal.returns-then-not-same_bytes
returns-then-not-same_bytes c =
    let a = c.args in
    let p = a.text.now in
    let s = c.spot_at-spot in
    rw (c.in_ok-here.was, c.unfit-then-not-same_bytes.ensures, c.spot_at-its.ensures.tokens)
    (own_by p _ s.result s.ensures (token_of p c.spot_at-its.result) false
    (sym c.is_name.ensures ∙ c.if-not-is_name.false) (as_tested c.same_bytes.ensures c.if-not-same_bytes.true))

pub returns : goal.returns
returns c =
    let a = c.args in
    let p = a.text.now in
    let s = c.spot_at-spot in
    let n = sym c.is_name.ensures ∙ c.if-not-is_name.false in
    rw (c.in_ok-here.was, c.spot_at-its.ensures.tokens)
    (any_on p _ s.result s.ensures (name_there s.result.kind n)
    ∙ own_by p _ s.result s.ensures (token_of p c.spot_at-its.result) true n
    (as_tested c.same_bytes.ensures c.if-not-same_bytes.false))
