-- `plain::string_rest`: what is left to look through gives the whole.
use Rattle.std.specs.Prelude.{◌≡◌, ◌+◌, ◌-◌}
use Rattle.common.specs.Words.{rules, sym, ◌∙◌, arith}
use Rattle.plain.specs.Close.{string_none, string_line, string_ends, string_more}
use Rattle.plain.proofs.string_rest.Goals as goal

pub loop-i-init : goal.loop-i-init
loop-i-init c = let z : c.args.at - c.args.at ≡ 0 = omega arith in (rw z, search rules)

pub returns-then-b-eq10 : goal.returns-then-b-eq10
returns-then-b-eq10 c =
    let l = c in
    let a = l.args in
    let i = l.loop-i.i in
    sym (string_line a.text.now (i - a.at) l.loop-i.ended i (search rules) c.if-b-eq10.true) ∙ l.loop-i.invariant.0

pub returns-then-ends_string : goal.returns-then-ends_string
returns-then-ends_string c =
    let l = c in
    let a = l.args in
    let i = l.loop-i.i in
    let n : i + 1 - a.at ≡ i - a.at + 1 = omega arith in
    let e = sym c.ends_string.ensures ∙ c.if-ends_string.true in
    rw n (sym (string_ends a.text.now (i - a.at) l.loop-i.ended i (search rules) c.if-b-eq10.false e) ∙ l.loop-i.invariant.0)

pub loop-i-preserved : goal.loop-i-preserved
loop-i-preserved c =
    let f = c in
    let l = f in
    let a = l.args in
    let i = l.loop-i.i in
    let w = c.quote_width-i.result in
    let n : i + w - a.at ≡ i - a.at + w = omega arith in
    let e = sym f.ends_string.ensures ∙ f.if-ends_string.false in
    let s = string_more a.text.now (i - a.at) l.loop-i.ended i (search rules) f.if-b-eq10.false e in
    (rw (n, c.quote_width-i.ensures.0, f.ended_by-ended.ensures) s ∙ l.loop-i.invariant.0, search rules)

pub returns : goal.returns
returns c =
    let l = c in
    let a = l.args in
    let i = l.loop-i.i in
    sym (string_none a.text.now (i - a.at) l.loop-i.ended i (search rules)) ∙ l.loop-i.invariant.0
