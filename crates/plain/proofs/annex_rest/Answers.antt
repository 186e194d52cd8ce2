-- `plain::annex_rest`: nothing closes it behind the last `**}`.
use Rattle.std.specs.Prelude.{◌+◌}
use Rattle.common.specs.Words.{rules, sym, ◌∙◌}
use Rattle.common.specs.Tests.{as_tested}
use Rattle.plain.specs.Close.{closed_never, annex_none, annex_close}
use Rattle.plain.proofs.annex_rest.Goals as goal

pub returns-then-not-two_at : goal.returns-then-not-two_at
returns-then-not-two_at c =
    let a = c.args in
    sym (annex_none a.text.now a.at (as_tested c.two_at.ensures c.if-not-two_at.true))

pub returns-then-last-at : goal.returns-then-last-at
returns-then-last-at c =
    let a = c.args in
    let b = annex_close a.text.now a.at (as_tested c.two_at.ensures c.if-not-two_at.false) in
    sym (b ∙ closed_never a.text.now 2 (a.at + 2) (search rules))

pub returns : goal.returns
returns c =
    let a = c.args in
    c.close_rest.ensures
    ∙ sym (annex_close a.text.now a.at (as_tested c.two_at.ensures c.if-not-two_at.false))
