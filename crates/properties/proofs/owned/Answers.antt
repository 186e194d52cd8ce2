-- `properties::owned`: the first counts, a second is noted.
use Rattle.common.specs.Words.{rules}
use Rattle.rows.specs.States.{state_of}
use Rattle.properties.specs.Laws.{owned_first, owned_second}
use Rattle.properties.proofs.owned.Goals as goal

pub returns-then-props-property-eq0 : goal.returns-then-props-property-eq0
returns-then-props-property-eq0 c =
    let a = c.args in
    let f = c.form-f.ensures in
    λ m.
    rw (
      c.worse.ensures,
      c.symbol-closed.ensures,
      f.went,
      f.value,
      f.fault,
      c.symbol.ensures,
      c.scoped.ensures,
    )
    (owned_first a.property (state_of a.text.now a.reading m) c.requires.1 (search rules))

pub returns : goal.returns
returns c =
    let a = c.args in
    let f = c.form-f.ensures in
    λ m.
    rw (
      c.worse-3.ensures,
      c.worse-2.ensures,
      c.start_of.ensures,
      c.symbol-closed.ensures,
      f.went,
      f.fault,
      c.symbol.ensures,
      c.scoped.ensures,
    )
    (owned_second a.property (state_of a.text.now a.reading m) c.requires.1 (search rules))
