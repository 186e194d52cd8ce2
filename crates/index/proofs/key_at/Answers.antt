-- `index::key_at`: by the role, then by what the row is.
use Rattle.common.specs.Tests.{tests}
use Rattle.index.specs.Index.{key_by}
use Rattle.index.proofs.key_at.Goals as goal

pub returns-then-role-eq-DECLARED : goal.returns-then-role-eq-DECLARED
unfolding key_by
returns-then-role-eq-DECLARED c =
    let k = c in
    rw (
      c.declared_key.ensures,
      c.column-then-role-eq-DECLARED.ensures,
      c.column.ensures,
      k.column-within.ensures,
      k.column-sort.ensures,
    ) (search tests)

pub returns-then-sort : goal.returns-then-sort
unfolding key_by
returns-then-sort c = rw (← c.column-sort.ensures) (search tests)

pub returns-then-role-eq-CONNECTED : goal.returns-then-role-eq-CONNECTED
unfolding key_by
returns-then-role-eq-CONNECTED c =
    let k = c in
    rw (
      c.column-then-role-eq-CONNECTED.ensures,
      c.column-port.ensures,
      k.column-receiver.ensures,
      k.column-within.ensures,
      ← k.column-sort.ensures,
    )
    (search tests)

pub returns : goal.returns
unfolding key_by
returns c =
    let k = c in
    rw (
      c.column-port.ensures,
      k.column-receiver.ensures,
      k.column-within.ensures,
      ← k.column-sort.ensures,
    ) (search tests)
