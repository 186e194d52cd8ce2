-- `ways::type_named`.
use Rattle.common.specs.Tests.{tests}
use Rattle.ways.specs.Ways.{type_named}
use Rattle.ways.proofs.type_named.Goals as goal

pub returns-then-name-eq0 : goal.returns-then-name-eq0
unfolding type_named
returns-then-name-eq0 c = search tests

pub returns : goal.returns
unfolding type_named
returns c = rw c.find.ensures.is (search tests)
