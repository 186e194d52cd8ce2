-- `lines::join`: by whether a carry began the line; then what `keep` ensures.
use Rattle.common.specs.Tests.{tests}
use Rattle.lines.proofs.join.Goals as goal

pub returns-then-used-eq0 : goal.returns-then-used-eq0
returns-then-used-eq0 c = search tests

pub returns : goal.returns
returns c = search (tests, c.keep.ensures)
