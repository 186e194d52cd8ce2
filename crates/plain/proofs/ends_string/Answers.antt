-- `plain::ends_string`: by the quote, then by what follows it.
use Rattle.common.specs.Tests.{tests}
use Rattle.plain.specs.Close.{ends_string}
use Rattle.plain.proofs.ends_string.Goals as goal

pub returns-then-text-at-eq34 : goal.returns-then-text-at-eq34
unfolding ends_string
returns-then-text-at-eq34 c = rw (← c.byte_at.ensures) (search tests)

pub returns-else-text-at-eq34 : goal.returns-else-text-at-eq34
unfolding ends_string
returns-else-text-at-eq34 c = search tests
