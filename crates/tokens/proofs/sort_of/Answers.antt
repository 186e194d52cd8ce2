-- `tokens::sort_of`: the table is what is reckoned, byte by byte.
use Rattle.std.specs.Prelude.{◌<◌, ◌≡◌}
use Rattle.common.specs.Words.{ℕ, List, refl, eqb, eqb-true, get_or}
use Rattle.common.specs.Table.{table}
use Rattle.common.proofs.Rows.{every, every_at}
use Rattle.tokens.specs.Tokens.{rank, sort_of}
use Rattle.tokens.specs.Sorts.{sort_with}
use Rattle.tokens.specs.declared.Sort.{Sort}
use Rattle.tokens.proofs.sort_of.Goals as goal

abbrev sorts : List Sort
sorts = table (λ b. sort_with (sort_of b)) 256

sorted : (b : ℕ) → b < 256 → rank (get_or sorts b Sort.Blank) ≡ sort_of b
unfolding every table sort_of
sorted b l = eqb-true _ _ (every_at (λ k. eqb (rank (get_or sorts k Sort.Blank)) (sort_of k)) 256 b refl l)

pub returns : goal.returns
unfolding table sort_of
returns c = rw c.from.ensures (sorted c.args.b c.ranges.b.fits)
