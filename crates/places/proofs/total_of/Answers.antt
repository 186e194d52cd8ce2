-- `places::total_of`: the library's sum of the counted sizes, row by row.
use Rattle.std.specs.Prelude.{◌+◌, ◌^◌, ◌<◌, ◌≤◌, ◌≡◌}
use Rattle.std.specs.List as lists
use Rattle.std.proofs.lemmas.List.Sums.{sum_by_more}
use Rattle.common.specs.Words.{◌∙◌, ap, ℕ, zero, suc, List, refl, add-one, arith, rules, length, take, get_or}
use Rattle.common.specs.Totals.{sum, sum_bound}
use Rattle.sizing.specs.Bounds.{largest_size}
use Rattle.places.proofs.total_of.Goals as goal

rows : (xs : List ℕ) (n : ℕ) → n ≤ length xs → lists.sum (take n xs) ≡ sum (λ q. get_or xs q 0) n
unfolding sum
rows xs zero h = refl
rows xs (suc n) h =
    let e : lists.sum (take (n + 1) xs) ≡ lists.sum (take n xs) + get_or xs n 0 = sum_by_more (λ (x : ℕ). x) xs n 0 h in
    rw add-one at e ∙ ap (λ (m : ℕ). m + get_or xs n 0) (rows xs n (omega arith))

fits : (xs : List ℕ) (n : ℕ) → length xs ≡ 8 → n ≤ 8 → ((q : ℕ) → q < 8 → get_or xs q 0 ≤ largest_size) →
    lists.sum (take n xs) < 2 ^ 64
fits xs n e h g = omega (arith, rows xs n (omega arith), sum_bound (λ q. get_or xs q 0) n largest_size (λ i l. g i (omega arith)))

pub sum-requires-clause-fits : goal.sum-requires-clause-fits
sum-requires-clause-fits c = search (rules, fits c.args.sizes c.args.queues (search rules) c.requires.0 c.requires.1)

pub returns : goal.returns
returns c =
    let e : c.sum.result ≡ lists.sum (take c.args.queues c.args.sizes) = search rules in
    e ∙ rows c.args.sizes c.args.queues (omega (arith, c.requires.0))
