-- `keys::turn`: what the code reckons, below the prime.
-- the product by the factor fits, and what is added to it
use Rattle.std.specs.Prelude.{◌+◌, ◌*◌, ◌%◌}
use Rattle.common.specs.Words.{rules, refl}
use Rattle.keys.specs.Keys.{prime, turned}
use Rattle.keys.specs.Laws.{turned_below, product_below, square_below}
use Rattle.keys.proofs.turn.Goals as goal

pub overflow_mul-x : goal.overflow_mul-x
overflow_mul-x c = search (rules, product_below _ _ c.requires.0 c.requires.2)

pub overflow_add-x : goal.overflow_add-x
overflow_add-x c = search (rules, product_below _ _ c.requires.0 c.requires.2)

pub overflow_add-x-2 : goal.overflow_add-x-2
overflow_add-x-2 c = search (rules, product_below _ _ c.requires.0 c.requires.2)

-- so does the square
pub overflow_mul-result : goal.overflow_mul-result
overflow_mul-result c = search (rules, square_below (c.args.own * c.args.factor + (c.args.other + c.args.n % prime) + 1))

pub overflow_add-result : goal.overflow_add-result
overflow_add-result c = search (rules, square_below (c.args.own * c.args.factor + (c.args.other + c.args.n % prime) + 1))

pub returns : goal.returns
unfolding turned
returns c = (refl, turned_below c.args.factor c.args.own c.args.other c.args.n)
