-- `Types::first_on_way`: what is left of the way has what the whole has.
use Rattle.std.specs.Prelude.{◌≡◌, ◌-◌, ◌<◌, Option, IfSome}
use Rattle.common.specs.Words.{ℕ, get_or}
use Rattle.index.specs.Options.{number_in}
use Rattle.ways.specs.Ways.{most_types, way_by, first_some}
use Rattle.ways.specs.Laws.{SomeLeft}
use Rattle.ways.proofs.types.Types.first_on_way.Given as goal

abbrev pub invariant-loop-turn : goal.invariant-loop-turn
invariant-loop-turn g l =
    IfSome l.next (λ j. j < l.self.rows.count)
    × ((h : ℕ → Option ℕ) → ((j : ℕ) → j < l.self.rows.count → (r : Option ℕ) → goal.F-post g l.has j r → r ≡ h j) →
    SomeLeft (λ (j : ℕ). get_or l.self.above.now j 0) h (most_types - l.turn) l.next
    (first_some h (way_by (λ (j : ℕ). get_or l.self.above.now j 0) most_types (number_in l.fn.first))))
