-- `rows::merged`: the entries so far are those of the table.
use Rattle.std.specs.Prelude.{◌≡◌, ◌-◌, ◌≤◌}
use Rattle.common.specs.Words.{ℕ, length, take, get_or}
use Rattle.common.specs.Table.{table}
use Rattle.rows.specs.States.{first_of}
use Rattle.rows.proofs.merged.Given as goal

abbrev pub invariant-loop-q : goal.invariant-loop-q
invariant-loop-q l = (l.q ≤ 6) × (length l.out ≡ 6) × (take l.q l.out ≡ table (λ (i : ℕ). first_of (get_or l.a i 0) (get_or l.b i 0)) l.q)

abbrev pub decreases-loop-q : goal.decreases-loop-q
decreases-loop-q l = 6 - l.q
