-- `horizon`, `need` and `row_slots` of the model, over two numbers in the receiver's place: its period, here `chart`, and how long its
-- messages are wanted.
use Rattle.std.specs.Prelude.{◌+◌, ◌-◌, ◌/◌, ◌<◌, ◌≤◌, ◌≡◌}
use Rattle.common.specs.Words.{ℕ, div-mul-le_self, div-eq_of_lt-le, lt-div-mul-add, arith, refl, ap}
use Rattle.common.specs.Totals.{most}
use Rattle.model.specs.Model.{Queue, released, release_of, deadline_of, due_at, precedes, up_to, followers, number, receiver_period, wanted_for}
use Rattle.model.specs.Model.{horizon, outdated, need, row_slots}
use Rattle.counting.specs.Lent.{number_due}

abbrev pub horizon_for : ℕ → ℕ → ℕ → ℕ
horizon_for chart wanted r = released chart ((r - wanted) / chart)

abbrev pub number_for : Queue → ℕ → ℕ → ℕ
number_for q i k = number_due q (deadline_of q i k) i

abbrev pub need_for : Queue → ℕ → ℕ → ℕ → ℕ → ℕ
need_for q chart wanted i k = number_for q i k - up_to q (horizon_for chart wanted (release_of q i k))

abbrev pub row_slots_for : Queue → ℕ → ℕ → ℕ → ℕ → ℕ
row_slots_for q chart wanted H i = most (λ k. need_for q chart wanted i (H / q.period i + k)) (H / q.period i)

pub horizon_back : (chart wanted r : ℕ) → horizon_for chart wanted r ≤ r - wanted
horizon_back chart wanted r = div-mul-le_self (r - wanted) chart

-- the horizon stays where it is until a chart period has passed
pub horizon_stays : (chart wanted from r : ℕ) → 1 ≤ chart → from ≤ r → r < horizon_for chart wanted from + wanted + chart →
    horizon_for chart wanted r ≡ horizon_for chart wanted from
horizon_stays chart wanted from r h a b =
    ap (released chart) (div-eq_of_lt-le chart (omega (arith, horizon_back chart wanted from)) (omega (arith, h, b)))

pub horizon_ahead : (chart wanted r : ℕ) → 1 ≤ chart → r < horizon_for chart wanted r + wanted + chart
horizon_ahead chart wanted r h = omega (arith, lt-div-mul-add {a = r - wanted} h)

-- with the receiver's own period and deadline they are the model's
pub row_slots_own : (q : Queue) (H i : ℕ) → row_slots_for q (receiver_period q) (wanted_for q) H i ≡ row_slots q H i
unfolding row_slots need number outdated horizon up_to followers due_at precedes
row_slots_own q H i = refl
