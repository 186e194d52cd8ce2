-- Laws of priorities: the form that the code reads is that of the definition, a priority goes on by a token, and none is over 255.
use Rattle.std.specs.Prelude.{◌+◌, ◌-◌, ◌<◌, ◌≤◌, ◌≡◌, Ok, Err}
use Rattle.common.specs.Words.{ℕ, min, arith, true, false, List, refl, sym, ap, ◌∙◌, leb, leb-true, le-leb}
use Rattle.common.specs.Words.{lt-leb}
use Rattle.common.specs.Stores.{part}
use Rattle.words.specs.Kinds.{NUMBER}
use Rattle.tokens.specs.Tokens.{Token, from}
use Rattle.tokens.specs.Spots.{Stands, token_of, behind}
use Rattle.tokens.specs.declared.Spot.{Spot}
use Rattle.tokens.specs.Laws.{either, cases}
use Rattle.steps.specs.declared.faults.Rule.TheVariants.{Unfit}
use Rattle.words.specs.Same.{same_kind, kind_same}
use Rattle.steps.specs.Faults.{fault, no_fault, worse, worst}
use Rattle.steps.specs.Steps.{Step, On, Stop, head, next}
use Rattle.steps.specs.Laws.{Moved, stopped}
use Rattle.times.specs.declared.Sum.{Sum}
use Rattle.times.specs.Times.{sum, with_bytes, tenfold, most, Formed, valued}
use Rattle.times.specs.Sums.{counted, Forms, unformed, odd_at}
use Rattle.times.specs.Laws.{exact, is_capped, one_moves, number_there}
use Rattle.times.specs.Priorities.{a_priority, most_priority, priority_of, priority, priority_from}

-- ## The form that the code reads

-- a NUMBER, of which the code has reckoned s
module _ (p : List ℕ) (n : Spot) (s : Sum) (reckoned : s ≡ counted (part p n.start (n.end - n.start)) 0) where
  abbrev e : Sum
  e = exact p n 0 s reckoned

  ticks_capped : s.ticks ≡ min most e.ticks
  ticks_capped = ap (λ (u : Sum). u.ticks) (is_capped p n 0 s reckoned)

  point_same : s.point ≡ e.point
  point_same = ap (λ (u : Sum). u.point) (is_capped p n 0 s reckoned)

  abbrev read : Formed
  read = priority_of (token_of p n) (On (from p n.end))

  pub priority_point : s.point ≡ true → Forms p (unformed (Err (fault Unfit n.start a_priority))) read
  unfolding priority_of worst
  priority_point h = let t : e.point ≡ true = sym point_same ∙ h in rw t (record { went = refl; value = refl; fault = refl })

  pub priority_over : s.point ≡ false → most_priority < s.ticks → Forms p (odd_at (Ok n.end) Unfit n.start a_priority) read
  unfolding priority_of worst worse
  priority_over h l =
      let t : e.point ≡ false = sym point_same ∙ h in
      rw (t, lt-leb e.ticks most_priority (omega (arith, ticks_capped))) (record { went = refl; value = refl; fault = refl })

  pub priority_good : s.point ≡ false → s.ticks ≤ most_priority →
      Forms p (record { went = Ok n.end; value = s.ticks + 2; fault = no_fault }) read
  unfolding priority_of worst
  priority_good h l =
      let t : e.point ≡ false = sym point_same ∙ h in
      rw (t, le-leb e.ticks most_priority (omega (arith, ticks_capped)))
      (record { went = refl; value = omega (arith, ticks_capped); fault = refl })

-- a token that is no NUMBER, and one that is
module _ (p : List ℕ) (at : ℕ) (n : Spot) (here : Stands p at n) where
  pub priority_unfit : same_kind n.kind NUMBER ≡ false → Forms p (unformed (Err (fault Unfit n.start a_priority))) (priority (from p at))
  unfolding priority worst
  priority_unfit other = rw (here.tokens, other) (record { went = refl; value = refl; fault = refl })

  pub priority_number : n.kind ≡ NUMBER → priority (from p at) ≡ priority_of (token_of p n) (On (from p n.end))
  unfolding priority behind
  priority_number e = rw (here.tokens, kind_same n.kind NUMBER e, number_there n.kind (kind_same n.kind NUMBER e))

-- ## How far a priority goes

pub priority_moves : (ts : List Token) → Moved 1 ts (priority ts).went
unfolding priority priority_of
priority_moves ts =
    let P : Formed → Type 0 = λ (f : Formed). Moved 1 ts f.went in
    let s = with_bytes tenfold (sum 0 0 false true) (head ts).letters in
    cases P (same_kind (next ts) NUMBER)
    (λ e. let m = one_moves ts (number_there (next ts) e) in
    either P s.point stopped (either P (leb s.ticks most_priority) m m))
    (λ _. stopped)

-- ## No value is greater than that of 255

pub priority_low : (s : Step) → (priority_from s).value ≤ valued most_priority
unfolding priority priority_of
priority_low (Stop f) = omega arith
priority_low (On ts) =
    let P : Formed → Type 0 = λ (f : Formed). f.value ≤ valued most_priority in
    let s = with_bytes tenfold (sum 0 0 false true) (head ts).letters in
    cases P (same_kind (next ts) NUMBER)
    (λ _. cases P s.point (λ _. omega arith)
    (λ _. cases P (leb s.ticks most_priority) (λ e. omega (arith, leb-true s.ticks most_priority e)) (λ _. omega arith)))
    (λ _. omega arith)
