-- What is declared is paid for by its text: a row has 9 bytes at least.
use Rattle.std.specs.Prelude.{◌+◌, ◌-◌, ◌*◌, ◌≤◌, ◌≡◌}
use Rattle.common.specs.Words.{ℕ, zero, suc, arith, Bool, List, [], length, length-append}
use Rattle.tokens.specs.Tokens.{Token}
use Rattle.tokens.specs.Laws.{cases}
use Rattle.steps.specs.declared.faults.Fault.{Fault}
use Rattle.steps.specs.Steps.{Step, On, Stop}
use Rattle.steps.specs.Laws.{weight, Moved, Moves, went, stopped}
use Rattle.rows.specs.Rows.{Row}
use Rattle.rows.specs.Said.{Said, said, Rule, quiet, onward, ◌⨟◌, optionally, repeat_by, repeat, put, no_props, apart, adding}

-- so many rows were declared from these tokens on: where the rule goes on, what it has read pays for them, all but d bytes, which what stands
-- before it has to pay, and n bytes are left over; where it has stopped, the tokens and d bytes pay for them
pub data Paid (d n : ℕ) (ts : List Token) (rows : ℕ) : Step → Type 0 where
  on : {rest : List Token} → 9 * rows + (n + weight rest) ≤ d + weight ts → Paid d n ts rows (On rest)
  off : {f : Fault} → 9 * rows ≤ d + weight ts → Paid d n ts rows (Stop f)

abbrev pub PaidBy : ℕ → ℕ → List Token → Said → Type 0
PaidBy d n ts s = Paid d n ts (length s.rows) s.went

abbrev pub Pays : ℕ → ℕ → Rule → Type 0
Pays d n rule = (ps : List ℕ) (ts : List Token) → PaidBy d n ts (rule ps ts)

-- in either case the tokens and d bytes pay for the rows
pub paid_all : {d n rows : ℕ} {ts : List Token} {s : Step} → Paid d n ts rows s → 9 * rows ≤ d + weight ts
paid_all (on h) = omega (arith, h)
paid_all (off h) = h

-- more bytes to pay, and less left over
pub paid_less : {d n rows : ℕ} (e m : ℕ) {ts : List Token} {s : Step} → d ≤ e → m ≤ n → Paid d n ts rows s → Paid e m ts rows s
paid_less e m x y (on {rest} h) = on {rest = rest} (omega (arith, h))
paid_less e m x y (off h) = off (omega (arith, h))

-- ## Rules that declare nothing

pub paid_moved : {n : ℕ} {ts : List Token} {s : Step} → Moved n ts s → Paid 0 n ts 0 s
paid_moved (went {rest} g) = on {rest = rest} (omega (arith, g.heavy))
paid_moved stopped = off (omega arith)

pub pays_quiet : {n : ℕ} (f : List Token → Step) → Moves n f → Pays 0 n (quiet f)
pays_quiet f h ps ts = paid_moved (h ts)

pub paid_silent : {n : ℕ} {ts : List Token} (s : Said) → s.rows ≡ [] → Moved n ts s.went → PaidBy 0 n ts s
paid_silent s e m = rw e (paid_moved m)

-- ## Rules that declare

pub pays_put : (row : List ℕ → Row) → Pays 9 0 (put row)
pays_put row ps ts = on {rest = ts} (omega arith)

-- one rule after another: what the first leaves over pays for the second
pub paid_onward : {d n e m : ℕ} {ts : List Token} (s : Said) (g : Rule) → PaidBy d n ts s →
    Pays e m g → PaidBy (d + (e - n)) (n - e + m) ts (s ⨟ g)
paid_onward {d} {n} {e} {m} {ts} s g a b = go s.went a
  where
    then_paid : {us : List Token} {rows : ℕ} {w : Step} → 9 * length s.rows + (n + weight us) ≤ d + weight ts → Paid e m us rows w →
        Paid (d + (e - n)) (n - e + m) ts (length s.rows + rows) w
    then_paid x (on {rest} y) = on {rest = rest} (omega (arith, x, y))
    then_paid x (off y) = off (omega (arith, x, y))

    go : (w : Step) → Paid d n ts (length s.rows) w → PaidBy (d + (e - n)) (n - e + m) ts (onward w s g)
    go (On us) (on x) = rw (length-append s.rows (g s.props us).rows) (then_paid x (b s.props us))
    go (Stop f) (off x) = off (omega (arith, x))

pub pays_both : {d n e m : ℕ} (f g : Rule) → Pays d n f → Pays e m g → Pays (d + (e - n)) (n - e + m) (λ ps ts. f ps ts ⨟ g)
pays_both f g a b ps ts = paid_onward (f ps ts) g (a ps ts) b

-- nothing is said
pub paid_none : (d : ℕ) (ps : List ℕ) (ts : List Token) → PaidBy d 0 ts (said (On ts) ps [] [])
paid_none d ps ts = on {rest = ts} (omega arith)

pub pays_optionally : {d n : ℕ} (b : List Token → Bool) (f : Rule) → Pays d n f → Pays d 0 (optionally b f)
unfolding optionally
pays_optionally {d} b f h ps ts = cases (PaidBy d 0 ts) (b ts) (λ _. paid_less d 0 (omega arith) (omega arith) (h ps ts)) (λ _. paid_none d ps ts)

pub pays_apart : {d n : ℕ} (f : Rule) → Pays d n f → Pays d n (apart f)
unfolding apart
pays_apart f h ps ts = h no_props ts

pub pays_adding : {d n : ℕ} (f : Rule) → Pays d n f → Pays d n (adding f)
unfolding adding
pays_adding f h ps ts = h no_props ts

-- { rule }, where each time pays for itself
module _ (b : List Token → Bool) (r : Rule) (h : Pays 0 0 r) where
  repeat_by_pays : (n : ℕ) → Pays 0 0 (repeat_by n b r)
  unfolding repeat_by
  repeat_by_pays zero ps ts = paid_none 0 ps ts
  repeat_by_pays (suc n) ps ts = cases (PaidBy 0 0 ts) (b ts) (λ _. paid_onward (r ps ts) (repeat_by n b r) (h ps ts) (repeat_by_pays n))
      (λ _. paid_none 0 ps ts)

  pub pays_repeat : Pays 0 0 (repeat b r)
  unfolding repeat
  pays_repeat ps ts = repeat_by_pays (suc (length ts)) ps ts
