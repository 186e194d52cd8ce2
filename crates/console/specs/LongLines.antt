-- A line of over 100 bytes is answered as its first 101 are.
use Rattle.std.specs.Prelude.{◌<◌, ◌≤◌, ◌≡◌}
use Rattle.common.specs.Words.{ℕ, arith, List, ⊎_elim, sym, ◌∙◌, length, take, length-take, take_all, lt-leb}
use Rattle.common.specs.Tests.{lt_or_le}
use Rattle.digits.specs.Hex.{longest_line, is_line}
use Rattle.console.specs.Types.{Desk}
use Rattle.desk.specs.Desk.{bad, line_turn}

too_long_lem : (d : Desk) (m line : List ℕ) → longest_line < length line → line_turn d m line ≡ bad d m
unfolding line_turn is_line
too_long_lem d m line h = rw (lt-leb (length line) longest_line h)

pub line_taken : (d : Desk) (m line : List ℕ) (n : ℕ) → longest_line < n → line_turn d m (take n line) ≡ line_turn d m line
line_taken d m line n h =
    ⊎_elim (λ (g : longest_line < length line). too_long_lem d m (take n line) (omega (arith, length-take n line))
    ∙ sym (too_long_lem d m line g))
    (λ (g : length line ≤ longest_line). let e : take n line ≡ line = take_all n line (omega arith) in rw e)
    (lt_or_le longest_line (length line))
