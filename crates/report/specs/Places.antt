-- "line and column counted from 1": where the byte behind some bytes stands.
use Rattle.std.specs.Prelude.{◌+◌, ◌∷◌}
use Rattle.common.specs.Words.{ℕ, cond, List, [], eqb}
use Rattle.report.specs.declared.found.Point.{Point}

-- a line feed ends its line
abbrev pub past : Point → ℕ → Point
past p b =
    cond (eqb b 0x0a) (record { line = p.line + 1; column = 1 }) (record { line = p.line; column = p.column + 1 })

unfoldable pub behind : Point → List ℕ → Point
behind p [] = p
behind p (b ∷ bs) = behind (past p b) bs

abbrev pub first : Point
first = record { line = 1; column = 1 }

abbrev pub point_of : List ℕ → Point
point_of bytes = behind first bytes
