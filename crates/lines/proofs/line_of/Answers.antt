-- `lines::line_of`: by whether a carry began the line.
use Rattle.std.specs.Prelude.{◌≡◌, ◌+◌, ◌-◌}
use Rattle.common.specs.Words.{rules, arith, drop, length-take, refl, sym, min, le-ltb}
use Rattle.lines.specs.Lines.{carry_limit}
use Rattle.lines.specs.Held.{cut_take}
use Rattle.common.specs.Tests.{tests}
use Rattle.lines.proofs.line_of.Goals as goal

pub slice_bounds-result-end : goal.slice_bounds-result-end
slice_bounds-result-end c = simp length-take (omega arith)

pub returns-then-n-gt0 : goal.returns-then-n-gt0
returns-then-n-gt0 c = search tests

pub returns : goal.returns
returns c =
    let a = c.args in
    let e : a.from + c.min.result - a.from ≡ min carry_limit (a.to - a.from) = search rules in
    rw (e, le-ltb 0 a.n c.if-n-gt0.false) (sym (cut_take (a.to - a.from) (drop a.from a.piece.now)), refl)
