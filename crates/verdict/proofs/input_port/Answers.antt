-- `verdict::input_port`: where the port was found.
use Rattle.std.specs.Prelude.{◌≡◌, ◌-◌}
use Rattle.common.specs.Words.{suc, arith, ne_eqb}
use Rattle.verdict.specs.Verdict.{in_faults}
use Rattle.verdict.proofs.input_port.Goals as goal

pub returns-in_default : goal.returns-in_default
unfolding in_faults
returns-in_default c = rw c.in_default.is (rw c.cell-place.ensures at c.note.ensures)

pub returns : goal.returns
unfolding in_faults
returns c =
    let row : suc c.in-Some.port - 1 ≡ c.in-Some.port = omega arith in
    rw (c.in-Some.is, ne_eqb (suc c.in-Some.port) 0 (λ e. omega arith), row)
    (rw (c.cell.ensures, c.cell-place.ensures) at c.note-2.ensures)
