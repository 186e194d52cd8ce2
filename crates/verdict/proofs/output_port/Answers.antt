-- `verdict::output_port`: where the port was found.
use Rattle.std.specs.Prelude.{◌≡◌, ◌-◌}
use Rattle.common.specs.Words.{suc, arith, not, refl, ap, ◌∙◌, ne_eqb}
use Rattle.index.specs.Options.{this_value}
use Rattle.index.specs.Held.{rows_of}
use Rattle.verdict.specs.Verdict.{timing_by, out_faults}
use Rattle.verdict.specs.Laws.{worst_then}
use Rattle.verdict.proofs.output_port.Goals as goal

pub returns-in_default : goal.returns-in_default
unfolding out_faults
returns-in_default c = rw c.in_default.is (rw c.cell-place.ensures at c.note.ensures)

pub returns : goal.returns
unfolding out_faults
returns c =
    let row : suc c.in-Some.port - 1 ≡ c.in-Some.port = omega arith in
    let said = timing_by (rows_of c.args.rows.now) c.args.k (suc c.in-Some.port) in
    let delayed = c.ne.ensures ∙ ap not (this_value said 0 refl c.timing.ensures) in
    rw (c.in-Some.is, ne_eqb (suc c.in-Some.port) 0 (λ e. omega arith))
    (worst_then _ _ _ (rw (c.cell-direction.ensures, ← row, c.cell-place.ensures) at c.note-directed.ensures)
    (rw (delayed, c.cell-place.ensures) at c.note-2.ensures))
