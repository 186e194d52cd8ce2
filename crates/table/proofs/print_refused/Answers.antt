-- `table::print_refused`: only what was written is printed; the line has 7 bytes.
use Rattle.std.specs.Prelude.{◌≡◌}
use Rattle.common.specs.Words.{arith, length, length-take}
use Rattle.plan.specs.Refusals.{number_of}
use Rattle.plan.specs.declared.refusal.Refusal.{Refusal}
use Rattle.frames.specs.Answers.{line_of, refusal_bytes}
use Rattle.listing.specs.Laws.{numbers_length}
use Rattle.table.proofs.print_refused.Goals as goal

seven : (r : Refusal) → length (line_of (refusal_bytes r)) ≡ 7
unfolding refusal_bytes
seven r = numbers_length 1 1 1 0x7f (number_of r.rule) r.row

pub slice_bounds-out-end : goal.slice_bounds-out-end
slice_bounds-out-end c = omega (arith, c.write_refusal-n.ensures.0, seven c.args.refusal, c.write_refusal-n.auto.out)

pub slice_bounds-write_answers-end : goal.slice_bounds-write_answers-end
slice_bounds-write_answers-end c =
    let n = c.write_refusal-n.result in
    let out = c.write_refusal-n.new.out in
    omega (arith, c.write_refusal-n.ensures.0, seven c.args.refusal, c.write_refusal-n.auto.out, length-take n out)
