-- `frames::answers::put_sizes`: a turn writes one size more.
use Rattle.common.specs.Words.{refl, sym, ap, ◌∙◌, length, length-sets}
use Rattle.frames.specs.Writing.{sizes_none, sizes_more}
use Rattle.frames.proofs.answers.put_sizes.Goals as goal

pub loop-q-init : goal.loop-q-init
loop-q-init c = (refl, sym (sizes_none _ _))

pub loop-q-preserved : goal.loop-q-preserved
loop-q-preserved c =
    let l = c.loop-q in
    let e = c.put_number.ensures in
    (ap length e ∙ simp length-sets l.invariant.0, e ∙ rw l.invariant.1 (sizes_more c.args.sizes.now c.args.out.now l.q))
