-- `plain::make_plain`: what is written and what is still to come are the whole.
use Rattle.common.specs.Words.{rules, sym, ◌∙◌, length-set}
use Rattle.plain.specs.Plain.{plain_of}
use Rattle.plain.specs.Inside.{comment_of, left_of, seen}
use Rattle.plain.specs.Close.{plain_more, plain_all}
use Rattle.plain.proofs.make_plain.Goals as goal

pub loop-i-init : goal.loop-i-init
unfolding plain_of
loop-i-init c = (rw c.mark_rest.ensures, search rules)

pub loop-i-preserved : goal.loop-i-preserved
loop-i-preserved c =
    let l = c.loop-i in
    let more = plain_more c.args.text.now l.plain l.i (comment_of l.inside) (left_of l.inside) l.invariant.1
    (seen c.next-seen.result) (search rules) c.next-seen.ensures in
    (more ∙ l.invariant.0, simp length-set l.invariant.1)

pub returns : goal.returns
returns c =
    let l = c.loop-i in
    sym (plain_all c.args.text.now l.plain l.i (comment_of l.inside) (left_of l.inside) l.invariant.1 (search rules)) ∙ l.invariant.0
