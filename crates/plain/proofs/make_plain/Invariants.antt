-- `plain::make_plain`: what is written and what is still to come are the whole.
use Rattle.std.specs.Prelude.{◌≡◌, ◌++◌}
use Rattle.common.specs.Words.{length, drop, take}
use Rattle.plain.specs.Plain.{plain_by, plain_of}
use Rattle.plain.specs.Inside.{comment_of, left_of}
use Rattle.plain.proofs.make_plain.Given as goal

abbrev pub invariant-loop-i : goal.invariant-loop-i
invariant-loop-i l =
    (take l.i l.plain ++ plain_by (comment_of l.inside) (left_of l.inside) (drop l.i l.text) ≡ plain_of l.text)
    × (length l.plain ≡ length l.text)
