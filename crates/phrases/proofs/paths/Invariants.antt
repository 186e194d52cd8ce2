-- `phrases::paths`: what is left to pass ends where the whole does.
use Rattle.std.specs.Prelude.{◌≡◌}
use Rattle.words.specs.Kinds.{COMMA}
use Rattle.steps.specs.Steps.{◌⟫◌, is, many}
use Rattle.steps.specs.Lifted.{lift, size}
use Rattle.phrases.specs.Phrases.{another}
use Rattle.phrases.proofs.paths.Given as goal

abbrev pub invariant-loop-w : goal.invariant-loop-w
invariant-loop-w l = lift l.text l.w ⟫ many (is COMMA) another ≡ lift l.text l.initial.w ⟫ many (is COMMA) another

abbrev pub decreases-loop-w : goal.decreases-loop-w
decreases-loop-w l = size (lift l.text l.w)
