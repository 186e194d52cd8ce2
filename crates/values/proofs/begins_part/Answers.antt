-- `values::begins_part`.
use Rattle.common.specs.Words.{rules}
use Rattle.common.specs.Tests.{tests}
use Rattle.words.specs.Same.{kind_differs}
use Rattle.values.specs.Values.{part_kind}
use Rattle.values.proofs.begins_part.Goals as goal
use Rattle.values.proofs.begins_part.Goals.{in-Sign-eq41, in-Sign-eq41-2, in-Sign-eq41-3, in-Sign-eq41-4, in-Sign-eq41-5, in-Sign-eq41-6}
use Rattle.values.proofs.begins_part.Goals.{in-Sign-eq41-7, in_default, in_default-2}

pub returns : goal.returns
unfolding part_kind
returns c =
    elim c.match-matches.branch [
      | in-Sign-eq41 w ↦ search rules
      | in-Sign-eq41-2 w ↦ search rules
      | in-Sign-eq41-3 w ↦ search rules
      | in-Sign-eq41-4 w ↦ search rules
      | in-Sign-eq41-5 w ↦ search rules
      | in-Sign-eq41-6 w ↦ search rules
      | in-Sign-eq41-7 w ↦ search rules
      | in_default w ↦ search tests
      | in_default-2 w ↦ search (rules, kind_differs)
    ]
