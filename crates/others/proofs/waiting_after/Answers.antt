-- `others::waiting_after`.
use Rattle.common.specs.Words.{sym, ◌∙◌, ap}
use Rattle.others.specs.Others.{ends_waiting}
use Rattle.others.specs.Laws.{waits_none, waits_same, waits_more}
use Rattle.others.proofs.waiting_after.Goals as goal
use Rattle.others.proofs.waiting_after.Goals.{then-not-outside-via-then-not-outside, then-not-outside-via-else-not-outside+then-not-is_reaching}

pub returns-then-ends_waiting : goal.returns-then-ends_waiting
returns-then-ends_waiting c =
    let a = c.args in
    λ w e. waits_none a.outside w a.waiting e _ _ _
    (sym (c.ends_waiting.ensures ∙ ap ends_waiting c.next_of-kind.ensures) ∙ c.if-ends_waiting.true)

pub returns-then-not-outside : goal.returns-then-not-outside
returns-then-not-outside c =
    let a = c.args in
    let on = sym (c.ends_waiting.ensures ∙ ap ends_waiting c.next_of-kind.ensures) ∙ c.if-ends_waiting.false in
    λ w e. waits_same a.outside w a.waiting e _ _ _ on
    (elim c.then-not-outside.branch [
      | then-not-outside-via-then-not-outside x ↦ rw x.if-not-outside.true
      | then-not-outside-via-else-not-outside+then-not-is_reaching x ↦
          rw (x.if-not-outside.false, ← c.next_of-kind.ensures, ← x.second_of.ensures) (sym x.is_reaching.ensures ∙ x.if-not-is_reaching.true)
    ])

pub returns : goal.returns
returns c =
    let a = c.args in
    let on = sym (c.ends_waiting.ensures ∙ ap ends_waiting c.next_of-kind.ensures) ∙ c.if-ends_waiting.false in
    λ w e. rw (c.worse.ensures, c.start_of.ensures)
    (waits_more a.outside w a.waiting e _ _ _ on
    (rw (c.if-not-outside.false, ← c.next_of-kind.ensures, ← c.second_of.ensures) (sym c.is_reaching.ensures ∙ c.if-not-is_reaching.false)))
