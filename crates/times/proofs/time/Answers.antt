-- `times::time`: no number, no unit, a unit that is known, and one that is not.
use Rattle.common.specs.Words.{sym, ◌∙◌}
use Rattle.words.specs.Same.{kind_eq, kind_ne, kind_apart}
use Rattle.words.specs.Kinds.{ENDED, NUMBER, MS, SEC}
use Rattle.times.specs.Times.{time}
use Rattle.times.specs.Laws.{stopped_before, number_there, time_unfit, time_missing, time_ms, time_sec, time_unknown}
use Rattle.times.proofs.time.Goals as goal

pub returns-in_default : goal.returns-in_default
returns-in_default c =
    let a = c.args in
    rw c.unformed.ensures (stopped_before a.text.now time a.went _ c.in_default.is)

pub returns-then-ne : goal.returns-then-ne
returns-then-ne c =
    let n = c.spot_at-number in
    rw (c.in-Ok.is, c.unformed-then-ne.ensures, c.unfit.ensures)
    (time_unfit c.args.text.now _ n.result n.ensures (kind_ne n.result.kind NUMBER c.if-ne.ensures))

pub returns-then-not-is_name : goal.returns-then-not-is_name
returns-then-not-is_name c =
    let n = c.spot_at-number in
    let u = c.spot_at-unit in
    rw (c.in-Ok.is, c.odd.ensures)
    (time_missing c.args.text.now _ n.result u.result n.ensures (kind_ne n.result.kind NUMBER c.if-ne.ensures) u.ensures
    (sym c.is_name.ensures ∙ c.if-not-is_name.true))

pub returns-then-eq : goal.returns-then-eq
returns-then-eq c =
    let n = c.spot_at-number in
    let u = c.spot_at-unit in
    rw (
      c.in-Ok.is,
      time_ms c.args.text.now _ n.result u.result n.ensures (kind_ne n.result.kind NUMBER c.if-ne.ensures) u.ensures
          (kind_eq u.result.kind MS c.if-eq.ensures),
    )
    c.time_of.ensures

pub time_of-requires-then-eq-2 : goal.time_of-requires-then-eq-2
time_of-requires-then-eq-2 c =
    let n = c.spot_at-number in
    (n.ensures.forward, n.ensures.within (kind_apart _ ENDED (number_there _ (kind_ne n.result.kind NUMBER c.if-ne.ensures))))

pub returns-then-eq-2 : goal.returns-then-eq-2
returns-then-eq-2 c =
    let n = c.spot_at-number in
    let u = c.spot_at-unit in
    rw (
      c.in-Ok.is,
      time_sec c.args.text.now _ n.result u.result n.ensures (kind_ne n.result.kind NUMBER c.if-ne.ensures) u.ensures
          (kind_eq u.result.kind SEC c.if-eq-2.ensures),
    )
    c.time_of-then-eq-2.ensures

pub returns : goal.returns
returns c =
    let n = c.spot_at-number in
    let u = c.spot_at-unit in
    rw (c.in-Ok.is, c.odd-2.ensures)
    (time_unknown c.args.text.now _ n.result u.result n.ensures (kind_ne n.result.kind NUMBER c.if-ne.ensures) u.ensures
    (sym c.is_name.ensures ∙ c.if-not-is_name.false) (kind_eq u.result.kind MS c.if-eq.ensures) (kind_eq u.result.kind SEC c.if-eq-2.ensures))
