-- `sizing::sizes::horizon_at`: a release is no later than the tick.
use Rattle.common.specs.Words.{arith, ◌∙◌, ap}
use Rattle.model.specs.Model.{released}
use Rattle.calendar.specs.Calendar.{tick}
use Rattle.calendar.specs.declared.Job.{Job}
use Rattle.sizing.specs.Needs.{horizon_back}
use Rattle.sizing.proofs.sizes.horizon_at.Goals as goal

pub release_of-requires : goal.release_of-requires
release_of-requires c =
    let a = c.args in
    rw (c.job_at-job.ensures, c.saturating_sub.ensures) (omega (arith, horizon_back a.chart a.wanted a.at.0))

pub returns : goal.returns
returns c =
    c.release_of.ensures ∙ ap (λ (k : Job). tick (released c.args.chart k.0)) (rw c.saturating_sub.ensures at c.job_at-job.ensures)
