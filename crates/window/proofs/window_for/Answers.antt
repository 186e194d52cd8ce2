-- `window_for`: a job that still runs has the window that is remembered.
use Rattle.common.specs.Words.{sym, ◌∙◌}
use Rattle.window.specs.Window.{still_runs}
use Rattle.window.proofs.window_for.Goals as goal

pub returns-in-Some : goal.returns-in-Some
returns-in-Some c =
    let jobs = c.requires.3 c.in-Some.seen c.in-Some.is c.if-seen-queue.true in
    rw (← still_runs _ _ _ jobs (sym c.runs_at.ensures ∙ c.if-runs_at.true), ← c.if-seen-queue.true)
