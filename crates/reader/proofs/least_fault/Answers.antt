-- `reader::least_fault`.
use Rattle.common.specs.Words.{◌∙◌}
use Rattle.reader.specs.Laws.{end_stopped, end_long}
use Rattle.reader.proofs.least_fault.Goals as goal

pub returns-in-Err : goal.returns-in-Err
returns-in-Err c = c.worse.ensures ∙ end_stopped _ _ _ _ _ _ c.in-Err.is

pub returns-in-Ok : goal.returns-in-Ok
returns-in-Ok c = end_long _ _ _ _ _ _ c.in-Ok.is c.if-long.true
