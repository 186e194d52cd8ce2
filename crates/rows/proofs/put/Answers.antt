-- `rows::put`.
use Rattle.rows.specs.Said.{put}
use Rattle.rows.specs.Laws.{stopped_stays, put_goes}
use Rattle.rows.proofs.put.Goals as goal

pub returns-in_default : goal.returns-in_default
returns-in_default c = let a = c.args in λ p row e. stopped_stays p a.reading a.rows.now (put row) _ c.in_default.is

pub returns : goal.returns
returns c =
    let a = c.args in
    λ p row e. put_goes p a.reading a.rows.now _ c.keep.result _ row c.in-Ok.is (rw e c.keep.ensures)
