-- A test that computes and gives `Valid`: for a table that is written out.
use Rattle.std.specs.Prelude.{◌&&◌, ◌≡◌}
use Rattle.common.specs.Words.{ℕ, Bool, true, leb, ltb, leb-true, ltb-true}
use Rattle.common.specs.Tests.{both}
use Rattle.common.proofs.Rows.{every, every_at}
use Rattle.model.specs.Model.{Queue, Valid}

abbrev row_valid : Queue → ℕ → Bool
row_valid q i = leb 1 (q.deadline i) && leb (q.deadline i) (q.period i)

unfoldable pub is_valid : Queue → Bool
is_valid q = ltb q.receiver q.rows && every (row_valid q) q.rows

pub valid_of : (q : Queue) → is_valid q ≡ true → Valid q
unfolding is_valid
valid_of q h =
    let p = both (ltb q.receiver q.rows) h in
    record {
      receiver_row = ltb-true _ _ p.0;
      deadline_pos = λ i l. leb-true _ _ (both (leb 1 (q.deadline i)) (every_at (row_valid q) q.rows i p.1 l)).0;
      deadline_fits = λ i l. leb-true _ _ (both (leb 1 (q.deadline i)) (every_at (row_valid q) q.rows i p.1 l)).1;
    }
