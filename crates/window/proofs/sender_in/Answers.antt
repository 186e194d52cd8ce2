-- `sender_in`: the row that is due at the number's deadline and has the number.
use Rattle.std.specs.Prelude.{◌≤◌}
use Rattle.common.specs.Words.{ℕ, ltb}
use Rattle.common.proofs.Rows.{first_bad_is}
use Rattle.model.specs.Model.{Queue, up_to, tick_of, sender_of}
use Rattle.plan.specs.Limits.{last_tick}
use Rattle.window.proofs.sender_in.Goals as goal

tick_within : (q : Queue) (most n : ℕ) → tick_of q most n ≤ most
unfolding tick_of
tick_within q most n = (first_bad_is (λ t. ltb (up_to q t) n) most).within

pub sender_at-requires : goal.sender_at-requires
sender_at-requires c = rw c.tick_between-at.ensures (c.requires.0, tick_within _ last_tick _)

pub returns : goal.returns
unfolding sender_of
returns c = rw (c.sender_at.ensures, c.tick_between-at.ensures)
