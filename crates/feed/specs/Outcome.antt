-- What a call of `feed_held` or `feed` leaves: the result, the desk, the carry and the two buffers, from the one definition of feeding.
use Rattle.std.specs.Prelude.{◌+◌, ◌≤◌, ◌≡◌}
use Rattle.common.specs.Words.{ℕ, List, length, take, drop, sets}
use Rattle.desk.specs.declared.Desk.{Desk}
use Rattle.lines.specs.declared.Carry.{Carry}
pub use Rattle.feed.specs.Answers.{console_of}
use Rattle.feed.specs.Answers.{Console}
use Rattle.feed.specs.Feed.{Feeding, feed_of}
use Rattle.feed.specs.declared.Fed.{Fed}

-- the block from a place on is fed, behind a carry
abbrev pub fed_from : Console → List ℕ → List ℕ → ℕ → List ℕ → Feeding
fed_from w carry piece from out = feed_of w carry (drop from piece) (length out)

abbrev pub result_of : Feeding → ℕ → Fed
result_of f from = record { next = from + f.taken; written = length f.answers }

pub record HeldOutcome (f : Feeding) (piece : List ℕ) (from : ℕ) (out₀ : List ℕ) (r : Fed) (desk : Desk) (memory held : List ℕ) (used : ℕ)
    (out : List ℕ) : Type 0 where
  pub result : r ≡ result_of f from
  pub desk_is : desk ≡ f.console.desk
  pub memory_is : memory ≡ f.console.memory
  pub used_is : used ≡ length f.carry
  pub carry_is : take used held ≡ f.carry
  pub out_is : out ≡ sets out₀ 0 f.answers
  -- so that the next call can be made
  pub next_fits : r.next ≤ length piece
  pub written_fits : r.written ≤ length out₀

abbrev pub Outcome : Feeding → List ℕ → ℕ → List ℕ → Fed → Desk → List ℕ → Carry → List ℕ → Type 0
Outcome f piece from out₀ r desk memory carry out = HeldOutcome f piece from out₀ r desk memory carry.held carry.used out
