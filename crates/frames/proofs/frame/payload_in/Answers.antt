-- `frames::frame::payload_in`: what lies behind the first eight bytes, if anything does.
-- nothing lies behind the end
use Rattle.std.specs.Prelude.{◌-◌, ◌≤◌, ◌≡◌}
use Rattle.common.specs.Words.{ℕ, arith, List, [], sym, length, drop, length-drop, take_all, ext_get_or, rules, lt-ltb, le-ltb}
use Rattle.frames.specs.Frames.{payload_in}
use Rattle.frames.proofs.frame.payload_in.Goals as goal

drop_past : (n : ℕ) (l : List ℕ) → length l ≤ n → drop n l ≡ []
drop_past n l h = ext_get_or 0 (drop n l) [] (simp length-drop (omega arith)) (λ k g. absurd (omega (arith, length-drop n l)))

pub returns-then-bytes-lt-PAYLOAD : goal.returns-then-bytes-lt-PAYLOAD
unfolding payload_in
returns-then-bytes-lt-PAYLOAD c =
    let l = c.args.bytes.now in
    (sym (drop_past 8 l (search rules)), rw (lt-ltb (length l) 8 (search rules)))

pub returns : goal.returns
unfolding payload_in
returns c =
    let l = c.args.bytes.now in
    (take_all (length l - 8) (drop 8 l) (simp length-drop (omega arith)), rw (le-ltb (length l) 8 (search rules)))
