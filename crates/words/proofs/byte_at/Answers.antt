-- `words::byte_at`: 0 behind the end.
use Rattle.std.specs.Prelude.{◌≤◌}
use Rattle.common.specs.Words.{sym, arith, length, get_or-eq_default}
use Rattle.words.proofs.byte_at.Goals as goal

pub returns-else-at-text : goal.returns-else-at-text
returns-else-at-text c =
    let a = c.args in
    let h : length a.text.now ≤ a.at = omega arith in
    sym (get_or-eq_default a.text.now 0 {n = a.at} h)
