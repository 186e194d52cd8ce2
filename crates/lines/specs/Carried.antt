-- What is carried of a line that has not ended: the first `used` bytes of the carry's buffer.
use Rattle.common.specs.Words.{ℕ, List, take}
use Rattle.lines.specs.declared.Carry.{Carry}

abbrev pub carried : Carry → List ℕ
carried k = take k.used k.held
