-- `listing::writer::Writer::number`.
use Rattle.common.specs.Words.{refl, arith}
use Rattle.digits.specs.HexLaws.{digits_length}
use Rattle.digits.specs.NumberLaws.{bytes_length}
use Rattle.digits.specs.Numbers.{in_bytes}
use Rattle.listing.proofs.writer.Writer.number.Goals as goal

pub returns-clause-put : goal.returns-clause-put
returns-clause-put c =
    let a = c.args in
    record {
      same_memory = refl;
      same_room = c.put_number.auto.out;
      put = c.put_number.ensures;
      behind = omega (arith, digits_length (in_bytes a.bytes a.number), bytes_length a.bytes a.number);
    }
