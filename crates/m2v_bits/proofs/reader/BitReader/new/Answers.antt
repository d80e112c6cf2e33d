use Rattle.std.proofs.Common.{List, Bool, ap}
use Rattle.m2v_bits.specs.Bits.{Unread, bits}
use Rattle.m2v_bits.proofs.Cursor.{padded-none}
use Rattle.m2v_bits.proofs.reader.BitReader.new.Goals as goal

pub returns : goal.returns
returns c = let whole : List Bool → Unread = λ t. record { text = t; place = 0; rest = t } in ap whole (padded-none (bits c.args.bytes.now))
