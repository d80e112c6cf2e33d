-- The rule on the rate at which a picture's bits arrive (clause 6.3.3 bit_rate, and C.3.1): what the delays of two pictures imply.
use Rattle.std.specs.Prelude.{ℕ, ◌+◌, ◌-◌, ◌*◌, ◌&&◌, not, nat_eq, nat_lt, [], Option, Some, None}
use Rattle.m2v_check.specs.declared.coded.CodedPicture.{CodedPicture}
use Rattle.m2v_strict.specs.declared.element.Element.TheVariants as elements
use Rattle.m2v_strict.specs.declared.preceding.Arrival.{Arrival}
use Rattle.m2v_strict.specs.Remarks.{Remarks, remark, judge, looked_at}

-- The bits from the end of one picture start code to the end of the next arrive between two times: each is its picture's removal
-- less its vbv_delay, in units of 1/720,000 s, of which a tick of a delay has eight. Either delay is granted a tick.
abbrev pub bits_between : Arrival → CodedPicture → ℕ
bits_between d p = p.note.code_end - d.code_end

abbrev pub time_between : Arrival → CodedPicture → ℕ
time_between d p = (d.units + 8 * d.delay + 16) - 8 * p.note.info.vbv_delay

-- 29: they are fewer than arrive at the bit rate of the sequence, in units of 1/1800 bit; a delay of 65535 implies no rate
unfoldable pub arrival_rule : ℕ → Option Arrival → CodedPicture → Remarks
arrival_rule rate None p = []
arrival_rule rate (Some d) p =
    let have = 1800 * bits_between d p in
    let need = rate * time_between d p in
    looked_at (not (nat_eq d.delay 65535) && not (nat_eq p.note.info.vbv_delay 65535))
    (judge (nat_lt have need) (remark 29 elements.ArrivalRate have need))
