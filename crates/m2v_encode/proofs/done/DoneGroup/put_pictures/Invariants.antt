use Rattle.std.proofs.Common.{◌≡◌, ◌+◌, ◌*◌, ◌^◌, ◌≤◌, ◌<◌, ◌⊎◌, false, length}
use Rattle.m2v_bits.specs.Bits.{packed}
use Rattle.m2v_port.specs.Ends.{SinkStays}
use Rattle.m2v_port.specs.Port.{Grows}
use Rattle.m2v_rate.specs.Plans.{account_at}
use Rattle.m2v_law_shown.specs.m2v_enc_stream.Streams.{pictures_text, zeros_sum}
use Rattle.m2v_encode.specs.Groups.{all_coded, IsPlace}
use Rattle.m2v_encode.proofs.done.DoneGroup.put_pictures.Given as goal

abbrev pub invariant-loop-p : goal.invariant-loop-p
invariant-loop-p g l = record {
  grown : Grows (g.K.Sink.held l.fn.output) (packed (pictures_text l.self (all_coded l.self) l.ledger l.ends (8 * l.fn.total.bytes) l.p)) (g.K.Sink.held l.output);
  frames : l.total.frames ≡ l.fn.total.frames;
  pictures : l.total.pictures ≡ l.fn.total.pictures + l.p;
  bytes : 8 * l.total.bytes ≡ 8 * l.fn.total.bytes + length (pictures_text l.self (all_coded l.self) l.ledger l.ends (8 * l.fn.total.bytes) l.p);
  stuffing : 8 * l.total.stuffing ≡ 8 * l.fn.total.stuffing + zeros_sum l.ledger l.ends l.p;
  place : (l.p < length l.self.pictures) ⊎ (l.ends ≡ false) → IsPlace l.self.settings (account_at l.ledger l.p) (8 * l.total.bytes);
  begun : 0 < l.p → 272 ≤ 8 * l.total.bytes;
  most : l.total.bytes ≤ l.fn.total.bytes + 2 ^ 21 * l.p;
  within : l.total.stuffing + l.fn.total.bytes ≤ l.fn.total.stuffing + l.total.bytes;
  room : 384 ≤ l.headers.room + length l.headers.written;
  output : SinkStays g.K.Sink.ready g.K.Sink.name g.K.Sink.faults l.fn.output l.output;
}
