use Rattle.std.proofs.Common.{◌≡◌, length}
use Rattle.m2v_port.specs.Ends.{SinkStays}
use Rattle.m2v_port.specs.Port.{Grows}
use Rattle.m2v_plane.specs.Raw.{frame_bytes, raw}
use Rattle.m2v_set.specs.Numbers.{dims_of}
use Rattle.m2v_encode.specs.Groups.{frames_shown}
use Rattle.m2v_encode.proofs.Anchors.{kept}
use Rattle.m2v_encode.proofs.done.DoneGroup.put_frames.Given as goal

abbrev pub invariant-loop-k : goal.invariant-loop-k
invariant-loop-k g l = record {
  grown : Grows (g.K.Sink.held l.fn.recon) (raw (frames_shown l.self l.k)) (g.K.Sink.held l.recon);
  anchor : l.anchor ≡ kept l.self l.last l.k;
  buffer : length l.buffer ≡ frame_bytes (dims_of l.self.settings);
  recon : SinkStays g.K.Sink.ready g.K.Sink.name g.K.Sink.faults l.fn.recon l.recon;
}
