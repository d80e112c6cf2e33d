use Rattle.std.proofs.Common.{◌≡◌, drop, None}
use Rattle.m2v_law_shown.specs.m2v_enc_stream.Streams.{anchor_frame}
use Rattle.m2v_encode.proofs.done.DoneGroup.last_anchor.Given as goal

abbrev pub invariant-loop-p : goal.invariant-loop-p
invariant-loop-p l = anchor_frame None l.self.pictures ≡ anchor_frame l.last (drop l.p l.self.pictures)
