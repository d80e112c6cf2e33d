use Rattle.std.proofs.Common.{◌≡◌, take, None}
use Rattle.m2v_dec_piece.specs.Cutting.{behind, limit_of}
use Rattle.m2v_dec_piece.proofs.hand.Hand.put_all.Given as goal

abbrev pub invariant-loop-b : goal.invariant-loop-b
invariant-loop-b l = (l.self ≡ behind l.fn.self (take l.b-index l.bytes)) × (limit_of l.fn.self (take l.b-index l.bytes) ≡ None)
