use Rattle.std.proofs.Common.{◌≡◌, length}
use Rattle.m2v_slice.proofs.Steady.{ledger_at}
use Rattle.m2v_encode.proofs.done.DoneGroup.ledger.Given as goal

abbrev pub invariant-loop-p : goal.invariant-loop-p
invariant-loop-p l = l.ledger ≡ ledger_at l.self l.p (length l.self.pictures)
