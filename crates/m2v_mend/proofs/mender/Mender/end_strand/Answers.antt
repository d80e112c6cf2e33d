use Rattle.m2v_mend.proofs.Made.{ended_same}
use Rattle.m2v_mend.proofs.mender.Mender.end_strand.Goals as goal

pub returns-else-bytes-self-clause-told : goal.returns-else-bytes-self-clause-told
returns-else-bytes-self-clause-told c = λ written listed m is. ended_same written listed m c.args.self.now c.in_ok-bytes.bytes is (c.in_ok-bytes.ensures written listed m is) c.if-bytes-self.false
