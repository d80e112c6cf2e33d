use Rattle.m2v_encode.proofs.Bytes.{all_bytes}
use Rattle.m2v_encode.proofs.reading.are_bytes.Goals as goal

pub returns : goal.returns
returns c = all_bytes c.args.bytes.now (λ i. (c.type_inv.bytes i).fits)
