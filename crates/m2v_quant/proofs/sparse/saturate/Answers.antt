use Rattle.std.proofs.lemmas.Int.{to_z-of_z}
use Rattle.m2v_quant.specs.Sparse.{spread}
use Rattle.m2v_quant.proofs.Scanned.{all_saturated}
use Rattle.m2v_quant.proofs.sparse.saturate.Goals as goal

pub returns : goal.returns
returns c =
    let fits = c.ranges.first in
    let all = all_saturated (spread c.args.first c.args.later.now c.args.count) c.args.kind.now c.put_by_kind.new.out c.put_by_kind.result c.put_by_kind.array_long (simp to_z-of_z at c.put_by_kind.ensures) in
    record { value = all.0; parity = all.1; rows = c.put_by_kind.ensures.rows; within = all.2 }
