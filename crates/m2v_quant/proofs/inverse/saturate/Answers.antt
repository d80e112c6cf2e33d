use Rattle.std.proofs.Common.{◌-◌, ◌+◌, ◌≡◌, ◌*◌, length, arith, rules}
use Rattle.m2v_quant.proofs.Scanned.{all_read, skipped}
use Rattle.m2v_quant.proofs.inverse.saturate.Goals as goal

pub returns : goal.returns
returns c =
    let levels = c.args.levels.now.at in
    let kind = c.args.kind.now in
    let end = c.groups-end.result in
    let out = c.put_by_kind.new.out in
    let told = c.put_by_kind.result in
    let len : length levels ≡ 64 = search rules in
    let rest : 8 * end + (64 - 8 * end) ≡ 64 = omega (arith, c.groups-end.ensures.within) in
    let so_far = skipped levels kind (8 * end) (64 - 8 * end) out told (omega arith) c.groups-end.ensures.zeros c.put_by_kind.ensures in
    let all = all_read levels kind out told len c.put_by_kind.array_long (rw rest at so_far) in
    record { value = all.0; parity = all.1; rows = c.put_by_kind.ensures.rows; within = all.2 }
