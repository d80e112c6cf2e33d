use Rattle.std.proofs.Common.{[], ◌∷◌}
use Rattle.m2v_idct.proofs.Passed.{shifted_sum, shifted_difference}
use Rattle.m2v_idct.proofs.combine.join_parts.Goals as goal

pub returns : goal.returns
returns c =
    let r = c.requires in
    let n = c.args.n in
    let e = c.args.even in
    let o = c.args.odd in
    let r0 = shifted_sum n e.s0 o.s0 _ r.s0 r.o0 c.shift_sum.type_inv c.shift_sum.ensures in
    let r1 = shifted_sum n e.s1 o.s1 _ r.s1 r.o1 c.shift_sum-2.type_inv c.shift_sum-2.ensures in
    let r2 = shifted_sum n e.s2 o.s2 _ r.s2 r.o2 c.shift_sum-3.type_inv c.shift_sum-3.ensures in
    let r3 = shifted_sum n e.s3 o.s3 _ r.s3 r.o3 c.shift_sum-4.type_inv c.shift_sum-4.ensures in
    let r4 = shifted_difference n e.s3 o.s3 _ r.s3 r.o3 c.shift_difference.type_inv c.shift_difference.ensures in
    let r5 = shifted_difference n e.s2 o.s2 _ r.s2 r.o2 c.shift_difference-2.type_inv c.shift_difference-2.ensures in
    let r6 = shifted_difference n e.s1 o.s1 _ r.s1 r.o1 c.shift_difference-3.type_inv c.shift_difference-3.ensures in
    let r7 = shifted_difference n e.s0 o.s0 _ r.s0 r.o0 c.shift_difference-4.type_inv c.shift_difference-4.ensures in
    (λ i. r0 i ∷ r1 i ∷ r2 i ∷ r3 i ∷ r4 i ∷ r5 i ∷ r6 i ∷ r7 i ∷ [])
