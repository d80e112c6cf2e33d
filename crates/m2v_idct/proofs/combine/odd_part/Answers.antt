use Rattle.std.proofs.Common.{arith, ◌∙◌, ◌+ℤ◌, ◌-ℤ◌}
use Rattle.std.proofs.lemmas.Int.{ints, to_z-of_z}
use Rattle.m2v_idct.proofs.Passed.{fits, passed}
use Rattle.m2v_idct.proofs.combine.odd_part.Goals as goal

pub returns-clause-o1 : goal.returns-clause-o1
returns-clause-o1 c =
    let t = c.args.t.now in
    let h = c.requires.terms in
    let f1 = fits 82000000 t.a1 (omega arith) h.a1 in
    let f7 = fits 82000000 t.a7 (omega arith) h.a7 in
    let f5 = fits 82000000 t.a5 (omega arith) h.a5 in
    let f3 = fits 82000000 t.a3 (omega arith) h.a3 in
    let fp = fits 164000000 (t.a1 -ℤ t.a5) (omega arith) (omega (arith, ints, h.a1, h.a5), omega (arith, ints, h.a1, h.a5)) in
    let fr = fits 164000000 (t.a7 -ℤ t.a3) (omega arith) (omega (arith, ints, h.a7, h.a3), omega (arith, ints, h.a7, h.a3)) in
    let fw = fits 328000000 ((t.a1 -ℤ t.a5) +ℤ (t.a7 -ℤ t.a3)) (omega arith) (omega (arith, ints, h.a1, h.a5, h.a7, h.a3), omega (arith, ints, h.a1, h.a5, h.a7, h.a3)) in
    passed 235000000 c.scale.result (omega arith) c.scale.ensures.within ∙ (simp to_z-of_z at c.scale.ensures.value)

pub returns-clause-o2 : goal.returns-clause-o2
returns-clause-o2 c =
    let t = c.args.t.now in
    let h = c.requires.terms in
    let f1 = fits 82000000 t.a1 (omega arith) h.a1 in
    let f7 = fits 82000000 t.a7 (omega arith) h.a7 in
    let f5 = fits 82000000 t.a5 (omega arith) h.a5 in
    let f3 = fits 82000000 t.a3 (omega arith) h.a3 in
    let fp = fits 164000000 (t.a1 -ℤ t.a5) (omega arith) (omega (arith, ints, h.a1, h.a5), omega (arith, ints, h.a1, h.a5)) in
    let fr = fits 164000000 (t.a7 -ℤ t.a3) (omega arith) (omega (arith, ints, h.a7, h.a3), omega (arith, ints, h.a7, h.a3)) in
    let fw = fits 328000000 ((t.a1 -ℤ t.a5) -ℤ (t.a7 -ℤ t.a3)) (omega arith) (omega (arith, ints, h.a1, h.a5, h.a7, h.a3), omega (arith, ints, h.a1, h.a5, h.a7, h.a3)) in
    passed 235000000 c.scale-2.result (omega arith) c.scale-2.ensures.within ∙ (simp to_z-of_z at c.scale-2.ensures.value)
