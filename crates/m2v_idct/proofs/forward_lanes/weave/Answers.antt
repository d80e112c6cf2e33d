use Rattle.std.proofs.Common.{arith, [], ◌∷◌, ℕ, ◌<◌, ◌+◌}
use mir.Syntax.{w16}
use Rattle.m2v_idct.proofs.AllLanes.{fits_short, left_lane, right_lane, wider}
use Rattle.m2v_idct.proofs.forward_lanes.weave.Goals as goal

pub returns : goal.returns
returns c =
    let x = c.args.x in let y = c.args.y in
    let hx = wider 8191 32767 (omega arith) x c.requires.x_within in
    let hy = wider 8191 32767 (omega arith) y c.requires.y_within in
    let l = λ (k : ℕ) (lt : k < 8). left_lane w16 32767 fits_short x y k (omega (arith, c.requires.x, lt)) hx in
    let r = λ (k : ℕ) (lt : k < 8). right_lane w16 32767 fits_short 8 x y (8 + k) c.requires.x (omega arith) (omega (arith, c.requires.y, lt)) hy in
    let l0 = l 0 (omega arith) in let l1 = l 1 (omega arith) in let l2 = l 2 (omega arith) in let l3 = l 3 (omega arith) in
    let l4 = l 4 (omega arith) in let l5 = l 5 (omega arith) in let l6 = l 6 (omega arith) in let l7 = l 7 (omega arith) in
    let r0 = r 0 (omega arith) in let r1 = r 1 (omega arith) in let r2 = r 2 (omega arith) in let r3 = r 3 (omega arith) in
    let r4 = r 4 (omega arith) in let r5 = r 5 (omega arith) in let r6 = r 6 (omega arith) in let r7 = r 7 (omega arith) in
    (λ i. l0 i ∷ r0 i ∷ l1 i ∷ r1 i ∷ l2 i ∷ r2 i ∷ l3 i ∷ r3 i ∷ l4 i ∷ r4 i ∷ l5 i ∷ r5 i ∷ l6 i ∷ r6 i ∷ l7 i ∷ r7 i ∷ [])
