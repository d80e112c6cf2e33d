use Rattle.std.proofs.Common.{arith, [], ◌∷◌, ℕ, ◌<◌}
use mir.Syntax.{w16}
use Rattle.m2v_idct.proofs.AllLanes.{fits_short, left_lane, wider}
use Rattle.m2v_idct.proofs.forward_lanes.first_pairs.Goals as goal

pub returns : goal.returns
returns c =
    let x = c.args.x in
    let hx = wider 512 32767 (omega arith) x c.requires.within in
    let l = λ (k : ℕ) (lt : k < 8). left_lane w16 32767 fits_short x x k (omega (arith, c.requires.len, lt)) hx in
    let a = l 0 (omega arith) in let b = l 1 (omega arith) in let d = l 4 (omega arith) in let e = l 5 (omega arith) in
    (λ i. a i ∷ b i ∷ d i ∷ e i ∷ a i ∷ b i ∷ d i ∷ e i ∷ a i ∷ b i ∷ d i ∷ e i ∷ a i ∷ b i ∷ d i ∷ e i ∷ [])
