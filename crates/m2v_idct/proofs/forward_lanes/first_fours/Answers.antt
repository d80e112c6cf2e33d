use Rattle.std.proofs.Common.{arith, [], ◌∷◌}
use Rattle.m2v_idct.proofs.AllLanes.{of_left, of_right}
use Rattle.m2v_idct.proofs.forward_lanes.first_fours.Goals as goal

pub overflow_cast-result : goal.overflow_cast-result
overflow_cast-result c =
    let l = of_left c.args.x c.args.y c.requires.x c.requires.y c.requires.x_within c.requires.y_within in
    let r = of_right c.args.x c.args.y c.requires.x c.requires.y c.requires.x_within c.requires.y_within in (
      (l 0 (omega arith)).0,
      (
        (l 1 (omega arith)).0,
        (
          (l 2 (omega arith)).0,
          (
            (l 3 (omega arith)).0,
            ((r 0 (omega arith)).0, ((r 1 (omega arith)).0, ((r 2 (omega arith)).0, ((r 3 (omega arith)).0, tt)))),
          ),
        ),
      ),
    )

pub returns : goal.returns
returns c =
    let l = of_left c.args.x c.args.y c.requires.x c.requires.y c.requires.x_within c.requires.y_within in
    let r = of_right c.args.x c.args.y c.requires.x c.requires.y c.requires.x_within c.requires.y_within in
    let l0 = (l 0 (omega arith)).1 in let l1 = (l 1 (omega arith)).1 in let l2 = (l 2 (omega arith)).1 in let l3 = (l 3 (omega arith)).1 in
    let r0 = (r 0 (omega arith)).1 in let r1 = (r 1 (omega arith)).1 in let r2 = (r 2 (omega arith)).1 in let r3 = (r 3 (omega arith)).1 in
    (λ i. l0 i ∷ l1 i ∷ l2 i ∷ l3 i ∷ r0 i ∷ r1 i ∷ r2 i ∷ r3 i ∷ [])
