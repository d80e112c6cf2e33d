use Rattle.std.proofs.Common.{arith, [], ◌∷◌}
use Rattle.std.proofs.lemmas.List.Elements.{All-same}
use Rattle.m2v_idct.specs.ForwardLanes.{neighbours}
use Rattle.m2v_idct.specs.Ranges.{Within}
use Rattle.m2v_idct.proofs.AllLanes.{all_neighbours, neighbours_are, neighbours_fit}
use Rattle.m2v_idct.proofs.forward_lanes.neighbour_sums.Goals as goal

pub overflow_add-result : goal.overflow_add-result
overflow_add-result c =
    let f = neighbours_fit c.args.p c.requires.len c.requires.within in
    (f 0 (omega arith), (f 1 (omega arith), (f 2 (omega arith), (f 3 (omega arith), (f 4 (omega arith), (f 5 (omega arith), (f 6 (omega arith), (f 7 (omega arith), tt))))))))

pub returns : goal.returns
returns c =
    let e = neighbours_are c.args.p c.requires.len c.requires.within in
    let e0 = e 0 (omega arith) in let e1 = e 1 (omega arith) in let e2 = e 2 (omega arith) in let e3 = e 3 (omega arith) in
    let e4 = e 4 (omega arith) in let e5 = e 5 (omega arith) in let e6 = e 6 (omega arith) in let e7 = e 7 (omega arith) in
    record {
      value = λ i. e0 i ∷ e1 i ∷ e2 i ∷ e3 i ∷ e4 i ∷ e5 i ∷ e6 i ∷ e7 i ∷ [];
      within = All-same (Within 268435456) _ (neighbours c.args.p) (λ i. e0 i ∷ e1 i ∷ e2 i ∷ e3 i ∷ e4 i ∷ e5 i ∷ e6 i ∷ e7 i ∷ []) (all_neighbours c.args.p c.requires.len c.requires.within);
    }
