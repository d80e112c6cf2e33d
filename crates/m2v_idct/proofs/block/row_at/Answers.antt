use Rattle.std.proofs.Common.{◌∙◌, ◌∷◌, [], List, ℤ, arith, ap, take, refl}
use Rattle.m2v_idct.specs.Block.{at}
use Rattle.m2v_idct.specs.Ranges.{Within}
use Rattle.m2v_idct.proofs.InPlace.{all_listed, row_of}
use Rattle.m2v_idct.proofs.AllLanes.{word_told}
use Rattle.m2v_idct.proofs.RowSteps.{again}
use Rattle.m2v_idct.proofs.block.row_at.Goals as goal

pub returns : goal.returns
returns c =
    let b = c.args.b.now in
    let y = c.args.y in
    let row : List ℤ = at b y 0 ∷ at b y 1 ∷ at b y 2 ∷ at b y 3 ∷ at b y 4 ∷ at b y 5 ∷ at b y 6 ∷ at b y 7 ∷ [] in
    ap (λ (zs : List ℤ). word_told (take 8 zs)) (row_of b y c.told-b c.requires.y)
    ∙ again 2048 row (omega arith) (all_listed (Within 2048) (at b y) row refl c.requires.within)
