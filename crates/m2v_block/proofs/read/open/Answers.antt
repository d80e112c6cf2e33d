use Rattle.std.proofs.Common.{◌∷◌, pos, replicate, arith}
use Rattle.std.proofs.lemmas.Int.{ints, to_z-of_z}
use Rattle.std.proofs.lemmas.List.Elements.{All-cons, All-replicate, All-same}
use Rattle.m2v_quant.specs.Kinds.{IsLevel}
use Rattle.m2v_block.proofs.read.open.Goals as goal

pub returns-clause-levels : goal.returns-clause-levels
returns-clause-levels c =
    let fits = c.ranges.dc in
    let zeros = All-replicate IsLevel 63 (pos 0) (omega (arith, ints), omega (arith, ints)) in
    All-same IsLevel c.open.new.self.at (c.args.dc ∷ replicate 63 (pos 0)) (simp to_z-of_z at c.open.ensures.value)
    (All-cons IsLevel c.args.dc (replicate 63 (pos 0)) c.requires.range zeros)
