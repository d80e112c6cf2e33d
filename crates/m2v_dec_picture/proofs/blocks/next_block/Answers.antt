use Rattle.std.proofs.Common.{◌≡◌, ◌∙◌, true, arith, take}
use Rattle.std.specs.Prelude.{nat_lt}
use Rattle.std.proofs.lemmas.Int.{to_z-of_z}
use Rattle.std.proofs.lemmas.List.{length-map}
use Rattle.std.proofs.Math.ListN.{length-set}
use mir.Syntax.{w32}
use Rattle.m2v_quant.specs.declared.kind.Levels.{Levels}
use Rattle.m2v_recon.specs.Steps.{levels_of}
use Rattle.m2v_dec_picture.proofs.BlockLaws.{predictor_passed, predicted_by, kind_at, kind_is, as_block, tells_block, levels_more, fine_more, own_fine, if_ok}
use Rattle.m2v_dec_picture.proofs.blocks.next_block.Goals as goal

pub block-requires-clause-kind : goal.block-requires-clause-kind
block-requires-clause-kind c = kind_is c.args.c.now c.args.m.now c.args.state.now c.args.kinds.now c.args.k _ c.requires.block c.requires.kinds

pub block-requires-clause-predictor : goal.block-requires-clause-predictor
block-requires-clause-predictor c =
    let len = length-map c.args.out.now (λ (l : Levels). l.at) ∙ c.told-out in
    let kind = kind_at c.args.c.now c.args.m.now c.args.state.now c.args.kinds.now c.args.k _ c.requires.block c.requires.kinds in
    predictor_passed c.args.c.now c.args.m.now c.args.state.now (levels_of c.args.out.now) c.args.k (nat_lt c.args.k 4) _ c.predictor_if-dc.result
    c.requires.block len c.requires.dc c.requires.before kind c.predictor_if-dc.ensures (record { sfits = c.predictor_if-dc.type_inv })

pub returns-clause-exact : goal.returns-clause-exact
returns-clause-exact c =
    let kind = kind_at c.args.c.now c.args.m.now c.args.state.now c.args.kinds.now c.args.k _ c.requires.block c.requires.kinds in
    let fits = to_z-of_z w32 c.predictor_if-dc.result (record { sfits = c.predictor_if-dc.type_inv }) in
    let dc = λ (intra : c.args.m.now.kind.intra ≡ true). fits ∙ c.predictor_if-dc.ensures intra ∙ predicted_by c.args.state.now.dc (levels_of c.args.out.now) c.args.k c.requires.block in
    let same = as_block c.args.c.now c.args.m.now c.args.state.now c.args.k (take c.args.k (levels_of c.args.out.now)) _ _ _ c.args.input.now.rest c.is_coded-coded.ensures.value kind dc in
    tells_block c.block.result c.block.new.out.at _ _ _ _ _ same c.block.ensures.exact
    (levels_more c.args.out.now c.args.k c.block.new.out (omega (arith, c.told-out, c.requires.block)))

pub returns-clause-fine : goal.returns-clause-fine
returns-clause-fine c =
    let kind = kind_at c.args.c.now c.args.m.now c.args.state.now c.args.kinds.now c.args.k _ c.requires.block c.requires.kinds in
    if_ok c.block.result _ _
    (λ dc. fine_more c.args.c.now c.args.m.now c.args.out.now c.args.k c.block.new.out (omega (arith, c.told-out, c.requires.block)) c.requires.before
    (own_fine c.args.c.now c.args.m.now c.args.state.now (nat_lt c.args.k 4) _ c.block.new.out.at kind c.block.ensures.levels dc))
    c.block.ensures.dc

pub returns-clause-long : goal.returns-clause-long
returns-clause-long c = length-set c.args.out.now c.args.k c.block.new.out ∙ c.told-out
