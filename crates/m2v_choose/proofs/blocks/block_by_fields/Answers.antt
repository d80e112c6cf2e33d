use Rattle.std.proofs.Common.{◌≤◌, [], List, ℤ, true, false, refl, sym, subst}
use Rattle.std.specs.Prelude.{slice_index, slice_index_or, unsigned_abs}
use Rattle.m2v_idct.specs.Block.{nth}
use Rattle.m2v_idct.specs.Forward.{forward_of}
use Rattle.m2v_choose.specs.Decisions.{differences}
use Rattle.m2v_choose.specs.Trials.{IsSame, transforms_of}
use Rattle.m2v_choose.proofs.Small.{chroma_fields}
use Rattle.m2v_choose.proofs.blocks.block_by_fields.Goals as goal

pub returns-then-block-ge4 : goal.returns-then-block-ge4
returns-then-block-ge4 c =
    let s = c.args.source.now.at in
    let p = c.args.prediction.now.at in
    let b = c.args.block in
    let frame = c.args.frame.now.at.now in
    let same = sym c.copy_block.ensures.value in
    let alike = subst (λ (f : List ℤ). IsSame c.args.least (slice_index_or frame b []) f) (chroma_fields s p b (transforms_of s p false) refl c.if-block-ge4.true c.requires.block) (c.requires.frame.at b c.requires.block) in
    record {
      alike = subst (λ (g : List ℤ). IsSame c.args.least g (forward_of (differences s p true b))) same alike;
      known = c.copy_block.ensures.coefficients;
      far = λ k lt. subst (λ (g : List ℤ). unsigned_abs (nth g k) ≤ slice_index c.args.frame.now.most.now b) same (c.requires.far.at b k c.requires.block lt);
    }
