-- How many bits the blocks of a macroblock take.
use Rattle.std.proofs.Common.{◌≡◌, ℕ, ◌<◌, Bool, true, false, List, [], length, ℤ, pos, refl, sym, subst, ◌∙◌, arith}
use Rattle.std.proofs.Math.ListN.{get_or-map}
use Rattle.std.specs.Prelude.{All, nat_lt, slice_index_or}
use Rattle.std.proofs.lemmas.Int.{to_z-of_z}
use mir.Syntax.{w32}
use mir.Val.{SFits, to_z, of_z}
use Rattle.m2v_block.specs.m2v_quant.Kinds.{IsLevel}
use Rattle.m2v_block.specs.m2v_quant.declared.kind.BlockKind.{BlockKind}
use Rattle.m2v_block.specs.m2v_quant.declared.kind.Levels.{Levels}
use Rattle.m2v_block.specs.Blocks.{IsDc}
use Rattle.m2v_block.specs.Texts.{block_text}
use Rattle.m2v_block.proofs.Ranges.{dc_wider}
use Rattle.m2v_macro.specs.declared.values.MacroSyntax.{MacroSyntax}
use Rattle.m2v_macro.specs.declared.values.SliceState.{SliceState}
use Rattle.m2v_macro.specs.declared.values.PictureContext.{PictureContext}
use Rattle.m2v_recon.specs.Macro.{is_coded}
use Rattle.m2v_recon.specs.Steps.{levels_of, level_list}
use Rattle.m2v_recon.proofs.Samples.{off}
use Rattle.m2v_macroblock.specs.Macroblocks.{Macroblock, macroblock_of, kind_for, block_levels, predictor}
use Rattle.m2v_macroblock.specs.Texts.{block_in_text, blocks_text}
use Rattle.m2v_macroblock.specs.Conditions.{IsPicture, AreBlocks, AreWritable}
use Rattle.m2v_macroblock.proofs.DcLaws.{all_coded}
use Rattle.m2v_macroblock.proofs.BlockTexts.{six_blocks}

-- the levels of a block as the program has them
pub own_levels : (ls : List Levels) (block : ℕ) → level_list ls block ≡ block_levels (levels_of ls) block
own_levels ls block = sym (get_or-map (λ (l : Levels). l.at) ls block (record { at = [] }))

-- ---- one block

pub one_counted : (c : PictureContext) (st : SliceState) (x : Macroblock) (block n : ℕ) (kind : BlockKind) (p : ℤ) (levels : List ℤ) → n ≡ length (block_text kind c.extension.intra_vlc_format p levels) → is_coded x.syntax.pattern block ≡ true
    → kind ≡ kind_for c x.syntax.kind.intra (nat_lt block 4) st.quantiser → p ≡ predictor st.dc x.levels block → levels ≡ block_levels x.levels block → n ≡ length (block_in_text c st x block)
unfolding block_in_text
one_counted c st x block n kind p levels e on k ep l = rw on (e ∙ (λ i. length (block_text (k i) c.extension.intra_vlc_format (ep i) (l i))))

pub one_none : (c : PictureContext) (st : SliceState) (x : Macroblock) (block : ℕ) → is_coded x.syntax.pattern block ≡ false → 0 ≡ length (block_in_text c st x block)
unfolding block_in_text
one_none c st x block off = rw off refl

-- a kind by what it is coded with
pub is_intra : (c : PictureContext) (intra luma : Bool) (quantiser : ℕ) (b : Bool) → intra ≡ b → (kind_for c intra luma quantiser).intra ≡ b
unfolding kind_for
is_intra c intra luma quantiser b e = e

pub is_luma : (c : PictureContext) (intra luma : Bool) (quantiser : ℕ) → (kind_for c intra luma quantiser).luma ≡ luma
unfolding kind_for
is_luma c intra luma quantiser = refl

-- ---- the blocks of an intra macroblock

pub coded_by : (pattern block : ℕ) → pattern ≡ 63 → block < 6 → is_coded pattern block ≡ true
coded_by pattern block e lt = subst (λ (p : ℕ). is_coded p block ≡ true) (sym e) (all_coded block lt)

module _ (c : PictureContext) (st : SliceState) (m : MacroSyntax) (ls : List Levels) (block : ℕ) (lt : block < 6) (picture : IsPicture c) (intra : m.kind.intra ≡ true) (coded : m.pattern ≡ 63) (w : AreWritable c st (macroblock_of m ls)) where
  pub intra_within : All IsLevel (level_list ls block)
  intra_within = subst (λ (xs : List ℤ). All IsLevel xs) (sym (own_levels ls block)) (w.blocks block lt (coded_by m.pattern block coded lt)).within

  pub intra_dc : IsDc 3 (slice_index_or (level_list ls block) 0 (pos 0))
  unfolding kind_for
  intra_dc = subst (λ (xs : List ℤ). IsDc 3 (slice_index_or xs 0 (pos 0))) (sym (own_levels ls block))
      (dc_wider c.extension.dc_precision _ picture.context.precision ((w.blocks block lt (coded_by m.pattern block coded lt)).dc intra))

  pub intra_predictor : (p : ℤ) → SFits w32 p → p ≡ predictor st.dc (levels_of ls) block → IsDc 3 (to_z w32 (of_z w32 p))
  intra_predictor p fits e = subst (λ (z : ℤ). IsDc 3 z) (sym (to_z-of_z w32 p fits ∙ e)) (dc_wider c.extension.dc_precision _ picture.context.precision (w.predictors intra block lt))

-- ---- the blocks of another macroblock

pub other_within : (c : PictureContext) (st : SliceState) (m : MacroSyntax) (ls : List Levels) (block : ℕ) → block < 6 → is_coded m.pattern block ≡ true → AreBlocks c st (macroblock_of m ls) → All IsLevel (level_list ls block)
other_within c st m ls block lt on b = subst (λ (xs : List ℤ). All IsLevel xs) (sym (own_levels ls block)) (b block lt on).within

no_text : (c : PictureContext) (st : SliceState) (x : Macroblock) (block : ℕ) → x.syntax.pattern ≡ 0 → block < 6 → 0 ≡ length (block_in_text c st x block)
no_text c st x block e lt = one_none c st x block (off x.syntax.pattern block e lt)

pub no_blocks : (c : PictureContext) (st : SliceState) (x : Macroblock) → x.syntax.pattern ≡ 0 → 0 ≡ length (blocks_text c st x 0 6)
no_blocks c st x e =
    omega (
      arith,
      six_blocks c st x,
      no_text c st x 0 e (omega arith),
      no_text c st x 1 e (omega arith),
      no_text c st x 2 e (omega arith),
      no_text c st x 3 e (omega arith),
      no_text c st x 4 e (omega arith),
      no_text c st x 5 e (omega arith),
    )
