-- What is known of a picture's headers, of DC predictors, and of the blocks of a macroblock.
use Rattle.std.specs.Prelude.{◌≡◌, ℕ, ◌^◌, ◌<◌, ◌≤◌, true, false, All, nat_lt, List, [], ◌∷◌, length, replicate, slice_index_or, ℤ, pos, neg_ℤ, ◌≤ℤ◌}
use Rattle.m2v_block.specs.m2v_quant.declared.kind.Levels.{Levels}
use Rattle.m2v_block.specs.Blocks.{IsDc}
use Rattle.m2v_block.specs.Texts.{IsBlock}
use Rattle.m2v_macro.specs.m2v_vector.Predictors.{number_of}
use Rattle.m2v_macro.specs.declared.values.MacroSyntax.{MacroSyntax}
use Rattle.m2v_macro.specs.declared.values.SliceState.{SliceState}
use Rattle.m2v_macro.specs.declared.values.PictureContext.{PictureContext}
use Rattle.m2v_macro.specs.States.{after}
use Rattle.m2v_macro.specs.Conditions.{IsContext, IsMacro, IsDm}
use Rattle.m2v_recon.specs.Macro.{is_coded}
use Rattle.m2v_recon.specs.Steps.{levels_of}
use Rattle.m2v_macroblock.specs.Macroblocks.{Macroblock, kind_for, block_levels, dc_of, predictor}

-- a matrix without 0 (clause 6.3.11)
abbrev pub IsMatrix : List ℕ → Type 0
IsMatrix matrix = All (λ x. (1 ≤ x) × (x < 2 ^ 8)) matrix

-- what the headers say can be, the matrices too
pub record IsPicture (c : PictureContext) : Type 0 where
  pub context : IsContext c
  pub intra : IsMatrix c.intra
  pub non_intra : IsMatrix c.non_intra

-- the DC predictors of Y, Cb and Cr
pub record AreDc (precision : ℕ) (dc : List ℤ) : Type 0 where
  pub luma : IsDc precision (slice_index_or dc 0 (pos 0))
  pub blue : IsDc precision (slice_index_or dc 1 (pos 0))
  pub red : IsDc precision (slice_index_or dc 2 (pos 0))

-- the DC levels of the last block of Y, of Cb and of Cr
abbrev pub last_dc : List Levels → List ℤ
last_dc ls = dc_of (levels_of ls) 3 ∷ dc_of (levels_of ls) 4 ∷ dc_of (levels_of ls) 5 ∷ []

-- each block that is coded can be written
abbrev pub AreBlocks : PictureContext → SliceState → Macroblock → Type 0
AreBlocks c st x =
    (block : ℕ) → block < 6 → is_coded x.syntax.pattern block ≡ true
    → IsBlock (kind_for c x.syntax.kind.intra (nat_lt block 4) (after c st x.syntax).quantiser) (block_levels x.levels block)

-- a macroblock that can stand in a slice of the picture
abbrev pub CanStand : PictureContext → MacroSyntax → Type 0
CanStand c m = (st : SliceState) × IsMacro c st m

-- a component of the greatest vectors that an f_code allows
abbrev pub IsComponent : ℤ → Type 0
IsComponent z = (neg_ℤ (pos 4096) ≤ℤ z) × (z ≤ℤ pos 4095)

-- the vector of dual prime, and its dmvector
pub record IsDual (m : MacroSyntax) : Type 0 where
  pub across : IsComponent (number_of m.vectors 0 0 0)
  pub down : IsComponent (number_of m.vectors 0 0 1)
  pub dm_across : IsDm (slice_index_or m.dmvector 0 (pos 0))
  pub dm_down : IsDm (slice_index_or m.dmvector 1 (pos 0))

-- what the blocks need that are written, by the state behind the macroblock's elements
pub record AreWritable (c : PictureContext) (st : SliceState) (x : Macroblock) : Type 0 where
  pub quantiser : (1 ≤ st.quantiser) × (st.quantiser ≤ 31)
  pub blocks : (block : ℕ) → block < 6 → is_coded x.syntax.pattern block ≡ true
      → IsBlock (kind_for c x.syntax.kind.intra (nat_lt block 4) st.quantiser) (block_levels x.levels block)
  pub predictors : x.syntax.kind.intra ≡ true → (block : ℕ) → block < 6 → IsDc c.extension.dc_precision (predictor st.dc x.levels block)

-- the levels of six blocks of 64, all 0 where a block isn't coded
pub record AreLevels (x : Macroblock) : Type 0 where
  pub six : x.levels ≡ block_levels x.levels 0 ∷ block_levels x.levels 1 ∷ block_levels x.levels 2 ∷ block_levels x.levels 3 ∷ block_levels x.levels 4 ∷ block_levels x.levels 5 ∷ []
  pub whole : (block : ℕ) → block < 6 → length (block_levels x.levels block) ≡ 64
  pub none : (block : ℕ) → block < 6 → is_coded x.syntax.pattern block ≡ false → block_levels x.levels block ≡ replicate 64 (pos 0)
