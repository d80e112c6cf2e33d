-- What is written of a block of the flat profile spells its levels.
use Rattle.std.proofs.Common.{◌≡◌, ℕ, ◌≤◌, true, false, All, List, ◌++◌, length, replicate, ℤ, pos, refl, subst, ◌∙◌, arith}
use Rattle.std.specs.Prelude.{nat_lt, ◌-ℤ◌}
use Rattle.std.proofs.lemmas.Int.{ints}
use Rattle.std.proofs.lemmas.List.Elements.{All-cons, All-replicate}
use Rattle.m2v_bits.specs.Bits.{bits_of}
use Rattle.m2v_bits.specs.Syntax.{Spells}
use Rattle.m2v_vlc.specs.Codes.{code_of}
use Rattle.m2v_vlc.specs.Coefficients.{coefficient_zero, same_coefficient}
use Rattle.m2v_quant.specs.Kinds.{IsKind, IsLevel}
use Rattle.m2v_quant.specs.Scans.{scale_at}
use Rattle.m2v_quant.specs.Matrices.{default_matrix}
use Rattle.m2v_quant.proofs.Tables.{IsWeight, same_intra, intra_weights}
use Rattle.m2v_block.specs.Blocks.{IsDc, block_at}
use Rattle.m2v_block.specs.Dc.{dc_text}
use Rattle.m2v_block.specs.Texts.{IsBlock, code_text, level_text, run_after, pairs_text}
use Rattle.m2v_block.specs.Texts.{block_text as text_of_block}
use Rattle.m2v_block.proofs.Spellings.{block_spells}
use Rattle.m2v_plane.specs.Samples.{Samples}
use Rattle.m2v_flat.specs.Flat.{level, predictor, block_text, end_of_block}
use Rattle.m2v_flat.specs.Recon.{flat_kind, flat_levels}
use Rattle.m2v_flat.proofs.Predictions.{IsByte, level_byte, block_is}

byte_dc : (z : ℤ) → IsByte z → IsDc 0 z
byte_dc z h = (h.least, omega (arith, ints, h.most))

byte_level : (z : ℤ) → IsByte z → IsLevel z
byte_level z h = (omega (arith, ints, h.least), omega (arith, ints, h.most))

zero_level : IsLevel (pos 0)
zero_level = (omega (arith, ints), omega (arith, ints))

weights : All IsWeight (default_matrix true)
unfolding default_matrix
weights = subst (All IsWeight) same_intra intra_weights

kind_is : (quantiser block : ℕ) → 1 ≤ quantiser → quantiser ≤ 31 → IsKind (flat_kind quantiser block)
unfolding flat_kind scale_at
kind_is quantiser block least most = record { precision = omega arith; least = omega arith; most = omega arith; matrix = weights }

levels_are : (quantiser : ℕ) (frame : Samples) (row column block : ℕ) → IsBlock (flat_kind quantiser block) (flat_levels frame row column block)
unfolding flat_kind flat_levels
levels_are quantiser frame row column block = record {
  within = All-cons IsLevel (level frame row column block) (replicate 63 (pos 0)) (byte_level (level frame row column block) (level_byte frame row column block)) (All-replicate IsLevel 63 (pos 0) zero_level);
  dc = λ on. byte_dc (level frame row column block) (level_byte frame row column block);
  some = λ off. absurd cc;
}

levels_length : (frame : Samples) (row column block : ℕ) → length (flat_levels frame row column block) ≡ 64
unfolding flat_levels
levels_length frame row column block = refl

text_is : (quantiser : ℕ) (frame : Samples) (row column block : ℕ) (before : ℤ)
    → text_of_block (flat_kind quantiser block) false before (flat_levels frame row column block) ≡ dc_text (nat_lt block 4) (level frame row column block -ℤ before) ++ end_of_block
unfolding text_of_block flat_kind flat_levels pairs_text level_text run_after code_text coefficient_zero code_of same_coefficient bits_of
text_is quantiser frame row column block before = refl

pub flat_block_spells : (quantiser : ℕ) (frame : Samples) (row column block : ℕ) (before : ℤ) → 1 ≤ quantiser → quantiser ≤ 31 → IsByte before → before ≡ predictor frame row column block
    → Spells (block_at (flat_kind quantiser block) false before) (flat_levels frame row column block) (block_text frame row column block)
unfolding flat_kind
flat_block_spells quantiser frame row column block before least most byte is =
    subst (λ (t : List _). Spells (block_at (flat_kind quantiser block) false before) (flat_levels frame row column block) t)
    (text_is quantiser frame row column block before ∙ block_is frame row column block (level frame row column block) before refl is)
    (block_spells (flat_kind quantiser block) false before (flat_levels frame row column block) (kind_is quantiser block least most) (levels_are quantiser frame row column block) (λ on. byte_dc before byte) (levels_length frame row column block))
