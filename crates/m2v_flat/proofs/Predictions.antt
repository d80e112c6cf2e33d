-- The predictors of DC, and their range.
use Rattle.std.proofs.Common.{◌≡◌, ℕ, zero, suc, ◌+◌, ◌-◌, ◌<◌, true, ℤ, pos, negsuc, ◌+ℤ◌, ◌≤ℤ◌, refl, sym, subst, arith}
use Rattle.std.specs.Prelude.{nat_lt, ◌-ℤ◌, ◌++◌}
use Rattle.std.specs.Int.{int_max, int_min, int_shr}
use mir.Syntax.{w32}
use mir.Val.{SFits, to_z, of_z}
use Rattle.m2v_idct.specs.Forward.{forward_at}
use Rattle.std.proofs.lemmas.Int.{ints, to_z-of_z, int_max_is, int_min_is}
use Rattle.std.proofs.lemmas.Bool.{lt-ltb}
use Rattle.m2v_quant.specs.Quantiser.{dc_level}
use Rattle.m2v_plane.specs.Samples.{Samples}
use Rattle.m2v_block.specs.Dc.{dc_text}
use Rattle.m2v_flat.specs.declared.writing.macroblocks.Predictors.{Predictors}
use Rattle.m2v_flat.specs.Flat.{samples_at, block_plane, block_line, block_column, level, predictors, predictor, block_text, end_of_block}

-- a level of 8 bits
pub record IsByte (z : ℤ) : Type 0 where
  pub least : pos 0 ≤ℤ z
  pub most : z ≤ℤ pos 255

byte_fits : (z : ℤ) → IsByte z → SFits w32 z
byte_fits (pos a) h = record { sfits = omega (arith, ints, h.least, h.most) }
byte_fits (negsuc a) h = record { sfits = omega (arith, ints, h.least, h.most) }

-- it is passed on as it is
pub byte_passed : (z : ℤ) → IsByte z → to_z w32 (of_z w32 z) ≡ z
byte_passed z h = to_z-of_z w32 z (byte_fits z h)

kept : (z : ℤ) → IsByte (int_max (int_min z (pos 255)) (pos 0))
kept z = record {
  least = omega (arith, ints, int_max_is (int_min z (pos 255)) (pos 0), int_min_is z (pos 255));
  most = omega (arith, ints, int_max_is (int_min z (pos 255)) (pos 0), int_min_is z (pos 255));
}

pub level_byte : (frame : Samples) (row column block : ℕ) → IsByte (level frame row column block)
unfolding level dc_level
level_byte frame row column block =
    kept (int_shr (forward_at (samples_at frame (block_plane block) (block_line row block) (block_column column block)) 0 0 +ℤ pos 4) 3)

pub record AreBytes (p : Predictors) : Type 0 where
  pub luma : IsByte p.luma
  pub cb : IsByte p.cb
  pub cr : IsByte p.cr

reset : IsByte (pos 128)
reset = record { least = omega (arith, ints); most = omega (arith, ints) }

pub predictors_bytes : (frame : Samples) (row column : ℕ) → AreBytes (predictors frame row column)
unfolding predictors
predictors_bytes frame row zero = record { luma = reset; cb = reset; cr = reset }
predictors_bytes frame row (suc column) =
    record { luma = level_byte frame row column 3; cb = level_byte frame row column 4; cr = level_byte frame row column 5 }

pub before_bytes : (frame : Samples) (row column : ℕ) (p : Predictors) → p ≡ predictors frame row column → AreBytes p
before_bytes frame row column p is = subst AreBytes (sym is) (predictors_bytes frame row column)

pub predictors_first : (frame : Samples) (row : ℕ) → predictors frame row 0 ≡ record { luma = pos 128; cb = pos 128; cr = pos 128 }
unfolding predictors
predictors_first frame row = refl

pub predictors_next : (frame : Samples) (row column : ℕ) → predictors frame row (column + 1) ≡ record { luma = level frame row column 3; cb = level frame row column 4; cr = level frame row column 5 }
unfolding predictors
predictors_next frame row column =
    let next : suc column ≡ column + 1 = omega arith in
    subst (λ (n : ℕ). predictors frame row n ≡ record { luma = level frame row column 3; cb = level frame row column 4; cr = level frame row column 5 }) next refl

-- the predictor of a luma block
pub luma_predictor : (frame : Samples) (row column block : ℕ) (before : ℤ) → block < 4
    → (block ≡ 0 → before ≡ (predictors frame row column).luma) → (0 < block → before ≡ level frame row column (block - 1))
    → before ≡ predictor frame row column block
unfolding predictor
luma_predictor frame row column zero before small first next = first refl
luma_predictor frame row column (suc b) before small first next =
    let some : nat_lt 0 (suc b) ≡ true = lt-ltb 0 (suc b) (omega arith) in
    let luma : nat_lt (suc b) 4 ≡ true = lt-ltb (suc b) 4 small in
    rw (some, luma) (next (omega arith))

-- the predictor of a luma block is a level of 8 bits
pub luma_byte : (frame : Samples) (row column block : ℕ) (before : ℤ)
    → (block ≡ 0 → before ≡ (predictors frame row column).luma) → (0 < block → before ≡ level frame row column (block - 1)) → IsByte before
luma_byte frame row column zero before first next = subst IsByte (sym (first refl)) (predictors_bytes frame row column).luma
luma_byte frame row column (suc b) before first next = subst IsByte (sym (next (omega arith))) (level_byte frame row column (suc b - 1))

pub cb_predictor : (frame : Samples) (row column : ℕ) → (predictors frame row column).cb ≡ predictor frame row column 4
unfolding predictor
cb_predictor frame row column = refl

pub cr_predictor : (frame : Samples) (row column : ℕ) → (predictors frame row column).cr ≡ predictor frame row column 5
unfolding predictor
cr_predictor frame row column = refl

-- what is written of a block with its level and its predictor is its text
pub block_is : (frame : Samples) (row column block : ℕ) (l before : ℤ) → l ≡ level frame row column block → before ≡ predictor frame row column block
    → dc_text (nat_lt block 4) (l -ℤ before) ++ end_of_block ≡ block_text frame row column block
unfolding block_text
block_is frame row column block l before is same = rw (is, same) refl
