-- The macroblocks of a picture, painted one after another, are the frame that the stream stands for.
use Rattle.std.proofs.Common.{◌≡◌, ℕ, zero, suc, ◌+◌, ◌*◌, ◌/◌, ◌%◌, ◌<◌, Bool, true, false, cond, replicate, ℤ, pos, ◌+ℤ◌, refl, sym, ap, subst, ◌∙◌, arith}
use Rattle.std.specs.Prelude.{unsigned_abs, slice_index}
use Rattle.std.specs.Int.{int_max, int_min}
use Rattle.std.proofs.lemmas.Int.{ints, int_max_is}
use Rattle.std.proofs.lemmas.Nat.{div-mul-add, mod-mul-add}
use Rattle.m2v_quant.specs.Coefficients.{coefficients_of}
use Rattle.m2v_idct.specs.Inverse.{inverse_of}
use Rattle.m2v_idct.specs.Block.{at}
use Rattle.m2v_macro.specs.declared.values.SliceState.{SliceState}
use Rattle.m2v_plane.specs.declared.dims.Dims.{Dims}
use Rattle.m2v_plane.specs.declared.planes.Plane.{Plane}
use Rattle.m2v_plane.specs.declared.planes.Plane.TheVariants.{Y, Cb, Cr}
use Rattle.m2v_plane.specs.declared.planes.Lines.TheVariants.{Whole}
use Rattle.m2v_plane.specs.Sizes.{side}
use Rattle.m2v_plane.specs.Samples.{Samples}
use Rattle.m2v_recon.specs.Macro.{place_in, is_coded, residual, macro_sample}
use Rattle.m2v_recon.specs.Macro as macro
use Rattle.m2v_flat.specs.Recon.{flat_kind, flat_levels, rebuilt, recon_at, recon_frame}
use Rattle.m2v_flat.specs.Recon as recon
use Rattle.m2v_macro.specs.States.{address, at_start}
use Rattle.m2v_macroblock.specs.Macroblocks.{kind_for}
use Rattle.m2v_macroblock.specs.Modes.{first_skipped}
use Rattle.m2v_macroblock.specs.Predictions.{prediction_of, sample_at}
use Rattle.m2v_model.specs.Samples.{References, put_in_frame, all_painted}
use Rattle.m2v_model.specs.Painting.{IsPainted, LiesIn, own_sample, IsPartOf, ArePartsOf, after_macroblocks}
use Rattle.m2v_model.proofs.Painting.{all_more, frame_all}
use Rattle.m2v_flat.specs.Tree.{flat_context, flat_setup, flat_macroblock, flat_macroblocks, state_inside, state_before}
use Rattle.m2v_flat.proofs.Macroblocks.{inside_is, after_is, none_skipped}

-- ---- samples of a macroblock

-- both ways of keeping a number within 0 to 255 give one
clamped_same : (z : ℤ) → macro.clamped (pos 0 +ℤ z) ≡ recon.clamped z
clamped_same z =
    let kept = int_min z (pos 255) in
    let nothing : pos 0 +ℤ z ≡ z = omega (arith, ints) in
    ap macro.clamped nothing ∙ ap unsigned_abs (turned kept)
  where
    turned : (w : ℤ) → int_max (pos 0) w ≡ int_max w (pos 0)
    turned w = omega (arith, ints, int_max_is (pos 0) w, int_max_is w (pos 0))

-- what is added to the prediction is the inverse transform of the block's DC
residual_is : (quantiser columns : ℕ) (frame : Samples) (row column block line across : ℕ) → block < 6
    → residual (flat_macroblock frame row column).levels 63 (kind_for (flat_context columns) true true quantiser) (kind_for (flat_context columns) true false quantiser) (record { block = block; line = line; column = across })
    ≡ at (inverse_of (coefficients_of (flat_levels frame row column block) (flat_kind quantiser block))) line across
unfolding residual flat_macroblock kind_for flat_kind
residual_is quantiser columns frame row column zero line across lt = refl
residual_is quantiser columns frame row column (suc zero) line across lt = refl
residual_is quantiser columns frame row column (suc (suc zero)) line across lt = refl
residual_is quantiser columns frame row column (suc (suc (suc zero))) line across lt = refl
residual_is quantiser columns frame row column (suc (suc (suc (suc zero)))) line across lt = refl
residual_is quantiser columns frame row column (suc (suc (suc (suc (suc zero))))) line across lt = refl
residual_is quantiser columns frame row column (suc (suc (suc (suc (suc (suc n)))))) line across lt = absurd (omega arith)

no_prediction : (n k : ℕ) → slice_index (replicate n 0) k ≡ 0
no_prediction zero k = refl
no_prediction (suc n) zero = refl
no_prediction (suc n) (suc k) = no_prediction n k

no_base : (alone : Bool) (k : ℕ) → cond alone 0 (slice_index (replicate 384 0) k) ≡ 0
no_base true k = refl
no_base false k = no_prediction 384 k

-- the samples of a macroblock
abbrev samples_of : ℕ → ℕ → Samples → ℕ → ℕ → Plane → ℕ → ℕ → ℕ
samples_of quantiser columns frame row column =
    macro_sample (replicate 384 0) (flat_macroblock frame row column).levels 63 (kind_for (flat_context columns) true true quantiser) (kind_for (flat_context columns) true false quantiser) false

-- a sample by its block
by_block : (quantiser columns : ℕ) (frame : Samples) (row column block line across k : ℕ) (alone : Bool) → block < 6
    → macro.clamped (pos (cond alone 0 (slice_index (replicate 384 0) k)) +ℤ residual (flat_macroblock frame row column).levels 63 (kind_for (flat_context columns) true true quantiser) (kind_for (flat_context columns) true false quantiser) (record { block = block; line = line; column = across }))
    ≡ rebuilt quantiser frame row column block line across
unfolding rebuilt
by_block quantiser columns frame row column block line across k alone lt =
    rw (no_base alone k, residual_is quantiser columns frame row column block line across lt)
    (clamped_same (at (inverse_of (coefficients_of (flat_levels frame row column block) (flat_kind quantiser block))) line across))

sample_is : (quantiser columns : ℕ) (frame : Samples) (row column : ℕ) (plane : Plane) (r c : ℕ) → r / side plane ≡ row → c / side plane ≡ column
    → samples_of quantiser columns frame row column plane (r % side plane) (c % side plane) ≡ recon_at quantiser frame plane r c
unfolding macro_sample macro.block_of recon.block_of recon_at
sample_is quantiser columns frame row column Y r c er ec =
    let block = 2 * (r % 16 / 8) + c % 16 / 8 in
    let line : r % 16 % 8 ≡ r % 8 = omega arith in
    let across : c % 16 % 8 ≡ c % 8 = omega arith in
    by_block quantiser columns frame row column block (r % 16 % 8) (c % 16 % 8) (place_in Y (r % 16) (c % 16)) _ (omega arith)
    ∙ ap (λ (n : ℕ). rebuilt quantiser frame row column block n (c % 16 % 8)) line
    ∙ ap (λ (n : ℕ). rebuilt quantiser frame row column block (r % 8) n) across
    ∙ ap (λ (n : ℕ). rebuilt quantiser frame n column block (r % 8) (c % 8)) (sym er)
    ∙ ap (λ (n : ℕ). rebuilt quantiser frame (r / 16) n block (r % 8) (c % 8)) (sym ec)
sample_is quantiser columns frame row column Cb r c er ec =
    by_block quantiser columns frame row column 4 (r % 8) (c % 8) (place_in Cb (r % 8) (c % 8)) _ (omega arith)
    ∙ rw (er, ec) refl
sample_is quantiser columns frame row column Cr r c er ec =
    by_block quantiser columns frame row column 5 (r % 8) (c % 8) (place_in Cr (r % 8) (c % 8)) _ (omega arith)
    ∙ rw (er, ec) refl

-- ---- frames

-- a frame whose first macroblocks have their samples
abbrev pub HasSamples : ℕ → Samples → ℕ → Samples → Type 0
HasSamples quantiser source count now = IsPainted Whole source.dims count (recon_at quantiser source) now

-- a frame that has them all
pub all_samples : (quantiser : ℕ) (source now : Samples) → HasSamples quantiser source (source.dims.mb_rows * source.dims.mb_width) now → now ≡ recon_frame quantiser source
unfolding recon_frame
all_samples quantiser source now h = frame_all source.dims (recon_at quantiser source) now h

-- where a macroblock stands
first_is : (quantiser columns : ℕ) (frame : Samples) (row column : ℕ) → first_skipped (state_before quantiser columns frame row column) ≡ row * columns + column
unfolding state_before at_start
first_is quantiser columns frame row zero = omega (arith, ints)
first_is quantiser columns frame row (suc column) = omega (arith, ints)

follows_is : (quantiser columns : ℕ) (frame : Samples) (row column : ℕ) → address (state_before quantiser columns frame row column) 1 ≡ pos (first_skipped (state_before quantiser columns frame row column) + 0)
unfolding state_before at_start
follows_is quantiser columns frame row zero = omega (arith, ints)
follows_is quantiser columns frame row (suc column) = omega (arith, ints)

-- a macroblock has its samples of the frame
own_is : (quantiser : ℕ) (d : Dims) (refs : References) (source : Samples) (row column : ℕ) → column < source.dims.mb_width
    → LiesIn (flat_context source.dims.mb_width) (first_skipped (state_before quantiser source.dims.mb_width source row column))
    (own_sample (flat_setup source.dims.mb_width d) refs (state_before quantiser source.dims.mb_width source row column) (flat_macroblock source row column)) (recon_at quantiser source)
unfolding prediction_of sample_at flat_macroblock state_inside
own_is quantiser d refs source row column lt plane r c among down across =
    let width = source.dims.mb_width in
    let place = first_is quantiser width source row column in
    let line : r / side plane ≡ row = down ∙ ap (λ (n : ℕ). n / width) place ∙ div-mul-add row width column lt in
    let beside : c / side plane ≡ column = across ∙ ap (λ (n : ℕ). n % width) place ∙ mod-mul-add row width column lt in
    ap (λ (z : SliceState). samples_of z.quantiser width source row column plane (r % side plane) (c % side plane)) (inside_is quantiser width source row column)
    ∙ sample_is quantiser width source row column plane r c line beside

macroblock_is : (quantiser : ℕ) (d : Dims) (refs : References) (source : Samples) (row column : ℕ) → column < source.dims.mb_width
    → IsPartOf (flat_setup source.dims.mb_width d) refs (state_before quantiser source.dims.mb_width source row column) (flat_macroblock source row column) (recon_at quantiser source)
unfolding flat_macroblock
macroblock_is quantiser d refs source row column lt =
    let width = source.dims.mb_width in
    let st = state_before quantiser width source row column in
    let none = none_skipped quantiser width source row column in
    record {
      follows = follows_is quantiser width source row column ∙ ap (λ (n : ℕ). pos (first_skipped st + n)) (sym none);
      skipped = λ k some. absurd (omega (arith, none, some));
      own = own_is quantiser d refs source row column lt;
    }

-- the macroblocks of a row
macroblocks_are : (quantiser : ℕ) (d : Dims) (refs : References) (source : Samples) (row n column : ℕ) → column + n ≡ source.dims.mb_width
    → ArePartsOf (flat_setup source.dims.mb_width d) refs (state_before quantiser source.dims.mb_width source row column) (flat_macroblocks source row column n) (recon_at quantiser source)
unfolding ArePartsOf
macroblocks_are quantiser d refs source row zero column is = tt
macroblocks_are quantiser d refs source row (suc n) column is =
    let width = source.dims.mb_width in
    let next : suc column ≡ column + 1 = omega arith in (
      macroblock_is quantiser d refs source row column (omega arith),
      subst (λ (z : SliceState). ArePartsOf (flat_setup width d) refs z (flat_macroblocks source row (column + 1) n) (recon_at quantiser source))
          (sym (after_is quantiser width source row column ∙ ap (state_before quantiser width source row) next))
          (macroblocks_are quantiser d refs source row n (column + 1) (omega arith)),
    )

behind_is : (quantiser columns : ℕ) (source : Samples) (row n column : ℕ) → after_macroblocks (flat_context columns) (state_before quantiser columns source row column) (flat_macroblocks source row column n) ≡ state_before quantiser columns source row (column + n)
unfolding after_macroblocks
behind_is quantiser columns source row zero column = ap (state_before quantiser columns source row) (omega arith)
behind_is quantiser columns source row (suc n) column =
    let next : suc column ≡ column + 1 = omega arith in
    ap (λ (z : SliceState). after_macroblocks (flat_context columns) z (flat_macroblocks source row (column + 1) n)) (after_is quantiser columns source row column ∙ ap (state_before quantiser columns source row) next)
    ∙ behind_is quantiser columns source row n (column + 1)
    ∙ ap (state_before quantiser columns source row) (omega arith)

pub row_has : (quantiser : ℕ) (d : Dims) (refs : References) (source : Samples) (row : ℕ) (now : Samples) → 0 < source.dims.mb_width
    → HasSamples quantiser source (row * source.dims.mb_width) now
    → HasSamples quantiser source (suc row * source.dims.mb_width)
    (all_painted put_in_frame (flat_setup source.dims.mb_width d) refs (state_before quantiser source.dims.mb_width source row 0) (flat_macroblocks source row 0 source.dims.mb_width) now)
row_has quantiser d refs source row now some h =
    let width = source.dims.mb_width in
    let s = flat_setup width d in
    let st = state_before quantiser width source row 0 in
    let xs = flat_macroblocks source row 0 width in
    let start : row * width ≡ first_skipped st = omega (arith, first_is quantiser width source row 0) in
    let all : 0 + width ≡ width = omega arith in
    let end : first_skipped (after_macroblocks (flat_context width) st xs) ≡ suc row * width =
    ap first_skipped (behind_is quantiser width source row width 0 ∙ ap (state_before quantiser width source row) all) ∙ omega (arith, first_is quantiser width source row width) in
    subst (λ (k : ℕ). HasSamples quantiser source k (all_painted put_in_frame s refs st xs now)) end
    (all_more s refs st xs source.dims (recon_at quantiser source) now some refl (macroblocks_are quantiser d refs source row width 0 (omega arith))
    (subst (λ (k : ℕ). HasSamples quantiser source k now) start h))
