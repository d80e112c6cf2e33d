-- What blocks are coded with is in its range.
use Rattle.std.proofs.Common.{◌≡◌, ℕ, ◌-◌, ◌≤◌, Bool, true, false, refl, arith}
use Rattle.std.specs.Prelude.{◌&&◌, nat_le, slice_index}
use Rattle.std.proofs.lemmas.Bool.{and_parts, leb-true}
use Rattle.m2v_block.proofs.m2v_vlc.ValueLaws.{below, agree}
use Rattle.m2v_block.specs.m2v_quant.Scans.{nonlinear_scales, scale_at}
use Rattle.m2v_block.specs.m2v_quant.Kinds.{IsKind}
use Rattle.m2v_macro.specs.declared.values.PictureContext.{PictureContext}
use Rattle.m2v_macroblock.specs.Macroblocks.{kind_for}
use Rattle.m2v_macroblock.specs.Conditions.{IsPicture, IsMatrix}

in_range : ℕ → Bool
in_range n = nat_le 1 (slice_index nonlinear_scales n) && nat_le (slice_index nonlinear_scales n) 112

all_in_range : below in_range 31 ≡ below (λ n. true) 31
unfolding below in_range nonlinear_scales
all_in_range = refl

scale_in : (b : Bool) (code : ℕ) → 1 ≤ code → code ≤ 31 → (1 ≤ scale_at b code) × (scale_at b code ≤ 112)
unfolding scale_at in_range
scale_in false code least most = (omega (arith, least), omega (arith, most))
scale_in true code least most =
    let p = and_parts _ _ (agree in_range (λ n. true) 31 (code - 1) all_in_range (omega (arith, least, most))) in
    (leb-true _ _ p.0, leb-true _ _ p.1)

matrix_in : (c : PictureContext) (intra : Bool) → IsPicture c → IsMatrix (kind_for c intra true 1).matrix
unfolding kind_for
matrix_in c true h = h.intra
matrix_in c false h = h.non_intra

pub kind_is : (c : PictureContext) (intra luma : Bool) (quantiser : ℕ) → IsPicture c → 1 ≤ quantiser → quantiser ≤ 31 → IsKind (kind_for c intra luma quantiser)
unfolding kind_for
kind_is c intra luma quantiser h least most =
    let s = scale_in c.extension.q_scale_type quantiser least most in
    record { precision = h.context.precision; least = s.0; most = s.1; matrix = matrix_in c intra h }
