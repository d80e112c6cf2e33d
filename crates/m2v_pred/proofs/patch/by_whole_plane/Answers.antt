use Rattle.std.proofs.Common.{◌≡◌, ℕ, ◌+◌, ◌*◌, get_or, ap, sym, subst, ◌⊎◌, inl, inr}
use Rattle.m2v_plane.specs.declared.planes.Plane.{Plane}
use Rattle.m2v_plane.specs.declared.planes.Plane.TheVariants.{Cb, Cr}
use Rattle.m2v_plane.specs.Sizes.{side}
use Rattle.m2v_pred.specs.Patches.{PatchedFrom}
use Rattle.m2v_pred.proofs.patch.by_whole_plane.Goals as goal

chroma : (p : Plane) → (p ≡ Cb) ⊎ (p ≡ Cr) → side p ≡ 8
chroma p (inl e) = ap side e
chroma p (inr e) = ap side e

pub returns-in-Y : goal.returns-in-Y
returns-in-Y c =
    let p = c.args.patch.now in
    let wide : side p.plane ≡ 16 = ap side c.in-Y.is in
    record {
      value = subst (λ (n : ℕ). PatchedFrom n p (λ k x. get_or c.args.window.now.samples.now (k * c.args.window.now.stride + x) 0) c.args.out.now c.by_case_whole.new.out) (sym wide) c.by_case_whole.ensures.value;
    }

pub returns-in-Cb : goal.returns-in-Cb
returns-in-Cb c =
    let p = c.args.patch.now in
    let wide = chroma p.plane c.in-Cb.is in
    record {
      value = subst (λ (n : ℕ). PatchedFrom n p (λ k x. get_or c.args.window.now.samples.now (k * c.args.window.now.stride + x) 0) c.args.out.now c.by_case_whole-in-Cb.new.out) (sym wide) c.by_case_whole-in-Cb.ensures.value;
    }
