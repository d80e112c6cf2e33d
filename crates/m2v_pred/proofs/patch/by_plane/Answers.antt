use Rattle.std.proofs.Common.{◌≡◌, ℕ, ap, sym, subst, ◌⊎◌, inl, inr}
use Rattle.m2v_plane.specs.declared.planes.Plane.{Plane}
use Rattle.m2v_plane.specs.declared.planes.Plane.TheVariants.{Cb, Cr}
use Rattle.m2v_plane.specs.Sizes.{side}
use Rattle.m2v_pred.specs.Patches.{PatchedFrom}
use Rattle.m2v_pred.proofs.patch.by_plane.Goals as goal

chroma : (p : Plane) → (p ≡ Cb) ⊎ (p ≡ Cr) → side p ≡ 8
chroma p (inl e) = ap side e
chroma p (inr e) = ap side e

pub returns-in-Y : goal.returns-in-Y
returns-in-Y g c =
    let p = c.args.patch.now in
    let wide : side p.plane ≡ 16 = ap side c.in-Y.is in
    record {
      value = subst (λ (n : ℕ). PatchedFrom n p (g.L.PatchLines.at c.args.lines.now) c.args.out.now c.by_case.new.out) (sym wide) c.by_case.ensures.value;
    }

pub returns-in-Cb : goal.returns-in-Cb
returns-in-Cb g c =
    let p = c.args.patch.now in
    let wide = chroma p.plane c.in-Cb.is in
    record {
      value = subst (λ (n : ℕ). PatchedFrom n p (g.L.PatchLines.at c.args.lines.now) c.args.out.now c.by_case-in-Cb.new.out) (sym wide) c.by_case-in-Cb.ensures.value;
    }
