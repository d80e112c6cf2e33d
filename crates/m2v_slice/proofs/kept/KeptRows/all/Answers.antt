use Rattle.std.proofs.Common.{ℕ, List, ◌*◌, sym, subst}
use Rattle.m2v_plane.specs.declared.planes.Plane.{Plane}
use Rattle.m2v_slice.specs.Kept.{AreLines}
use Rattle.m2v_slice.proofs.KeptLines.{luma_lines, cb_lines, cr_lines}
use Rattle.m2v_slice.proofs.kept.KeptRows.all.Goals as goal

pub returns-in-Y : goal.returns-in-Y
returns-in-Y c =
    let s = c.self.inside in
    let w = 16 * s.dims.mb_width in
    record {
      lines = subst (λ (xs : List ℕ). AreLines c.args.self.now c.args.plane xs w) (sym c.deref.ensures.value)
          (subst (λ (p : Plane). AreLines c.args.self.now p s.luma.items w) (sym c.in-Y.is)
          (luma_lines c.args.self.now s.dims s.luma.items s.cb.items s.cr.items c.self.view_is c.self.invariant.0 c.self.invariant.1));
    }

pub returns-in-Cb : goal.returns-in-Cb
returns-in-Cb c =
    let s = c.self.inside in
    let w = 8 * s.dims.mb_width in
    record {
      lines = subst (λ (xs : List ℕ). AreLines c.args.self.now c.args.plane xs w) (sym c.deref-in-Cb.ensures.value)
          (subst (λ (p : Plane). AreLines c.args.self.now p s.cb.items w) (sym c.in-Cb.is)
          (cb_lines c.args.self.now s.dims s.luma.items s.cb.items s.cr.items c.self.view_is c.self.invariant.0 c.self.invariant.2));
    }

pub returns-in-Cr : goal.returns-in-Cr
returns-in-Cr c =
    let s = c.self.inside in
    let w = 8 * s.dims.mb_width in
    record {
      lines = subst (λ (xs : List ℕ). AreLines c.args.self.now c.args.plane xs w) (sym c.deref-in-Cr.ensures.value)
          (subst (λ (p : Plane). AreLines c.args.self.now p s.cr.items w) (sym c.in-Cr.is)
          (cr_lines c.args.self.now s.dims s.luma.items s.cb.items s.cr.items c.self.view_is c.self.invariant.0 c.self.invariant.3));
    }
