use Rattle.std.proofs.Common.{◌*◌, ℕ, List, ap, sym, subst, ◌∙◌}
use Rattle.std.specs.Prelude.{slice_set}
use Rattle.std.proofs.lemmas.List.{with_items_is}
use Rattle.m2v_plane.specs.declared.dims.Dims.{Dims}
use Rattle.m2v_plane.specs.declared.planes.Plane.TheVariants.{Y, Cb, Cr}
use Rattle.m2v_plane.specs.Samples.{Samples}
use Rattle.m2v_slice.specs.Kept.{kept_rows}
use Rattle.m2v_slice.proofs.KeptLines.{IsPut, same_dims, row_kept}
use Rattle.m2v_slice.proofs.kept.KeptRows.set.Goals as goal

pub put_row-requires-clause-columns : goal.put_row-requires-clause-columns
put_row-requires-clause-columns c =
    let s = c.self.inside in
    let same = same_dims c.args.self.now s.dims c.args.row.now.dims s.luma.items s.cb.items s.cr.items c.args.k c.self.view_is c.requires.place c.requires.same in
    ap (λ (x : Dims). 16 * x.mb_width) (sym same.0)

pub put_row-requires-clause-place : goal.put_row-requires-clause-place
put_row-requires-clause-place c =
    let s = c.self.inside in
    (same_dims c.args.self.now s.dims c.args.row.now.dims s.luma.items s.cb.items s.cr.items c.args.k c.self.view_is c.requires.place c.requires.same).1

pub put_row-requires-2-clause-columns : goal.put_row-requires-2-clause-columns
put_row-requires-2-clause-columns c =
    let s = c.self.inside in
    let same = same_dims c.args.self.now s.dims c.args.row.now.dims s.luma.items s.cb.items s.cr.items c.args.k c.self.view_is c.requires.place c.requires.same in
    ap (λ (x : Dims). 8 * x.mb_width) (sym same.0)

pub put_row-requires-2-clause-place : goal.put_row-requires-2-clause-place
put_row-requires-2-clause-place c =
    let s = c.self.inside in
    (same_dims c.args.self.now s.dims c.args.row.now.dims s.luma.items s.cb.items s.cr.items c.args.k c.self.view_is c.requires.place c.requires.same).1

pub put_row-requires-3-clause-columns : goal.put_row-requires-3-clause-columns
put_row-requires-3-clause-columns c =
    let s = c.self.inside in
    let same = same_dims c.args.self.now s.dims c.args.row.now.dims s.luma.items s.cb.items s.cr.items c.args.k c.self.view_is c.requires.place c.requires.same in
    ap (λ (x : Dims). 8 * x.mb_width) (sym same.0)

pub put_row-requires-3-clause-place : goal.put_row-requires-3-clause-place
put_row-requires-3-clause-place c =
    let s = c.self.inside in
    (same_dims c.args.self.now s.dims c.args.row.now.dims s.luma.items s.cb.items s.cr.items c.args.k c.self.view_is c.requires.place c.requires.same).1

pub returns : goal.returns
returns c =
    let s = c.self.inside in
    let d = s.dims in
    let k = c.args.k in
    let row = c.args.row.now in
    let same = same_dims c.args.self.now d row.dims s.luma.items s.cb.items s.cr.items k c.self.view_is c.requires.place c.requires.same in
    let luma = subst (λ (xs : List ℕ). IsPut Y k (16 * d.mb_width) row xs c.put_row.new.out) c.deref_mut.ensures.value
    (record { there = c.put_row.ensures.there; others = c.put_row.ensures.others }) in
    let cb = subst (λ (xs : List ℕ). IsPut Cb k (8 * d.mb_width) row xs c.put_row-2.new.out) c.deref_mut-2.ensures.value
    (record { there = c.put_row-2.ensures.there; others = c.put_row-2.ensures.others }) in
    let cr = subst (λ (xs : List ℕ). IsPut Cr k (8 * d.mb_width) row xs c.put_row-3.new.out) c.deref_mut-3.ensures.value
    (record { there = c.put_row-3.ensures.there; others = c.put_row-3.ensures.others }) in
    let el = with_items_is s.luma c.put_row.new.out (c.put_row.ensures.len ∙ c.deref_mut.ensures.len) in
    let eb = with_items_is s.cb c.put_row-2.new.out (c.put_row-2.ensures.len ∙ c.deref_mut-2.ensures.len) in
    let er = with_items_is s.cr c.put_row-3.new.out (c.put_row-3.ensures.len ∙ c.deref_mut-3.ensures.len) in
    record {
      value = (λ i. kept_rows d (el i) (eb i) (er i))
          ∙ row_kept d s.luma.items s.cb.items s.cr.items c.put_row.new.out c.put_row-2.new.out c.put_row-3.new.out k row same.0 c.dims-whole.ensures.whole
          luma cb cr same.1
          ∙ ap (λ (rows : List Samples). slice_set rows k row) c.self.view_is;
    }
