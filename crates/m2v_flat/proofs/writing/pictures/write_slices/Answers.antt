use Rattle.std.proofs.Common.{arith, ◌≡◌, ◌∙◌, ◌++◌, length, ap, List, Bool, append_assoc}
use Rattle.std.specs.List.{flat_map, range_with_len}
use Rattle.std.proofs.lemmas.List.{length-append}
use Rattle.m2v_plane.specs.declared.dims.Dims.{Dims}
use Rattle.m2v_flat.specs.Flat.{slice_unit}
use Rattle.m2v_bits.proofs.Texts.{texts_more}
use Rattle.m2v_flat.proofs.Lengths.{slices_are}
use Rattle.m2v_flat.proofs.UnitLaws.{slice_most}
use Rattle.m2v_flat.proofs.writing.pictures.write_slices.Goals as goal

pub loop-row-preserved : goal.loop-row-preserved
loop-row-preserved c =
    let text = slice_unit c.args.quantiser c.args.frame.now in
    let k = c.loop-row.row in
    let more = texts_more text k in
    record {
      written = c.write_slice.ensures.written ∙ rw (c.loop-row.invariant.written, more) (append_assoc c.args.out.now.written (flat_map text (range_with_len 0 k)) (text k));
      room = rw more (omega (arith, c.write_slice.ensures.room, c.loop-row.invariant.room, length-append (flat_map text (range_with_len 0 k)) (text k)));
      edge = c.write_slice.ensures.edge;
      enough = omega (arith, c.write_slice.ensures.room, c.loop-row.invariant.enough, slice_most c.args.quantiser c.args.frame.now k c.requires.width);
    }

pub returns-clause-written : goal.returns-clause-written
returns-clause-written c =
    let end : c.loop-row.row ≡ c.args.frame.now.dims.mb_rows = omega (arith, ap (λ (d : Dims). d.mb_rows) c.dims-row-end.ensures.value) in
    c.loop-row.invariant.written ∙ ap (λ (t : List Bool). c.args.out.now.written ++ t) (slices_are c.args.quantiser c.args.frame.now c.loop-row.row end)

pub returns-clause-room : goal.returns-clause-room
returns-clause-room c =
    let end : c.loop-row.row ≡ c.args.frame.now.dims.mb_rows = omega (arith, ap (λ (d : Dims). d.mb_rows) c.dims-row-end.ensures.value) in
    omega (arith, c.loop-row.invariant.room, ap length (slices_are c.args.quantiser c.args.frame.now c.loop-row.row end))
