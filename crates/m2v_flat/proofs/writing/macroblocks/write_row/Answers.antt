use Rattle.std.proofs.Common.{arith, ◌≡◌, ◌∙◌, ◌++◌, length, ap, List, Bool, sym, append_assoc, append-nil}
use Rattle.std.specs.List.{flat_map, range_with_len}
use Rattle.std.proofs.lemmas.List.{length-append}
use Rattle.m2v_plane.specs.declared.dims.Dims.{Dims}
use Rattle.m2v_flat.specs.Flat.{macroblock_text}
use Rattle.m2v_bits.proofs.Texts.{texts_more}
use Rattle.m2v_flat.proofs.Lengths.{macroblock_most, row_is}
use Rattle.m2v_flat.proofs.Predictions.{predictors_first}
use Rattle.m2v_flat.proofs.writing.macroblocks.write_row.Goals as goal

pub loop-column-init : goal.loop-column-init
loop-column-init c = record {
  before = sym (predictors_first c.args.frame.now c.args.row);
  written = sym (append-nil c.args.out.now.written);
  room = omega arith;
  enough = omega arith;
}

pub loop-column-preserved : goal.loop-column-preserved
loop-column-preserved c =
    let text = macroblock_text c.args.frame.now c.args.row in
    let k = c.loop-column.column in
    let more = texts_more text k in
    record {
      before = c.write_macroblock-before.ensures.next;
      written = c.write_macroblock-before.ensures.written ∙ rw (c.loop-column.invariant.written, more) (append_assoc c.args.out.now.written (flat_map text (range_with_len 0 k)) (text k));
      room = rw more (omega (arith, c.write_macroblock-before.ensures.room, c.loop-column.invariant.room, length-append (flat_map text (range_with_len 0 k)) (text k)));
      enough = omega (arith, c.write_macroblock-before.ensures.room, c.loop-column.invariant.enough, macroblock_most c.args.frame.now c.args.row k);
    }

pub returns-clause-written : goal.returns-clause-written
returns-clause-written c =
    let end : c.loop-column.column ≡ c.args.frame.now.dims.mb_width = omega (arith, ap (λ (d : Dims). d.mb_width) c.dims-column-end.ensures.value) in
    c.loop-column.invariant.written ∙ ap (λ (t : List Bool). c.args.out.now.written ++ t) (row_is c.args.frame.now c.args.row c.loop-column.column end)

pub returns-clause-room : goal.returns-clause-room
returns-clause-room c =
    let end : c.loop-column.column ≡ c.args.frame.now.dims.mb_width = omega (arith, ap (λ (d : Dims). d.mb_width) c.dims-column-end.ensures.value) in
    omega (arith, c.loop-column.invariant.room, ap length (row_is c.args.frame.now c.args.row c.loop-column.column end))
