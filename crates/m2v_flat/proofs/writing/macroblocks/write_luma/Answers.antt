use Rattle.std.proofs.Common.{arith, ◌≡◌, ◌∙◌, ◌+◌, ◌-◌, append_assoc}
use Rattle.std.specs.List.{flat_map, range_with_len}
use Rattle.std.specs.Int.{w32}
use Rattle.std.proofs.lemmas.Int.{to_z-of_z}
use Rattle.std.proofs.lemmas.List.{length-append}
use Rattle.m2v_flat.specs.Flat.{block_text}
use Rattle.m2v_bits.proofs.Texts.{texts_more}
use Rattle.m2v_flat.proofs.Lengths.{block_length}
use Rattle.m2v_flat.proofs.Predictions.{luma_predictor, luma_byte}
use Rattle.m2v_flat.proofs.writing.macroblocks.write_luma.Goals as goal

pub write_block-before-requires-clause-before : goal.write_block-before-requires-clause-before
write_block-before-requires-clause-before c =
    luma_predictor c.args.frame.now c.args.row c.args.column c.loop-block.block _ (omega arith) c.loop-block.invariant.first c.loop-block.invariant.next

pub write_block-before-requires-clause-least : goal.write_block-before-requires-clause-least
write_block-before-requires-clause-least c =
    (luma_byte c.args.frame.now c.args.row c.args.column c.loop-block.block _ c.loop-block.invariant.first c.loop-block.invariant.next).least

pub write_block-before-requires-clause-most : goal.write_block-before-requires-clause-most
write_block-before-requires-clause-most c =
    (luma_byte c.args.frame.now c.args.row c.args.column c.loop-block.block _ c.loop-block.invariant.first c.loop-block.invariant.next).most

pub loop-block-preserved : goal.loop-block-preserved
loop-block-preserved c =
    let text = block_text c.args.frame.now c.args.row c.args.column in
    let k = c.loop-block.block in
    let kept = to_z-of_z w32 c.write_block-before.result (record { sfits = c.write_block-before.type_inv }) in
    let here : k + 1 - 1 ≡ k = omega arith in
    let more = texts_more text k in
    record {
      first = λ none. absurd (omega arith);
      next = λ some. rw (kept, here) c.write_block-before.ensures.value;
      written = c.write_block-before.ensures.written ∙ rw (c.loop-block.invariant.written, more) (append_assoc c.args.out.now.written (flat_map text (range_with_len 0 k)) (text k));
      room = rw more (omega (arith, c.write_block-before.ensures.room, c.loop-block.invariant.room, length-append (flat_map text (range_with_len 0 k)) (text k)));
      enough = omega (arith, c.write_block-before.ensures.room, c.loop-block.invariant.enough, block_length c.args.frame.now c.args.row c.args.column k);
    }
