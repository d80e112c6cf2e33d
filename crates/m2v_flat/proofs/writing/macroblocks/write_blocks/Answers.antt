use Rattle.std.proofs.Common.{arith, ◌∙◌, ◌++◌, ap, List, Bool, sym}
use Rattle.std.specs.Int.{w32}
use Rattle.std.proofs.lemmas.Int.{to_z-of_z}
use Rattle.m2v_flat.specs.declared.writing.macroblocks.Predictors.{Predictors}
use Rattle.m2v_flat.specs.Flat.{block_text}
use Rattle.m2v_bits.proofs.Texts.{texts_most}
use Rattle.m2v_flat.proofs.Lengths.{block_length, six_blocks, six_lengths}
use Rattle.m2v_flat.proofs.Predictions.{before_bytes, byte_passed, predictors_next, cb_predictor, cr_predictor}
use Rattle.m2v_flat.proofs.writing.macroblocks.write_blocks.Goals as goal

pub write_block-cb-requires-clause-before : goal.write_block-cb-requires-clause-before
write_block-cb-requires-clause-before c =
    let bytes = before_bytes c.args.frame.now c.args.row c.args.column c.args.before c.requires.before in
    byte_passed c.args.before.cb bytes.cb ∙ ap (λ (p : Predictors). p.cb) c.requires.before ∙ cb_predictor c.args.frame.now c.args.row c.args.column

pub write_block-cb-requires-clause-least : goal.write_block-cb-requires-clause-least
write_block-cb-requires-clause-least c =
    let bytes = before_bytes c.args.frame.now c.args.row c.args.column c.args.before c.requires.before in
    rw (byte_passed c.args.before.cb bytes.cb) bytes.cb.least

pub write_block-cb-requires-clause-most : goal.write_block-cb-requires-clause-most
write_block-cb-requires-clause-most c =
    let bytes = before_bytes c.args.frame.now c.args.row c.args.column c.args.before c.requires.before in
    rw (byte_passed c.args.before.cb bytes.cb) bytes.cb.most

pub write_block-cb-requires-clause-room : goal.write_block-cb-requires-clause-room
write_block-cb-requires-clause-room c =
    let text = block_text c.args.frame.now c.args.row c.args.column in
    omega (arith, c.write_luma-luma.ensures.room, texts_most text 24 (block_length c.args.frame.now c.args.row c.args.column) 4)

pub write_block-cr-requires-clause-before : goal.write_block-cr-requires-clause-before
write_block-cr-requires-clause-before c =
    let bytes = before_bytes c.args.frame.now c.args.row c.args.column c.args.before c.requires.before in
    byte_passed c.args.before.cr bytes.cr ∙ ap (λ (p : Predictors). p.cr) c.requires.before ∙ cr_predictor c.args.frame.now c.args.row c.args.column

pub write_block-cr-requires-clause-least : goal.write_block-cr-requires-clause-least
write_block-cr-requires-clause-least c =
    let bytes = before_bytes c.args.frame.now c.args.row c.args.column c.args.before c.requires.before in
    rw (byte_passed c.args.before.cr bytes.cr) bytes.cr.least

pub write_block-cr-requires-clause-most : goal.write_block-cr-requires-clause-most
write_block-cr-requires-clause-most c =
    let bytes = before_bytes c.args.frame.now c.args.row c.args.column c.args.before c.requires.before in
    rw (byte_passed c.args.before.cr bytes.cr) bytes.cr.most

pub write_block-cr-requires-clause-room : goal.write_block-cr-requires-clause-room
write_block-cr-requires-clause-room c =
    let text = block_text c.args.frame.now c.args.row c.args.column in
    omega (arith, c.write_luma-luma.ensures.room, c.write_block-cb.ensures.room, texts_most text 24 (block_length c.args.frame.now c.args.row c.args.column) 4, block_length c.args.frame.now c.args.row c.args.column 4)

pub returns-clause-next : goal.returns-clause-next
returns-clause-next c =
    let luma = to_z-of_z w32 c.write_luma-luma.result (record { sfits = c.write_luma-luma.type_inv }) ∙ c.write_luma-luma.ensures.value in
    let cb = to_z-of_z w32 c.write_block-cb.result (record { sfits = c.write_block-cb.type_inv }) ∙ c.write_block-cb.ensures.value in
    let cr = to_z-of_z w32 c.write_block-cr.result (record { sfits = c.write_block-cr.type_inv }) ∙ c.write_block-cr.ensures.value in
    rw (luma, cb, cr) (sym (predictors_next c.args.frame.now c.args.row c.args.column))

pub returns-clause-written : goal.returns-clause-written
returns-clause-written c =
    let text = block_text c.args.frame.now c.args.row c.args.column in
    c.write_block-cr.ensures.written
    ∙ ap (λ (t : List Bool). t ++ text 5) (c.write_block-cb.ensures.written ∙ ap (λ (t : List Bool). t ++ text 4) c.write_luma-luma.ensures.written)
    ∙ six_blocks c.args.frame.now c.args.row c.args.column c.args.out.now.written

pub returns-clause-room : goal.returns-clause-room
returns-clause-room c =
    omega (arith, c.write_luma-luma.ensures.room, c.write_block-cb.ensures.room, c.write_block-cr.ensures.room, six_lengths c.args.frame.now c.args.row c.args.column)
