use Rattle.std.proofs.Common.{◌∙◌, sym, ap, length, arith}
use Rattle.m2v_bits.proofs.Cursor.{length-bits}
use Rattle.m2v_slice.specs.Slices.{CodedSlice}
use Rattle.m2v_encode.proofs.Pieces.{slice_small}
use Rattle.m2v_encode.proofs.done.DoneGroup.slice_bits.Goals as goal

pub overflow_mul-result : goal.overflow_mul-result
overflow_mul-result c =
    let small = slice_small c.args.self.now c.pictures-book.ensures.book c.args.p c.args.r c.requires.picture c.requires.row in
    record { fits = omega (arith, small, length-bits c.bytes.result.now, ap length c.bytes.ensures, ap (λ (x : CodedSlice). length x.text) c.slice.ensures.value) }

pub returns-clause-value : goal.returns-clause-value
returns-clause-value c = sym (length-bits c.bytes.result.now) ∙ ap length c.bytes.ensures ∙ ap (λ (x : CodedSlice). length x.text) c.slice.ensures.value

pub returns-clause-most : goal.returns-clause-most
returns-clause-most c =
    let small = slice_small c.args.self.now c.pictures-book.ensures.book c.args.p c.args.r c.requires.picture c.requires.row in
    omega (arith, small, length-bits c.bytes.result.now, ap length c.bytes.ensures, ap (λ (x : CodedSlice). length x.text) c.slice.ensures.value)
