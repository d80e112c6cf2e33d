use Rattle.std.proofs.Common.{◌≡◌, ◌∙◌, ap, arith}
use Rattle.m2v_slice.specs.Books.{rows}
use Rattle.m2v_encode.proofs.Pieces.{bits_so_far, bits_more, bits_all, size_small}
use Rattle.m2v_encode.proofs.done.DoneGroup.size.Goals as goal

pub loop-r-preserved : goal.loop-r-preserved
loop-r-preserved c =
    let inv = c.loop-r.invariant in
    record {
      value = omega (arith, inv.value, c.slice_bits-bits.ensures.value, bits_more c.args.self.now c.args.p c.loop-r.r);
      most = omega (arith, inv.most, c.slice_bits-bits.ensures.most);
    }

pub returns-clause-value : goal.returns-clause-value
returns-clause-value c =
    let end : c.loop-r.r ≡ rows c.args.self.now = omega (arith, c.rows-r-end.ensures.value) in
    c.loop-r.invariant.value ∙ ap (bits_so_far c.args.self.now c.args.p) end ∙ bits_all c.args.self.now c.args.p c.requires.picture

pub returns-clause-most : goal.returns-clause-most
returns-clause-most c =
    let end : c.loop-r.r ≡ rows c.args.self.now = omega (arith, c.rows-r-end.ensures.value) in
    let is = c.loop-r.invariant.value ∙ ap (bits_so_far c.args.self.now c.args.p) end ∙ bits_all c.args.self.now c.args.p c.requires.picture in
    omega (arith, is, size_small c.args.self.now c.pictures-book.ensures.book c.args.p c.requires.picture)
