use Rattle.std.proofs.Common.{ap, sym, ◌∙◌, ◌≡◌, true, ◌+ℤ◌}
use Rattle.m2v_block.specs.Blocks.{is_dc, difference}
use Rattle.m2v_block.proofs.DcLooks.{dc_behind, level_passed}
use Rattle.m2v_block.proofs.read_dc.quick_dc.Goals as goal

pub returns-clause-read : goal.returns-clause-read
returns-clause-read c =
    let read = c.in_ok-size.ensures.read in
    let level = level_passed c.args.precision c.args.predictor c.difference.result c.requires.precision c.requires.predictor c.difference.ensures.within
    ∙ ap (λ z. c.args.predictor +ℤ z) c.difference.ensures.value in
    let held : is_dc c.args.precision (c.args.predictor +ℤ difference c.in_ok-size.size c.in_ok-size.bits) ≡ true = ap (is_dc c.args.precision) (sym level) ∙ sym c.if-not-is_dc.ensures.value in
    rw level
    (dc_behind c.args.luma c.args.precision c.in_ok-size.size c.in_ok-size.bits c.args.predictor c.args.input.now.rest read.0 c.quick_sized.new.input.rest read.1 read.2 held)
