use Rattle.std.proofs.Common.{◌≡◌, false, sym, ◌∙◌, ap}
use Rattle.m2v_plane.specs.declared.dims.Dims.{Dims}
use Rattle.m2v_plane.specs.Samples.{blank}
use Rattle.m2v_dec_batch.specs.Jobs.{header_at}
use Rattle.m2v_dec_batch.specs.Batches.{headers, frame_behind, no_rows}
use Rattle.m2v_dec_batch.proofs.Blank.{ok_as, first_behind, blank_behind}
use Rattle.m2v_dec_batch.proofs.book.DecodeBook.blank_frame.Goals as goal

pub returns-then-p-eq0 : goal.returns-then-p-eq0
returns-then-p-eq0 c =
    let b = c.args.self.now in
    let first : (header_at (headers b) 0).second ≡ false = sym c.is_second.ensures.value ∙ c.if-is_second.false in
    let is : blank c.dims.result c.dims.result.mb_rows ≡ frame_behind b no_rows c.args.p =
    ap (λ (d : Dims). blank d d.mb_rows) c.dims.ensures.value ∙ sym (first_behind b 0 first) ∙ ap (frame_behind b no_rows) (sym c.if-p-eq0.true) in
    record { value = ok_as c.blank.result _ _ is c.blank.ensures.value }

pub returns : goal.returns
returns c =
    let b = c.args.self.now in
    let is : blank c.dims-2.result c.dims-2.result.mb_rows ≡ frame_behind b no_rows c.args.p =
    ap (λ (d : Dims). blank d d.mb_rows) c.dims-2.ensures.value ∙ sym (blank_behind b c.args.p c.dims-2.ensures.batch c.if-p-eq0.false) in
    record { value = ok_as c.blank-2.result _ _ is c.blank-2.ensures.value }
