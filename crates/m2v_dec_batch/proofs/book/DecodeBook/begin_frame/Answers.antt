use Rattle.std.proofs.Common.{◌≡◌, false, sym, ◌∙◌, ap}
use Rattle.std.specs.Prelude.{nat_eq}
use Rattle.std.proofs.lemmas.Bool.{ne_eqb, cond-false}
use Rattle.m2v_plane.specs.declared.dims.Dims.{Dims}
use Rattle.m2v_plane.specs.Samples.{blank}
use Rattle.m2v_dec_batch.specs.declared.picture.Header.{Header}
use Rattle.m2v_dec_batch.specs.Jobs.{header_at}
use Rattle.m2v_dec_batch.specs.Batches.{headers, frame_behind, no_rows}
use Rattle.m2v_dec_batch.proofs.Blank.{first_behind, blank_behind}
use Rattle.m2v_dec_batch.proofs.book.DecodeBook.begin_frame.Goals as goal
use Rattle.m2v_dec_batch.proofs.book.DecodeBook.begin_frame.Goals.{else-q-eq0-via-then-q-eq0+else-is_second, else-q-eq0-via-else-q-eq0}

pub returns : goal.returns
returns c =
    let b = c.args.self.now in
    let none : frame_behind b no_rows c.args.q ≡ blank b.dims b.dims.mb_rows = elim c.else-q-eq0.branch [
      | else-q-eq0-via-then-q-eq0+else-is_second w ↦ ap (frame_behind b no_rows) w.if-q-eq0.true ∙ first_behind b 0 (sym w.is_second.ensures.value ∙ w.if-is_second.false)
      | else-q-eq0-via-else-q-eq0 w ↦ blank_behind b c.args.q c.pictures-batch.ensures.batch w.if-q-eq0.false
    ] in
    let field : nat_eq (header_at (headers b) c.args.q).structure 3 ≡ false =
    ap (λ (h : Header). nat_eq h.structure 3) (sym c.header.ensures.value) ∙ ne_eqb c.header.result.structure 3 c.if-header-eq3.false in
    record {
      value = c.clear.ensures.value
          ∙ ap (λ (d : Dims). blank d d.mb_rows) c.requires.size
          ∙ sym none
          ∙ sym (cond-false (nat_eq (header_at (headers b) c.args.q).structure 3) c.args.frame.now (frame_behind b no_rows c.args.q) field);
    }
