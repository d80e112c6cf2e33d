use Rattle.std.proofs.Common.{◌≡◌, ◌∙◌, ap, sym, subst}
use Rattle.std.specs.Prelude.{IfSome}
use Rattle.m2v_dec_batch.specs.declared.cache.HeldFrame.{HeldFrame}
use Rattle.m2v_dec_batch.specs.Batches.{headers}
use Rattle.m2v_dec_batch.specs.Learned.{held_for, row_learned}
use Rattle.m2v_dec_batch.proofs.Learning.{for_held, for_begun, for_fits}
use Rattle.m2v_dec_batch.proofs.book.DecodeBook.learn_row.Goals as goal
use Rattle.m2v_dec_batch.proofs.book.DecodeBook.learn_row.Goals.{then-not-is_of, else-not-is_of}

pub learn_next-requires-clause-frame : goal.learn_next-requires-clause-frame
learn_next-requires-clause-frame c =
    let b = c.args.self.now in
    let old = c.args.held.now in
    let is : c.if-not-is_of.held ≡ held_for b c.args.q old = elim c.if-not-is_of.branch [
      | then-not-is_of w ↦ w.held-is ∙ w.begin.ensures.value ∙ sym (for_begun b c.args.q old (sym c.is_of.ensures.value ∙ w.if-not-is_of.true))
      | else-not-is_of w ↦ w.held-is ∙ sym (for_held b c.args.q old (sym c.is_of.ensures.value ∙ w.if-not-is_of.false))
    ] in
    subst (λ (h : HeldFrame). IfSome h.frame (λ f. f.dims ≡ b.dims)) (sym is) (for_fits b c.args.q old c.pictures-batch.ensures.batch c.requires.picture c.requires.fits).frame

pub returns : goal.returns
returns c =
    let b = c.args.self.now in
    let old = c.args.held.now in
    let is : c.if-not-is_of.held ≡ held_for b c.args.q old = elim c.if-not-is_of.branch [
      | then-not-is_of w ↦ w.held-is ∙ w.begin.ensures.value ∙ sym (for_begun b c.args.q old (sym c.is_of.ensures.value ∙ w.if-not-is_of.true))
      | else-not-is_of w ↦ w.held-is ∙ sym (for_held b c.args.q old (sym c.is_of.ensures.value ∙ w.if-not-is_of.false))
    ] in
    record { value = c.learn_next.ensures.value ∙ ap (row_learned (headers b) c.args.q c.args.k c.args.part.now.row) is }
