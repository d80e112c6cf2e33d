use Rattle.std.proofs.Common.{arith, sym, subst, ◌∙◌}
use Rattle.std.specs.Prelude.{slice_index_or}
use Rattle.m2v_board.specs.Posts.{IsBlank}
use Rattle.m2v_board.proofs.Opening.{opened, wrapped_there, length_wrapped}
use Rattle.m2v_board.proofs.board.Board.new.Goals as goal

pub new-requires : goal.new-requires
new-requires g c =
    let posts = c.args.posts.items in
    let count = c.requires.count ∙ sym c.jobs-jobs.ensures in
    opened _ _ _ (omega arith) (omega arith) (c.deref.ensures.value ∙ c.in_ok-words.ensures) (length_wrapped posts _ c.in_ok-slots.ensures ∙ count)
    (wrapped_there (λ j b. IsBlank (g.B.JobBook.fits_piece c.of.result.value) (g.B.JobBook.fits_shared c.of.result.value) j b.value) posts _
    (λ j d lt. subst (λ (b : g.row.B.Denot). IsBlank (g.B.JobBook.fits_piece b) (g.B.JobBook.fits_shared b) j (slice_index_or posts j d).value) (sym c.of.ensures) (c.requires.blank j d (omega (arith, c.jobs-jobs.ensures)))) count _ c.in_ok-slots.ensures)
