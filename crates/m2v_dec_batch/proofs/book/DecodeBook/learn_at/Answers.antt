use Rattle.std.proofs.Common.{length, sym, ap, ◌∙◌, Option}
use Rattle.m2v_dec_batch.specs.declared.cache.HeldFrame.{HeldFrame}
use Rattle.m2v_dec_batch.specs.declared.picture.FramePlace.{FramePlace}
use Rattle.m2v_dec_batch.specs.Batches.{headers}
use Rattle.m2v_dec_batch.specs.Learned.{learned_at}
use Rattle.m2v_dec_batch.proofs.Learning.{behind_is, behind_there, behind_none, row_small, into_first, into_second}
use Rattle.m2v_dec_batch.proofs.book.DecodeBook.learn_at.Goals as goal

pub learn_row-requires : goal.learn_row-requires
learn_row-requires c =
    let hs = headers c.args.self.now in
    let is = behind_is c.args.place c.in-Some.q (sym c.behind.ensures.value ∙ c.in-Some.is) in
    record {
      picture = behind_there (length hs) c.args.place c.in-Some.q is c.requires.place;
      row = row_small hs c.args.place c.in-Some.q c.args.k is c.requires.row;
      size = c.requires.size;
      fits = c.requires.fits.two;
    }

pub learn_row-requires-else-in_second : goal.learn_row-requires-else-in_second
learn_row-requires-else-in_second c =
    let hs = headers c.args.self.now in
    let is = behind_is c.args.place c.in-Some.q (sym c.behind.ensures.value ∙ c.in-Some.is) in
    record {
      picture = behind_there (length hs) c.args.place c.in-Some.q is c.requires.place;
      row = row_small hs c.args.place c.in-Some.q c.args.k is c.requires.row;
      size = c.requires.size;
      fits = c.requires.fits.one;
    }

pub returns-in_default : goal.returns-in_default
returns-in_default c = record { value = behind_none c.args.self.now c.args.place c.args.keep c.args.k c.args.part.now.row c.args.cache.now (sym c.behind.ensures.value ∙ c.in_default.is) }

pub returns-then-in_second : goal.returns-then-in_second
returns-then-in_second c =
    let b = c.args.self.now in
    let row = c.args.part.now.row in
    let old = c.args.cache.now in
    let is = behind_is c.args.place c.in-Some.q (sym c.behind.ensures.value ∙ c.in-Some.is) in
    record {
      value = ap (λ (h : HeldFrame). record old { two = h }) c.learn_row.ensures.value
          ∙ sym (into_second b c.in-Some.q c.args.k c.args.keep row old (sym c.in_second.ensures.value ∙ c.if-in_second.true))
          ∙ ap (λ (x : Option FramePlace). learned_at b x c.args.keep c.args.k row old) (sym is);
    }

pub returns-else-in_second : goal.returns-else-in_second
returns-else-in_second c =
    let b = c.args.self.now in
    let row = c.args.part.now.row in
    let old = c.args.cache.now in
    let is = behind_is c.args.place c.in-Some.q (sym c.behind.ensures.value ∙ c.in-Some.is) in
    record {
      value = ap (λ (h : HeldFrame). record old { one = h }) c.learn_row-else-in_second.ensures.value
          ∙ sym (into_first b c.in-Some.q c.args.k c.args.keep row old (sym c.in_second.ensures.value ∙ c.if-in_second.false))
          ∙ ap (λ (x : Option FramePlace). learned_at b x c.args.keep c.args.k row old) (sym is);
    }
