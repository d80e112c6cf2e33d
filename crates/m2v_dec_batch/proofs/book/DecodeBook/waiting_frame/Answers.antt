use Rattle.std.proofs.Common.{sym, ◌∙◌}
use Rattle.m2v_dec_batch.proofs.Blank.{ok_as, waiting_behind}
use Rattle.m2v_dec_batch.proofs.book.DecodeBook.waiting_frame.Goals as goal

pub returns : goal.returns
returns c = record {
  value = ok_as c.clone_in.result _ _ (sym (waiting_behind c.args.self.now _ c.requires.second (sym c.waiting.ensures.value ∙ c.in-Some.is))) c.clone_in.ensures.value;
}
