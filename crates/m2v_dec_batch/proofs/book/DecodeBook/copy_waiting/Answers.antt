use Rattle.std.proofs.Common.{◌∙◌, sym}
use Rattle.m2v_dec_batch.proofs.Blank.{waiting_behind}
use Rattle.m2v_dec_batch.proofs.book.DecodeBook.copy_waiting.Goals as goal

pub returns : goal.returns
returns c = record { value = c.copy_from.ensures.value ∙ sym (waiting_behind c.args.self.now _ c.requires.second (sym c.waiting.ensures.value ∙ c.in-Some.is)) }
