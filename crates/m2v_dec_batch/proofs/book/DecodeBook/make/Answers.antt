use Rattle.std.proofs.Common.{◌∙◌, sym}
use Rattle.m2v_dec_batch.proofs.FoundFrames.{after_is}
use Rattle.m2v_dec_batch.proofs.book.DecodeBook.make.Goals as goal

pub returns : goal.returns
returns c = record { value = after_is c.args.self.now c.args.j (sym c.is_ready.ensures.value ∙ c.if-is_ready.false) }
