use Rattle.m2v_dec_batch.proofs.Decoded.{unread_room}
use Rattle.m2v_dec_batch.proofs.book.DecodeBook.made.Goals as goal

pub make-requires-clause-size : goal.make-requires-clause-size
make-requires-clause-size c = unread_room c.args.self.now c.args.j c.args.piece c.in-Unread.room c.pictures-batch.ensures.batch c.in-Unread.is c.requires.fits
