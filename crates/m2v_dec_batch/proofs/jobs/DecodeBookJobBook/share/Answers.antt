use Rattle.m2v_dec_batch.proofs.Decoded.{piece_size}
use Rattle.m2v_dec_batch.proofs.jobs.DecodeBookJobBook.share.Goals as goal

pub take-requires : goal.take-requires
take-requires c = record { same = piece_size c.args.self.now c.args._j c.args.piece.now c.args.into.now.dims c.pictures-batch.ensures.batch c.requires.into.dims c.requires.piece }
