use Rattle.m2v_dec_batch.specs.Filled.{batch_of}
use Rattle.m2v_dec_batch.proofs.Exchanging.{exchanged}
use Rattle.m2v_dec_batch.proofs.filling.Filling.book.Goals as goal

pub for_batch-requires : goal.for_batch-requires
for_batch-requires c =
    let f = c.self.inside in
    record { batch = exchanged (batch_of f.dims f.pictures.items f.before) c.args.frames c.self.invariant (rw (← c.self.view_is) at c.requires.there) (rw (← c.self.view_is) at c.requires.sizes) }
