use Rattle.m2v_dec_batch.proofs.Ready.{has_learned}
use Rattle.m2v_dec_batch.proofs.jobs.DecodeBookJobBook.work.Goals as goal

pub made-requires-clause-learned : goal.made-requires-clause-learned
made-requires-clause-learned c =
    let l = c.requires.learned in
    has_learned c.args.self.now c.args.j l.0 c.args.cache.now c.pictures-batch.ensures.batch c.requires.job l.1 l.2
