use Rattle.std.proofs.Common.{sym}
use Rattle.m2v_encode.proofs.kept.bench_for.Goals as goal

pub again-requires-clause-spare : goal.again-requires-clause-spare
again-requires-clause-spare c = λ κs. c.into_posts.ensures.serve.each c.args.book.now (sym (rw c.in-Some.is at c.requires.kept))
