use Rattle.m2v_encode.proofs.Serving.{serve_all}
use Rattle.m2v_encode.proofs.kept.KeptPosts.of.Goals as goal

pub invariant_of-result : goal.invariant_of-result
invariant_of-result c = serve_all c.args.done c.requires.book c.args.settings.now c.requires.same c.into_spare.result.posts c.into_spare.ensures
