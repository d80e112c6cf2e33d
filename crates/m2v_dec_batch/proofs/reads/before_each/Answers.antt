use Rattle.std.proofs.Common.{◌+◌, ◌<◌, ◌∙◌, map, length, replicate, get_or, ap, refl, arith}
use Rattle.std.proofs.lemmas.List.{length-set}
use Rattle.m2v_dec_batch.specs.declared.picture.Header.{Header}
use Rattle.m2v_dec_batch.specs.declared.picture.FramePlace.TheVariants.{Older, Newer}
use Rattle.m2v_dec_batch.specs.declared.reads.Before.{Before}
use Rattle.m2v_dec_batch.specs.Batches.{header_of}
use Rattle.m2v_dec_batch.proofs.Anchors.{header_there, jobs_most, before_first, before_next, each_next, each_first}
use Rattle.m2v_dec_batch.proofs.reads.before_each.Goals as goal

abbrev start : Before
start = record { jobs = 0; older = Older; newer = Newer }

abbrev any : Before
any = record { jobs = 0; older = Older; newer = Older }

pub loop-p-init : goal.loop-p-init
loop-p-init c = record {
  size = refl;
  each = λ k d le. each_first (map header_of c.args.pictures.now) start (replicate 16 start) k d le (before_first (map header_of c.args.pictures.now));
}

pub behind_picture-requires-clause-few : goal.behind_picture-requires-clause-few
behind_picture-requires-clause-few c =
    omega (arith, (c.loop-p.invariant.each c.loop-p.p any (omega arith)).jobs, jobs_most (map header_of c.args.pictures.now) c.loop-p.p c.requires.rows, c.requires.few, c.loop-p-test.true)

pub behind_picture-requires-clause-rows : goal.behind_picture-requires-clause-rows
behind_picture-requires-clause-rows c =
    omega (arith, ap (λ (h : Header). h.rows) (header_there c.args.pictures.now c.loop-p.p _ c.header_of.result c.loop-p-test.true c.header_of.ensures.value), c.requires.rows c.loop-p.p)

pub loop-p-preserved : goal.loop-p-preserved
loop-p-preserved c =
    let hs = map header_of c.args.pictures.now in
    let room : c.loop-p.p + 1 < length c.loop-p.all = omega (arith, c.requires.few, c.loop-p-test.true, c.loop-p.invariant.size) in
    record {
      size = length-set c.loop-p.all (c.loop-p.p + 1) c.behind_picture.result ∙ c.loop-p.invariant.size;
      each = each_next hs c.loop-p.all c.loop-p.p c.behind_picture.result room c.loop-p.invariant.each
          (before_next hs c.loop-p.p (get_or c.loop-p.all c.loop-p.p any) c.behind_picture.result c.header_of.result (c.loop-p.invariant.each c.loop-p.p any (omega arith))
          (header_there c.args.pictures.now c.loop-p.p _ c.header_of.result c.loop-p-test.true c.header_of.ensures.value) c.behind_picture.ensures.jobs c.behind_picture.ensures.older c.behind_picture.ensures.newer);
    }
