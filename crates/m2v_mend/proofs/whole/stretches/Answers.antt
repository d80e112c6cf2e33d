use Rattle.std.proofs.Common.{refl, arith}
use Rattle.std.proofs.lemmas.Result.{err_from_is_err_and}
use Rattle.m2v_port.proofs.Runs.{rose_since, stays_on}
use Rattle.m2v_mend.proofs.Coming.{goes_on}
use Rattle.m2v_mend.proofs.Ended.{fell_so, either_since}
use Rattle.m2v_mend.proofs.whole.stretches.Goals as goal

pub loop-feed-preserved : goal.loop-feed-preserved
loop-feed-preserved g c =
    let inv = c.loop-feed.invariant in
    rw c.go_on.ensures (record {
      told = λ first start h. goes_on _ c.stretch.new.feed c.stretch.new.folding first _ start _ (c.in_ok-stretch.ensures.told first start (inv.told first start h));
      going = c.in_ok-stretch.ensures.going;
      begun = refl;
      still = refl;
      ready = c.in_ok-stretch.ensures.ready;
      output = stays_on inv.output c.stretch.ensures.output;
      list = stays_on inv.list c.stretch.ensures.list;
      input = omega (arith, inv.input, c.stretch.ensures.input);
    })

pub returns-in_err-stretch-clause-stops : goal.returns-in_err-stretch-clause-stops
returns-in_err-stretch-clause-stops g c =
    let p = err_from_is_err_and c.from_residual.result c.from_residual.ensures.1 in
    let s = c.in_err-stretch.ensures.stops in
    let inv = c.loop-feed.invariant in
    rw (p.1, p.2) (record {
      fell = fell_so _ _ _ _ c.in_err-stretch.field-0.0 (rose_since inv.input) (either_since inv.output.counts inv.list.counts) s.fell;
      cut = λ first start h. s.cut first start (inv.told first start h);
      past = λ first start h. s.past first start (inv.told first start h);
    })
