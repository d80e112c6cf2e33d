use Rattle.std.proofs.Common.{arith, refl, ap, subst, ◌∙◌}
use Rattle.m2v_core.proofs.Learns.{learn_none, learn_more}
use Rattle.m2v_wave.proofs.Learns.{borrowed_more}
use Rattle.std.proofs.lemmas.List.{take_all}
use Rattle.std.specs.Prelude.{All, Contains}
use Rattle.m2v_board.specs.Passes.{view}
use Rattle.m2v_wave.proofs.worker.learn_all.Goals as goal

pub loop-at-init : goal.loop-at-init
loop-at-init g c = record {
  pass = c.requires.pass;
  passes = refl;
  slots = λ i. refl;
  borrowed = λ i d lt. absurd (omega arith);
  fits = c.requires.cache;
  learned = learn_none _ _ _ _;
}

pub loop-at-preserved : goal.loop-at-preserved
loop-at-preserved g c =
    let inv = c.loop-at.invariant in
    record {
      pass = c.fetch.ensures.pass.0;
      passes = rw c.fetch.ensures.pass.1 inv.passes;
      slots = λ i. c.fetch.ensures.slots i ∙ inv.slots i;
      borrowed = rw c.fetch.ensures.pass.1 (borrowed_more _ _ c.loop-at.at _ (omega (arith, c.len-at-end.ensures)) c.get.ensures inv.borrowed);
      fits = c.fetch.ensures.fits;
      learned = learn_more _ _ _ c.loop-at.at _ _ _ inv.learned (c.fetch.ensures.learned ∙ ap (λ n. g.B.JobBook.learned c.args.book.now c.args.j c.loop-at.at (g.B.JobBook.shared c.args.book.now n) c.loop-at.cache) c.get.ensures);
    }

pub returns-clause-borrowed : goal.returns-clause-borrowed
returns-clause-borrowed g c = rw (← c.needs.ensures) (subst (All (λ i. Contains (view c.loop-at.pass).borrowed i)) (take_all _ _ (omega (arith, c.loop-at-test.false, c.len-at-end.ensures))) c.loop-at.invariant.borrowed)
