use Rattle.std.proofs.Common.{ap}
use mathlib.Core.Logic.{inr}
use Rattle.m2v_core.specs.Core.{after}
use Rattle.m2v_core.proofs.Steps.{stepped_same, stepped_good}
use Rattle.m2v_core.proofs.machine.Core.step.Goals as goal

pub returns-in-Claim-clause-same : goal.returns-in-Claim-clause-same
returns-in-Claim-clause-same g c = stepped_same _ _ _ _ _ _ c.claim.ensures.stepped

pub returns-in-Claim-clause-good : goal.returns-in-Claim-clause-good
returns-in-Claim-clause-good g c = rw (← c.requires.book) (stepped_good (g.B.JobBook.value c.args.self.now.book) _ _ _ _ _ (rw (← c.self.view_is) c.self.invariant.good) c.claim.ensures.stepped)

pub returns-in-Publish-clause-same : goal.returns-in-Publish-clause-same
returns-in-Publish-clause-same g c = stepped_same _ _ _ _ _ _ c.publish.ensures.stepped

pub returns-in-Publish-clause-good : goal.returns-in-Publish-clause-good
returns-in-Publish-clause-good g c = rw (← c.requires.book) (stepped_good (g.B.JobBook.value c.args.self.now.book) _ _ _ _ _ (rw (← c.self.view_is) c.self.invariant.good) c.publish.ensures.stepped)

pub returns-in-Fetch-clause-stepped : goal.returns-in-Fetch-clause-stepped
unfolding after
returns-in-Fetch-clause-stepped g c = rw (c.in-Fetch.is, ← c.requires.book) (inr (c.fetch.ensures.answer, ap (λ m. m.state) c.fetch.ensures.same))

pub returns-in-Fetch-clause-good : goal.returns-in-Fetch-clause-good
returns-in-Fetch-clause-good g c = rw (← c.requires.book, c.fetch.ensures.same, ← c.self.view_is) c.self.invariant.good
