use Rattle.std.proofs.Common.{◌∙◌, ap, ℕ}
use Rattle.std.specs.declared.vec.Vec.{Vec}
use Rattle.m2v_core.proofs.Noted.{lists_at}
use Rattle.m2v_core.proofs.machine.claims_of.Goals as goal

pub returns : goal.returns
returns c = c.as_slice.ensures.value ∙ ap (λ (v : Vec ℕ _). v.items) c.index-claimed-worker.is ∙ lists_at c.args.claimed.now c.args.worker c.index-claimed-worker.result c.requires
