use Rattle.std.proofs.Common.{arith, ap, ◌∙◌, ℕ, ◌++◌, ◌∷◌, []}
use Rattle.std.specs.declared.vec.Vec.{Vec}
use Rattle.m2v_core.proofs.Noted.{lists_push, lists_same}
use Rattle.m2v_core.proofs.machine.note.Goals as goal

pub returns-in-Ok : goal.returns-in-Ok
returns-in-Ok c = record {
  done = lists_push _ _ _ c.index_mut.result.now c.args.job (omega (arith, c.requires, c.args.claimed.now.ok.0)) (c.in-Ok.ensures.items ∙ ap (λ (u : Vec ℕ _). u.items ++ c.args.job ∷ []) c.index_mut.ensures.value);
  same = tt;
}

pub returns-in-Err : goal.returns-in-Err
returns-in-Err c = record { done = tt; same = lists_same _ _ _ c.index_mut.result.now (c.in-Err.ensures.items ∙ ap (λ (u : Vec ℕ _). u.items) c.index_mut.ensures.value) }
