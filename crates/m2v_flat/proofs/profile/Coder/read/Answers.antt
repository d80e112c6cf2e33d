use Rattle.std.proofs.Common.{refl, inl, inr, subst, ap, ◌∙◌, ℕ, Err}
use Rattle.m2v_port.specs.Port.{MovesFewer}
use Rattle.m2v_flat.proofs.profile.Coder.read.Goals as goal

pub returns-in-Err-Failed-clause-err : goal.returns-in-Err-Failed-clause-err
returns-in-Err-Failed-clause-err g c =
    let size = c.deref_mut.ensures.len ∙ c.requires.ready.raw in
    record {
      why = inl (refl, c.in-Err-Failed.ensures.failed (ap Err c.in-Err-Failed.field-0-is));
      moved = subst (λ (n : ℕ). MovesFewer (g.S.Source.left c.args.input.now) n (g.S.Source.left c.fill.new.input)) size c.in-Err-Failed.ensures.err;
    }

pub returns-in-Err-Memory-clause-err : goal.returns-in-Err-Memory-clause-err
returns-in-Err-Memory-clause-err g c =
    let size = c.deref_mut.ensures.len ∙ c.requires.ready.raw in
    record {
      why = inr refl;
      moved = subst (λ (n : ℕ). MovesFewer (g.S.Source.left c.args.input.now) n (g.S.Source.left c.fill.new.input)) size c.in-Err-Memory.ensures.err;
    }
