use Rattle.std.proofs.Common.{refl, ap, ◌∙◌, List, ℕ}
use Rattle.std.specs.Prelude.{◌||◌}
use Rattle.m2v_law_seam.specs.Spans.{is_matrices}
use Rattle.m2v_mend.proofs.HeadLaws.{heads_passed}
use Rattle.m2v_mend.proofs.head.Heads.pass.Goals as goal

pub returns : goal.returns
returns c = heads_passed c.args.self.now _ _ c.requires.other c.requires.end refl refl (c.matrices_seen-self.ensures ∙ ap (λ (u : List ℕ). c.args.self.now.lost || is_matrices u) c.new.ensures) refl
