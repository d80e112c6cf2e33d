use Rattle.std.proofs.Common.{◌++◌, List, ℕ, length, replicate, arith, ap, sym, subst, ◌∙◌}
use Rattle.std.proofs.lemmas.List.{length-append, append-nil}
use Rattle.m2v_model.specs.Pieces.{zeros_last}
use Rattle.m2v_dec_piece.proofs.TrimLaws.{zeros_last_run, length-sure}
use Rattle.m2v_dec_piece.specs.Slices.{IsSliced}
use Rattle.m2v_dec_piece.proofs.SliceLaws.{run_sliced, longer_sliced}
use Rattle.m2v_dec_piece.proofs.hand.Hand.put_run.Goals as goal

pub invariant_of-self-2 : goal.invariant_of-self-2
invariant_of-self-2 c =
    let h = c.self.inside in
    let e = c.in-Ok.ensures in
    let front = h.bytes.items ++ replicate h.zeros 0 in
    let len = ap length e ∙ length-append front c.args.run.now in
    let known = c.self.invariant in
    let ahead = rw (← c.self.view_is) at c.requires.ahead in
    let long = rw (← c.self.view_is) at c.requires.long in (
      known.0,
      omega (arith, len, length-sure h.bytes.items h.zeros, long),
      ap zeros_last e ∙ zeros_last_run front c.args.run.now c.requires.run c.requires.some,
      λ before. absurd ((rw (← c.self.view_is) at c.requires.begun) before),
      λ picture. omega (arith, len, c.requires.some),
      subst (λ (x : List ℕ). IsSliced h.slices x h.ahead) (sym (append-nil _ ∙ e)) (longer_sliced h.slices (front ++ c.args.run.now) 0 h.ahead (omega arith) (run_sliced h.slices front h.ahead c.args.run.now (omega (arith, ahead)) c.requires.run c.requires.some known.5)),
    )
