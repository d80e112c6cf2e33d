use Rattle.std.proofs.Common.{◌+◌, ◌≡◌, length, arith, ap, ◌∙◌}
use Rattle.m2v_dec_piece.specs.Cutting.{Held}
use Rattle.m2v_dec_piece.proofs.TrimLaws.{length-sure}
use Rattle.m2v_dec_piece.proofs.hand.Hand.go_on.Goals as goal

pub invariant_of-self : goal.invariant_of-self
invariant_of-self c =
    let h = c.self.inside in
    let known = c.self.invariant in
    let none = ap length (ap (λ (x : Held). x.sure) c.self.view_is ∙ c.requires.none) in
    let empty : length h.bytes.items + h.zeros ≡ 0 = omega (arith, none, length-sure h.bytes.items h.zeros) in (known.0, known.1, known.2, λ before. empty, λ picture. absurd cc, known.5)
