use Rattle.std.proofs.Common.{◌≡◌, ◌+◌, length, sym, subst, ap, arith}
use Rattle.m2v_dec_piece.specs.Cutting.{Held}
use Rattle.m2v_dec_piece.proofs.TrimLaws.{length-sure}
use Rattle.m2v_dec_piece.proofs.SliceLaws.{Knows, knows_code}
use Rattle.m2v_dec_piece.proofs.hand.Hand.code.Goals as goal

pub invariant_of-self : goal.invariant_of-self
invariant_of-self c =
    let from = c.self.inside.slices in
    let later = c.slices_behind-self-inside.result in
    let known = c.self-2.invariant in
    let h = c.self-2.inside in
    let before = subst (Knows from) c.self.view_is c.self.invariant.5 in
    let is = ap (λ (x : Held). record x { ahead = 0 }) c.self-2.view_is in
    let long : length (c.put_all.new.self).sure ≡ c.len.result + h.zeros = omega (arith, ap (λ (x : Held). length x.sure) c.self-2.view_is, length-sure h.bytes.items h.zeros, c.len.ensures) in
    let knows = knows_code c.args.self.now (record (c.put_all.new.self) { ahead = 0 }) c.args.value from later (c.len.result + h.zeros) c.requires.fits (ap (λ (x : Held). record x { ahead = 0 }) c.in_ok-put_all.ensures.ok) long
    c.slices_behind-self-inside.ensures before in
    (omega arith, known.1, known.2, known.3, known.4, subst (Knows later) (sym is) knows)
