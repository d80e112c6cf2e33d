use Rattle.std.proofs.Common.{◌++◌, ◌∷◌, [], length, replicate, arith, ap, ◌∙◌}
use Rattle.std.proofs.lemmas.List.{length-append}
use Rattle.m2v_model.specs.Pieces.{zeros_last}
use Rattle.m2v_dec_piece.proofs.TrimLaws.{zeros_last_end, length-sure}
use Rattle.m2v_dec_piece.proofs.SliceLaws.{unknown_sliced}
use Rattle.m2v_dec_piece.proofs.hand.Hand.put.Goals as goal

pub invariant_of-self-2 : goal.invariant_of-self-2
invariant_of-self-2 c =
    let h = c.self.inside in
    let e = c.in-Ok.ensures in
    let front = h.bytes.items ++ replicate h.zeros 0 in
    let len = ap length e ∙ length-append front (c.args.b ∷ []) in
    let known = c.self.invariant in (
      known.0,
      omega (arith, len, length-sure h.bytes.items h.zeros, c.len.ensures, c.if-self-at-ge-MOST_INPUT.false),
      ap zeros_last e ∙ zeros_last_end front c.args.b c.if-b-eq0.false,
      λ before. absurd (c.in_default.not-Before before),
      λ picture. omega (arith, len),
      unknown_sliced _ _ 0 h.ahead (omega (arith, len, length-sure h.bytes.items h.zeros, known.1)),
    )
