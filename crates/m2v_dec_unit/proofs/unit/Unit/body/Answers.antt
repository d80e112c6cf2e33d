use Rattle.std.proofs.Common.{◌≡◌, Bool, ℕ, ◌*◌, ◌<◌, ◌^◌, List, length, ap, sym, subst, ◌∙◌}
use Rattle.m2v_bits.specs.Bits.{Unread, bits, padded}
use Rattle.m2v_model.specs.Units.{body}
use Rattle.m2v_dec_unit.specs.Texts.{text_of}
use Rattle.m2v_dec_unit.proofs.Cuts.{body_is, body_short}
use Rattle.m2v_dec_unit.proofs.unit.Unit.body.Goals as goal

pub returns-clause-rest : goal.returns-clause-rest
returns-clause-rest c =
    let bytes = c.self.inside.bytes.now in
    let zeros = c.self.inside.zeros in
    ap (λ (r : Unread). r.rest) c.with_zeros.ensures
    ∙ ap (λ (b : List ℕ). padded (bits b) (8 * zeros)) c.bytes_from.ensures
    ∙ body_is bytes zeros c.self.invariant.0
    ∙ ap body c.self.view_is

pub returns-clause-text : goal.returns-clause-text
returns-clause-text c = ap (λ (r : Unread). r.text) c.with_zeros.ensures ∙ sym (ap (λ (r : Unread). r.rest) c.with_zeros.ensures) ∙ returns-clause-rest c

pub returns-clause-short : goal.returns-clause-short
returns-clause-short c =
    let same : body (text_of c.self.inside.bytes.now c.self.inside.zeros) ≡ c.with_zeros.result.text = ap body c.self.view_is ∙ sym (returns-clause-text c) in
    subst (λ (t : List Bool). length t < 2 ^ 40) same (body_short c.self.inside.bytes.now c.self.inside.zeros c.self.invariant.1)
