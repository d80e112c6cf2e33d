use Rattle.std.proofs.Common.{ℕ, List, [], ◌∷◌, ap, ◌∙◌}
use Rattle.std.specs.Prelude.{nat_eq}
use Rattle.std.specs.List.{ends_with}
use Rattle.m2v_audit.proofs.ZeroLaws.{ends_so}
use Rattle.m2v_audit.proofs.zeros.ends_code.Goals as goal

pub returns-then-zeros-eq0 : goal.returns-then-zeros-eq0
returns-then-zeros-eq0 c =
    let kept = c.args.piece.now.bytes.items in
    ends_so kept _ c.args.zeros c.ends_with.result c.requires.zeros c.if-zeros-eq0.true
    (c.ends_with.ensures.value ∙ ap (λ (xs : List ℕ). ends_with nat_eq xs (0 ∷ 0 ∷ 1 ∷ 0xB7 ∷ [])) c.deref.ensures.value)
