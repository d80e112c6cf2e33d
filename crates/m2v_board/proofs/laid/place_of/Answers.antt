use Rattle.std.proofs.Common.{◌∙◌, ◌≡◌, sym, ap, subst, refl, ℕ, ◌<◌, length, get_or}
use Rattle.std.specs.Prelude.{Some, IsSome, Option}
use Rattle.m2v_board.proofs.Slots.{position_there}
use Rattle.m2v_board.proofs.laid.place_of.Goals as goal

some_same : (a b : ℕ) → Some a ≡ Some b → a ≡ b
some_same a b e = cc

pub unwrap-requires : goal.unwrap-requires
unwrap-requires c =
    let t = position_there c.args.j c.args.queue.now.items c.requires in
    subst (λ (o : Option ℕ). IsSome o) (sym (c.position_of.ensures ∙ t.1)) refl

pub returns : goal.returns
returns c =
    let t = position_there c.args.j c.args.queue.now.items c.requires in
    let is : c.unwrap.result ≡ t.0 = some_same c.unwrap.result t.0 (sym c.unwrap.ensures ∙ c.position_of.ensures ∙ t.1) in
    record { within = subst (λ p. p < length c.args.queue.now.items) (sym is) t.2; found = ap (λ p. get_or c.args.queue.now.items p 0) is ∙ t.3 }
