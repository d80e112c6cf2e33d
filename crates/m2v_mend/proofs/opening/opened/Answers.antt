use Rattle.std.proofs.Common.{◌-◌, List, [], ◌∷◌, ◌++◌, drop, length, refl, ap, ◌∙◌}
use Rattle.m2v_decode.specs.m2v_dec_piece.declared.answer.Piece.{Piece}
use Rattle.std.proofs.lemmas.List.Elements.{All-take, All-drop}
use Rattle.m2v_mend.specs.Members.{IsMember}
use Rattle.m2v_mend.specs.Opening.{items_of}
use Rattle.m2v_mend.proofs.Openings.{opened_none, opened_told}
use Rattle.m2v_mend.proofs.opening.opened.Goals as goal

pub returns-in_default-2 : goal.returns-in_default-2
returns-in_default-2 c =
    let item = c.in-Some.ensures.item in
    opened_none c.args.low (items_of c.args.head.now) c.args.members.now c.in-Some.member.now c.args.shape c.in_ok-piece.field-0 item.3.0 item.1 c.requires.shape c.in_ok-piece.ensures c.in_default-2.is

pub push_lowered-requires : goal.push_lowered-requires
push_lowered-requires c = All-take IsMember (c.args.shape.frame - 1) (drop 1 c.args.members.now) (All-drop IsMember 1 c.args.members.now c.requires.members)

pub returns : goal.returns
returns c =
    let item = c.in-Some.ensures.item in
    opened_told c.args.low (items_of c.args.head.now) c.args.members.now c.in-Some.member.now c.args.shape c.in-Some-2.piece c.in_ok-piece.field-0 _ _ _ (length c.args.members.now - c.args.shape.behind) item.3.0 item.1 c.requires.shape c.in_ok-piece.ensures c.in-Some-2.is
    (c.in_ok-push.ensures.items ∙ ap (λ (l : List Piece). l ++ c.in-Some-2.piece ∷ []) c.new-out.ensures.items) c.in_ok-push_lowered.ensures c.in_ok-push_lowered-2.ensures refl
