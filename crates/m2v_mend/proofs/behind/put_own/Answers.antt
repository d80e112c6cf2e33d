use Rattle.std.proofs.Common.{refl, sym, ap, subst, ◌∙◌, List, Option, None, Some, true, arith}
use Rattle.std.specs.Prelude.{All}
use Rattle.m2v_decode.specs.m2v_dec_piece.Sound.{IsSoundPiece}
use Rattle.m2v_mend.specs.declared.member.Member.{Member}
use Rattle.m2v_mend.specs.declared.refusal.Refusal.{Refusal}
use Rattle.m2v_mend.specs.Kept.{pieces_of}
use Rattle.m2v_mend.specs.Strand.{bytes_in}
use Rattle.m2v_mend.proofs.CopyLaws.{members_sound, own_copies}
use Rattle.m2v_mend.proofs.PutBehind.{ToldBehind, kept_told, left_told, byte_there, span_behind, end_is, total_is}
use Rattle.m2v_mend.proofs.behind.put_own.Goals as goal

pub read-requires-clause-pieces : goal.read-requires-clause-pieces
read-requires-clause-pieces c = subst (λ (ms : List Member). All IsSoundPiece (pieces_of ms)) (sym c.deref-2.ensures.value) (members_sound c.args.parts.members.items c.requires.members)

pub read-requires-clause-counted : goal.read-requires-clause-counted
read-requires-clause-counted c =
    let same = ap (λ (ms : List Member). bytes_in (pieces_of ms)) (c.deref.ensures.value ∙ sym c.deref-2.ensures.value) in
    omega (arith, same, c.in_ok-bytes_of.ensures, c.in_ok-total.ensures.value, c.in_ok-total.ensures.most, c.bytes.ensures.value)

pub returns-in_ok-put_out-in-None-clause-told : goal.returns-in_ok-put_out-in-None-clause-told
returns-in_ok-put_out-in-None-clause-told c =
    let ms = c.args.parts.members.items in
    let ps = pieces_of ms in
    let told = subst (λ (l : List Member). ToldBehind c.args.strand.now c.args.first.now (pieces_of l) None c.read.new.self) c.deref-2.ensures.value (subst (λ (o : Option Refusal). ToldBehind c.args.strand.now c.args.first.now (pieces_of c.deref-2.result.now) o c.read.new.self) c.in-None.is c.in_ok-read.ensures.told) in
    λ sp bytes span short stretch at can under.
    let g = span_behind c.args.parts bytes 0 true sp ms ps ps c.requires.members refl refl (own_copies ms c.requires.members) (members_sound ms c.requires.members) (byte_there bytes c.args.strand.now.bytes at.length_is c.requires.begun) span short stretch can in
    kept_told c.args.strand.now c.read.new.self c.args.first.now bytes 0 sp c.args.out.now.items c.put_out.new.out.items ps at g (told bytes at g.go) (c.in_ok-read.ensures.opening c.in-None.is)
    (rw c.into_members.ensures at c.in_ok-put_out-in-None.ensures)

pub returns-in-Some-clause-told : goal.returns-in-Some-clause-told
returns-in-Some-clause-told c =
    let ms = c.args.parts.members.items in
    let ps = pieces_of ms in
    let told = subst (λ (l : List Member). ToldBehind c.args.strand.now c.args.first.now (pieces_of l) (Some c.in-Some.refusal) c.read.new.self) c.deref-2.ensures.value (subst (λ (o : Option Refusal). ToldBehind c.args.strand.now c.args.first.now (pieces_of c.deref-2.result.now) o c.read.new.self) c.in-Some.is c.in_ok-read.ensures.told) in
    λ sp bytes span short stretch at can under.
    let g = span_behind c.args.parts bytes 0 true sp ms ps ps c.requires.members refl refl (own_copies ms c.requires.members) (members_sound ms c.requires.members) (byte_there bytes c.args.strand.now.bytes at.length_is c.requires.begun) span short stretch can in
    let own = c.bytes.ensures.is bytes at in
    let more = c.in_ok-bytes_of.ensures ∙ ap (λ (l : List Member). bytes_in (pieces_of l)) c.deref.ensures.value in
    left_told c.args.strand.now c.read.new.self c.args.first.now bytes 0 sp c.args.out.now.items c.args.out.now.items ps c.in_ok-end.end c.in_ok-total.total c.fault_of.result c.in-Some.refusal at g under
    (end_is c.args.parts sp c.in_ok-end.end c.in_ok-end.ensures.value span) (total_is bytes ps c.in_ok-total.total c.bytes.result c.in_ok-bytes_of.field-0 c.in_ok-total.ensures.value own more (members_sound ms c.requires.members))
    (told bytes at g.go) c.fault_of.ensures refl
