use Rattle.std.proofs.Common.{refl, sym, ap, subst, ◌∙◌, ◌++◌, List, map, Option, None, Some, arith}
use Rattle.std.proofs.lemmas.List.{map-id}
use Rattle.m2v_mend.specs.declared.refusal.Refusal.{Refusal}
use Rattle.std.specs.Prelude.{All}
use Rattle.m2v_decode.specs.m2v_dec_piece.declared.answer.Piece.{Piece}
use Rattle.m2v_decode.specs.m2v_dec_piece.Sound.{IsSoundPiece}
use Rattle.m2v_mend.specs.Strand.{bytes_in}
use Rattle.m2v_mend.proofs.PutBehind.{ToldBehind, kept_told, left_told, begun_is, span_behind, end_is, total_is}
use Rattle.m2v_mend.proofs.behind.put_copies.Goals as goal

pub returns-in-None-clause-told : goal.returns-in-None-clause-told
returns-in-None-clause-told c =
    let qs = c.in_ok-copies.copies.items in
    let ds = c.deref-3.result.now in
    let told = subst (λ (l : List Piece). ToldBehind c.args.strand.now c.args.first.now l None c.read.new.self) (map-id ds) (subst (λ (o : Option Refusal). ToldBehind c.args.strand.now c.args.first.now (map (λ (p : Piece). p) ds) o c.read.new.self) c.in-None.is c.in_ok-read.ensures.told) in
    λ sp bytes span short stretch at can under.
    let g = span_behind c.args.parts.now bytes c.args.low _ sp c.deref.result.now qs ds c.requires.members c.deref.ensures.value c.deref-3.ensures.value c.in_ok-copies.ensures.copies c.in_ok-copies.ensures.sound (begun_is bytes c.bytes-bytes.result (c.bytes-bytes.ensures.is bytes at)) span short stretch can in
    kept_told c.args.strand.now c.read.new.self c.args.first.now bytes c.args.low sp c.args.out.now.items c.append.new.self.items ds at g (told bytes at g.go) (c.in_ok-read.ensures.opening c.in-None.is)
    (c.in_ok-append-in-None.ensures.items ∙ ap (λ (l : List Piece). c.args.out.now.items ++ l) (sym c.deref-3.ensures.value))

pub returns-clause-told : goal.returns-clause-told
returns-clause-told c =
    let qs = c.in_ok-copies.copies.items in
    let ds = c.deref-3.result.now in
    let told = subst (λ (l : List Piece). ToldBehind c.args.strand.now c.args.first.now l (Some c.in-Some.refusal) c.read.new.self) (map-id ds) (subst (λ (o : Option Refusal). ToldBehind c.args.strand.now c.args.first.now (map (λ (p : Piece). p) ds) o c.read.new.self) c.in-Some.is c.in_ok-read.ensures.told) in
    λ sp bytes span short stretch at can under.
    let own = c.bytes-bytes.ensures.is bytes at in
    let g = span_behind c.args.parts.now bytes c.args.low _ sp c.deref.result.now qs ds c.requires.members c.deref.ensures.value c.deref-3.ensures.value c.in_ok-copies.ensures.copies c.in_ok-copies.ensures.sound (begun_is bytes c.bytes-bytes.result own) span short stretch can in
    let sound = subst (All IsSoundPiece) (sym c.deref-3.ensures.value) c.in_ok-copies.ensures.sound in
    let more = c.in_ok-bytes_of.ensures ∙ ap bytes_in (map-id c.deref-2.result.now ∙ c.deref-2.ensures.value ∙ sym c.deref-3.ensures.value) in
    left_told c.args.strand.now c.read.new.self c.args.first.now bytes c.args.low sp c.args.out.now.items c.args.out.now.items ds c.in_ok-end.end c.in_ok-total.total c.fault_of.result c.in-Some.refusal at g under
    (end_is c.args.parts.now sp c.in_ok-end.end c.in_ok-end.ensures.value span) (total_is bytes ds c.in_ok-total.total c.bytes-bytes.result c.in_ok-bytes_of.field-0 c.in_ok-total.ensures.value own more sound)
    (told bytes at g.go) c.fault_of.ensures refl

pub read-requires-clause-pieces : goal.read-requires-clause-pieces
read-requires-clause-pieces c = subst (All IsSoundPiece) (sym (map-id c.deref-3.result.now ∙ c.deref-3.ensures.value)) c.in_ok-copies.ensures.sound

pub read-requires-clause-counted : goal.read-requires-clause-counted
read-requires-clause-counted c =
    let same = ap (λ (l : List Piece). bytes_in (map (λ (p : Piece). p) l)) (c.deref-2.ensures.value ∙ sym c.deref-3.ensures.value) in
    omega (arith, same, c.in_ok-bytes_of.ensures, c.in_ok-total.ensures.value, c.in_ok-total.ensures.most, c.bytes-bytes.ensures.value)
