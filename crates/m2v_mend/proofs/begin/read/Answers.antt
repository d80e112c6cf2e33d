use Rattle.std.proofs.Common.{[], List, map, sym, subst, ap, Option, None, Some}
use Rattle.std.specs.Prelude.{All}
use Rattle.std.proofs.lemmas.List.{map-id}
use Rattle.m2v_decode.specs.m2v_dec_piece.declared.answer.Piece.{Piece}
use Rattle.m2v_decode.specs.m2v_dec_piece.Sound.{IsSoundPiece}
use Rattle.m2v_mend.specs.declared.refusal.Refusal.{Refusal}
use Rattle.m2v_mend.specs.Strand.{StrandState}
use Rattle.m2v_mend.proofs.PutBehind.{ToldBehind}
use Rattle.m2v_mend.proofs.Trying.{read_strand, read_refused}
use Rattle.m2v_mend.proofs.begin.read.Goals as goal

pub returns-in-None-clause-told : goal.returns-in-None-clause-told
returns-in-None-clause-told c = λ can.
    let s = c.another-strand.result in
    let ps = c.args.pieces.now in
    let told = subst (λ (l : List Piece). ToldBehind s c.args.first.now l None c.read.new.self) (map-id ps) (subst (λ (o : Option Refusal). ToldBehind s c.args.first.now (map (λ (p : Piece). p) ps) o c.read.new.self) c.in-None.is c.in_ok-read.ensures.told) in
    let at = c.another-strand.ensures.is in
    let other = ap (λ (x : StrandState). x.opening) c.another-strand.ensures.value in
    read_strand s c.read.new.self c.args.first.now ps other at (told [] at can) (c.in_ok-read.ensures.opening c.in-None.is)

pub returns-in-Some-clause-told : goal.returns-in-Some-clause-told
returns-in-Some-clause-told c = λ can.
    let s = c.another-strand.result in
    let ps = c.args.pieces.now in
    let told = subst (λ (l : List Piece). ToldBehind s c.args.first.now l (Some c.in-Some.refusal) c.read.new.self) (map-id ps) (subst (λ (o : Option Refusal). ToldBehind s c.args.first.now (map (λ (p : Piece). p) ps) o c.read.new.self) c.in-Some.is c.in_ok-read.ensures.told) in
    let at = c.another-strand.ensures.is in
    let other = ap (λ (x : StrandState). x.opening) c.another-strand.ensures.value in
    read_refused s c.read.new.self c.args.first.now ps c.in-Some.refusal other at (told [] at can)

pub read-requires-clause-pieces : goal.read-requires-clause-pieces
read-requires-clause-pieces c = subst (All IsSoundPiece) (sym (map-id c.args.pieces.now)) c.requires
