use Rattle.std.proofs.Common.{◌≡◌, ◌^◌, true, false, List, [], ◌∷◌, ◌++◌, map, sym, subst, ◌∙◌, arith}
use Rattle.m2v_port.proofs.Runs.{on_err}
use Rattle.m2v_dec_piece.specs.declared.answer.Piece.{Piece}
use Rattle.m2v_dec_batch.specs.declared.picture.BatchPicture.{BatchPicture}
use Rattle.m2v_pardec.specs.declared.taking.Stop.{Stop}
use Rattle.m2v_pardec.specs.Ahead.{AreInOrder, Takes, HandsOut, none, more}
use Rattle.m2v_pardec.specs.Taken.{AddedTo, piece_of, pieces_of, end_by}
use Rattle.m2v_pardec.proofs.PutLaws.{order_more, order_higher}
use Rattle.m2v_pardec.proofs.TakenLaws.{pieces_alone, pieces_with, pieces_more, no_pictures, behind_none, behind_more}
use Rattle.m2v_pardec.proofs.taking.take.Goals as goal

pub loop-alloc-init : goal.loop-alloc-init
loop-alloc-init g c =
    let t = c.none-taken.ensures in
    let c0 = c.args.cutter.now in
    let left = g.S.Source.left c.args.input.now in
    let pictures = no_pictures c.args.before c.none-taken.result t.pictures in
    record {
      going = c.requires.going;
      handed = subst (λ (ps : List BatchPicture). HandsOut c0 left (map piece_of ps) c0 left) (sym pictures) none;
      behind = behind_none c.args.before c.none-taken.result c.requires.known t.pictures t.after t.state;
      order = subst (λ (ps : List BatchPicture). AreInOrder c0.place (map piece_of ps) c0.place) (sym pictures) (omega arith);
      other = t.other;
      stop = t.stop;
      most = omega (arith, c.place-place.ensures.value, c.place-place.ensures.most);
      input = omega arith;
    }

pub returns-in-Err-clause-order : goal.returns-in-Err-clause-order
returns-in-Err-clause-order g c =
    let inv = c.loop-alloc.invariant in
    let low = c.args.cutter.now.place in
    let xs = c.loop-alloc.taken.pictures.pictures in
    subst (λ (ps : List Piece). AreInOrder low ps (2 ^ 36)) (sym (pieces_alone xs c.loop-alloc.taken.other inv.other))
    (order_higher (map piece_of xs) low c.loop-alloc.cutter.place (2 ^ 36) inv.most inv.order)

pub returns-in-Ok-None-clause-order : goal.returns-in-Ok-None-clause-order
returns-in-Ok-None-clause-order g c =
    let inv = c.loop-alloc.invariant in
    let low = c.args.cutter.now.place in
    let xs = c.loop-alloc.taken.pictures.pictures in
    let onward = rw c.in-Ok-None.field-0-is at c.in-Ok-None.ensures.onward in
    subst (λ (ps : List Piece). AreInOrder low ps c.next_piece.new.self.place) (sym (pieces_alone xs c.loop-alloc.taken.other inv.other))
    (order_higher (map piece_of xs) low c.loop-alloc.cutter.place c.next_piece.new.self.place onward.0 inv.order)

pub returns-in_err-add-in-Ok-Some-clause-err : goal.returns-in_err-add-in-Ok-Some-clause-err
returns-in_err-add-in-Ok-Some-clause-err g c =
    let x = rw c.in-Ok-Some.field-0-is at c.in-Ok-Some.ensures.ok in
    let begun = rw c.in-Ok-Some.field-0-is at c.in-Ok-Some.ensures.begun in
    on_err c.from_residual.result (map piece_of c.loop-alloc.taken.pictures.pictures ++ c.in-Ok-Some.piece ∷ [], more c.loop-alloc.invariant.handed x begun c.in-Ok-Some.ensures.taken)

pub loop-alloc-preserved : goal.loop-alloc-preserved
loop-alloc-preserved g c =
    let inv = c.loop-alloc.invariant in
    let x = rw c.in-Ok-Some.field-0-is at c.in-Ok-Some.ensures.ok in
    let begun = rw c.in-Ok-Some.field-0-is at c.in-Ok-Some.ensures.begun in
    let sound = rw c.in-Ok-Some.field-0-is at c.in-Ok-Some.ensures.sound in
    let onward = rw c.in-Ok-Some.field-0-is at c.in-Ok-Some.ensures.onward in
    let p = c.in-Ok-Some.piece in
    let old = c.loop-alloc.taken in
    let new = c.add.new.self in
    let c0 = c.args.cutter.now in
    let left = g.S.Source.left c.args.input.now in
    let c2 = c.next_piece.new.self in
    let left2 = g.S.Source.left c.next_piece.new.input in
    let is : c.in_ok-add-in-Ok-Some.field-0 ≡ true = c.if-not-branch.false in
    let a : AddedTo old p true new = rw is at c.in_ok-add-in-Ok-Some.ensures in
    let pieces = pieces_more old new p a in
    record {
      going = c.in-Ok-Some.ensures.going;
      handed = subst (λ (ps : List Piece). HandsOut c0 left ps c2 left2) (sym pieces) (more inv.handed x begun c.in-Ok-Some.ensures.taken);
      behind = behind_more c.args.before old new p inv.behind a;
      order = subst (λ (ps : List Piece). AreInOrder c0.place ps c2.place) (sym pieces)
          (order_more (map piece_of old.pictures.pictures) c0.place c.loop-alloc.cutter.place c2.place p inv.order onward.0 sound (omega (arith, onward.1)));
      other = a.4 ∙ inv.other;
      stop = a.5 ∙ inv.stop;
      most = omega (arith, onward.1, sound.end);
      input = omega (arith, inv.input, c.next_piece.ensures.faults);
    }

pub returns-then-not-branch-clause-taken : goal.returns-then-not-branch-clause-taken
returns-then-not-branch-clause-taken g c =
    let inv = c.loop-alloc.invariant in
    let x = rw c.in-Ok-Some.field-0-is at c.in-Ok-Some.ensures.ok in
    let begun = rw c.in-Ok-Some.field-0-is at c.in-Ok-Some.ensures.begun in
    let p = c.in-Ok-Some.piece in
    let old = c.loop-alloc.taken in
    let new = c.add.new.self in
    let c0 = c.args.cutter.now in
    let left = g.S.Source.left c.args.input.now in
    let c2 = c.next_piece.new.self in
    let left2 = g.S.Source.left c.next_piece.new.input in
    let is : c.in_ok-add-in-Ok-Some.field-0 ≡ false = c.if-not-branch.true in
    let a : AddedTo old p false new = rw is at c.in_ok-add-in-Ok-Some.ensures in
    subst (λ (s : Stop). Takes c0 left (pieces_of new) s c2 left2) (sym (a.4 ∙ inv.stop))
    (subst (λ (ps : List Piece). HandsOut c0 left ps c2 left2) (sym (pieces_with old new p a)) (more inv.handed x begun c.in-Ok-Some.ensures.taken), c.in-Ok-Some.ensures.going)

pub returns-then-not-branch-clause-order : goal.returns-then-not-branch-clause-order
returns-then-not-branch-clause-order g c =
    let inv = c.loop-alloc.invariant in
    let sound = rw c.in-Ok-Some.field-0-is at c.in-Ok-Some.ensures.sound in
    let onward = rw c.in-Ok-Some.field-0-is at c.in-Ok-Some.ensures.onward in
    let p = c.in-Ok-Some.piece in
    let old = c.loop-alloc.taken in
    let new = c.add.new.self in
    let low = c.args.cutter.now.place in
    let high = c.next_piece.new.self.place in
    let is : c.in_ok-add-in-Ok-Some.field-0 ≡ false = c.if-not-branch.true in
    let a : AddedTo old p false new = rw is at c.in_ok-add-in-Ok-Some.ensures in
    subst (λ (s : Stop). AreInOrder low (pieces_of new) (end_by s high)) (sym (a.4 ∙ inv.stop))
    (subst (λ (ps : List Piece). AreInOrder low ps high) (sym (pieces_with old new p a))
    (order_more (map piece_of old.pictures.pictures) low c.loop-alloc.cutter.place high p inv.order onward.0 sound (omega (arith, onward.1))))
