use Rattle.std.proofs.lemmas.List.{length-drop}
use Rattle.std.proofs.Common.{ℕ, ◌+◌, ◌≤◌, length, arith, List, [], ◌++◌, drop, sym, ap, subst, ◌∙◌}
use Rattle.m2v_dec_piece.specs.Cutting.{Held, Fits, PieceStops, pieces_behind, start_behind, taken_by}
use Rattle.m2v_dec_piece.specs.declared.taking.Byte.{Byte}
use Rattle.m2v_dec_piece.specs.Stepping.{Takes, IsWhole, IsLast}
use Rattle.m2v_dec_piece.proofs.Stands.{by_first, whole_stood, last_stood, stops_why}
use Rattle.m2v_dec_piece.proofs.cutter.turn.Goals as goal

pub returns-in-Err-clause-err : goal.returns-in-Err-clause-err
returns-in-Err-clause-err c rest =
    let h = c.args.hand.now in
    let chunk = c.args.chunk.now in
    subst (λ (t : List ℕ). PieceStops (start_behind h t) (pieces_behind h t) c.in-Err.e) (by_first chunk rest c.first-b.result c.requires.some c.first-b.ensures) (c.in-Err.ensures.err (drop 1 chunk ++ rest))

pub returns-in-Err-clause-kind : goal.returns-in-Err-clause-kind
returns-in-Err-clause-kind c = (stops_why _ _ c.in-Err.e (c.in-Err.ensures.err [])).1

pub returns-in-Ok-Whole-clause-ok : goal.returns-in-Ok-Whole-clause-ok
returns-in-Ok-Whole-clause-ok c =
    let h = c.args.hand.now in
    let w : IsWhole h c.first-b.result c.take.new.hand = subst (λ (b : Byte). Takes b h c.first-b.result c.take.new.hand) c.in-Ok-Whole.field-0-is c.in-Ok-Whole.ensures.ok in (
      subst Fits (sym w.same) c.requires.fits,
      λ rest.
          let e = by_first c.args.chunk.now rest c.first-b.result c.requires.some c.first-b.ensures in
          let s = whole_stood h c.take.new.hand c.first-b.result (drop 1 c.args.chunk.now ++ rest) w in
          rw (← e) (s.0, s.1, ap (λ (x : Held). x.ahead) w.same ∙ w.ahead, s.2),
      subst (λ (x : Held). 1 ≤ length x.sure) (sym w.same) (c.ahead-held.ensures.picture w.phase),
      omega (arith, ap (λ (x : Held). x.place) w.same),
      ap (λ (x : Held). taken_by x + length c.args.chunk.now) w.same,
    )

pub returns-in-Ok-Last-clause-ok : goal.returns-in-Ok-Last-clause-ok
returns-in-Ok-Last-clause-ok c =
    let h = c.args.hand.now in
    let l : IsLast h c.first-b.result c.take.new.hand = subst (λ (b : Byte). Takes b h c.first-b.result c.take.new.hand) c.in-Ok-Last.field-0-is c.in-Ok-Last.ensures.ok in (
      l.ends.fits,
      λ rest.
          let e = by_first c.args.chunk.now rest c.first-b.result c.requires.some c.first-b.ensures in
          let s = last_stood h c.take.new.hand c.first-b.result (drop 1 c.args.chunk.now ++ rest) l in
          rw (← e) (s.0, s.1, s.2 ∙ ap (λ (x : List ℕ). x ++ rest) (sym c.skip.ensures), l.ends.ahead),
      l.ends.some,
      omega (arith, l.ends.place),
      omega (arith, l.ends.more, ap length c.skip.ensures, length-drop 1 c.args.chunk.now, c.requires.some),
    )
