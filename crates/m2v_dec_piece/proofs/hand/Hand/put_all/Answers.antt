use Rattle.std.proofs.Common.{◌≡◌, ◌+◌, ◌∷◌, ◌++◌, [], take, drop, get_or, sym, ap, subst, ◌∙◌, arith, List, ℕ, Option}
use Rattle.std.proofs.lemmas.List.{take_more, take-append-drop}
use Rattle.std.proofs.lemmas.Result.{err_from_is_err_and}
use Rattle.m2v_model.specs.Pieces.{Limit}
use Rattle.m2v_dec_piece.specs.Cutting.{Held, behind, limit_of, LimitErr}
use Rattle.m2v_dec_piece.proofs.LimitLaws.{behind_none, limit_of_none, behind_more, limit_of_more, err_stays}
use Rattle.m2v_dec_piece.proofs.hand.Hand.put_all.Goals as goal

pub loop-b-init : goal.loop-b-init
loop-b-init c = (behind_none c.args.self.now, limit_of_none c.args.self.now (rw (← c.self.view_is) (omega (arith, c.self.invariant.1))))

pub returns-in_err-put-clause-err : goal.returns-in_err-put-clause-err
returns-in_err-put-clause-err c =
    let p = err_from_is_err_and c.from_residual.result c.from_residual.ensures.1 in
    let bytes = c.args.bytes.now in
    let before = c.args.self.now in
    let b : List ℕ = get_or bytes c.loop-b.b-index 0 ∷ [] in
    let front = take c.loop-b.b-index bytes in
    let more = take_more bytes c.loop-b.b-index 0 (omega arith) in
    let whole : (front ++ b) ++ drop (c.loop-b.b-index + 1) bytes ≡ bytes = ap (λ (x : List ℕ). x ++ drop (c.loop-b.b-index + 1) bytes) (sym more) ∙ take-append-drop (c.loop-b.b-index + 1) bytes in
    let now = ap (λ (h : Held). limit_of h b) c.loop-b.invariant.0 ∙ sym (limit_of_more before front b c.loop-b.invariant.1) in
    rw (p.1, p.2)
    (subst (λ (x : List ℕ). LimitErr (limit_of before x) c.in_err-put.field-0.0) whole
    (err_stays before (front ++ b) (drop (c.loop-b.b-index + 1) bytes) c.in_err-put.field-0.0
    (subst (λ (o : Option Limit). LimitErr o c.in_err-put.field-0.0) now c.in_err-put.ensures.err)))

pub loop-b-preserved : goal.loop-b-preserved
loop-b-preserved c =
    let bytes = c.args.bytes.now in
    let before = c.args.self.now in
    let b : List ℕ = get_or bytes c.loop-b.b-index 0 ∷ [] in
    let front = take c.loop-b.b-index bytes in
    let more = take_more bytes c.loop-b.b-index 0 (omega arith) in
    let h = c.in_ok-put.ensures in (
      h.ok ∙ ap (λ (x : Held). behind x b) c.loop-b.invariant.0 ∙ behind_more before front b ∙ ap (behind before) (sym more),
      ap (limit_of before) more ∙ limit_of_more before front b c.loop-b.invariant.1 ∙ ap (λ (x : Held). limit_of x b) (sym c.loop-b.invariant.0) ∙ h.fits,
    )
