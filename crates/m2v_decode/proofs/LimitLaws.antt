-- A piece that passes a limit behind pieces without a fault is what stops the decoder, and nothing else does.
use Rattle.std.proofs.Common.{◌≡◌, ℕ, ◌+◌, List, [], ◌∷◌, ◌++◌, length, Some, None, Ok, Err, refl, sym, ap, subst, ◌∙◌}
use Rattle.m2v_model.specs.declared.fault.FaultKind.{FaultKind}
use Rattle.m2v_model.specs.Pictures.{Events}
use Rattle.m2v_model.specs.Pieces.{limit, Limit}
use Rattle.m2v_model.specs.ByPieces.{Between, Course, continued, piece_read, pieces_read, end_of}
use Rattle.m2v_model.specs.ByPieces.{behind as put_behind}
use Rattle.m2v_dec_piece.specs.Cutting.{Passes}
use Rattle.m2v_decode.specs.Answers.{AllFit, HasFault}

-- what is read first, and what follows it
record Follows (c : Course) (next : Between → Course) (y : Events × Between) : Type 0 where
  first : Events × Between
  read : c ≡ Ok first
  last : Events × Between
  others : next first.1 ≡ Ok last
  state : y.1 ≡ last.1

record Behind (c : Course) (y : Events × Between) : Type 0 where
  last : Events × Between
  read : c ≡ Ok last
  state : y.1 ≡ last.1

behind_ok : (ps : Events) (c : Course) (y : Events × Between) → put_behind ps c ≡ Ok y → Behind c y
behind_ok ps (Ok x) y e =
    let same : y ≡ (ps ++ x.0, x.1) = cc in
    record { last = x; read = refl; state = ap (λ (p : Events × Between). p.1) same }
behind_ok ps (Err f) y e = absurd cc

follows : (c : Course) (next : Between → Course) (y : Events × Between) → continued c next ≡ Ok y → Follows c next y
unfolding continued
follows (Ok x) next y e =
    let b = behind_ok x.0 (next x.1) y e in
    record { first = x; read = refl; last = b.last; others = b.read; state = b.state }
follows (Err f) next y e = absurd cc

-- no fault comes first
pub over_fault : (first begun others left : List (List ℕ)) (st : Between) (at : ℕ) (y z : Events × Between) (l : Limit) (kind : FaultKind) (place : ℕ)
    → first ++ others ≡ begun ++ left → AllFit at begun → pieces_read st at first ≡ Ok y → pieces_read st at begun ≡ Ok z
    → Passes (end_of at first) l others → HasFault z.1 (end_of at begun) left kind place → ⊥
unfolding end_of pieces_read
over_fault [] [] others left st at y z l kind place same fit r s p f =
    let e : left ≡ p.whole ∷ p.others = sym same ∙ p.are in
    let g : HasFault z.1 at (p.whole ∷ p.others) kind place = subst (λ (ps : List (List ℕ)). HasFault z.1 at ps kind place) e f in
    let none : limit at 0 p.whole ≡ None = g.0 in
    let some : limit at 0 p.whole ≡ Some l = p.decides in
    absurd cc
over_fault [] (q ∷ begun) others left st at y z l kind place same fit r s p f =
    let w : p.whole ≡ q = cc (p.are, same) in
    let none : limit at 0 q ≡ None = fit.0 in
    let some : limit at 0 p.whole ≡ Some l = p.decides in
    absurd cc
over_fault (q ∷ first) [] others left st at y z l kind place same fit r s p f =
    let g : HasFault z.1 at (q ∷ (first ++ others)) kind place = subst (λ (ps : List (List ℕ)). HasFault z.1 at ps kind place) (sym same) f in
    let broken : piece_read z.1 (at + length q) q ≡ Err (kind, place) = g.1 in
    let here : z ≡ ([], st) = cc in
    let state : z.1 ≡ st = ap (λ (p : Events × Between). p.1) here in
    let h = follows (piece_read st (at + length q) q) (λ next. pieces_read next (at + length q) first) y r in
    let read : piece_read st (at + length q) q ≡ Ok h.first = h.read in
    absurd cc
over_fault (q ∷ first) (p ∷ begun) others left st at y z l kind place same fit r s o f =
    let head : p ≡ q = cc in
    let tails : first ++ others ≡ begun ++ left = cc in
    let fits : AllFit (at + length q) begun = subst (λ (b : List ℕ). AllFit (at + length b) begun) head fit.1 in
    let s-at : pieces_read st at (q ∷ begun) ≡ Ok z = subst (λ (b : List ℕ). pieces_read st at (b ∷ begun) ≡ Ok z) head s in
    let h = follows (piece_read st (at + length q) q) (λ next. pieces_read next (at + length q) first) y r in
    let k = follows (piece_read st (at + length q) q) (λ next. pieces_read next (at + length q) begun) z s-at in
    let h-read : piece_read st (at + length q) q ≡ Ok h.first = h.read in
    let k-read : piece_read st (at + length q) q ≡ Ok k.first = k.read in
    let one : k.first ≡ h.first = cc in
    let more : pieces_read (h.first).1 (at + length q) begun ≡ Ok k.last = subst (λ (x : Events × Between). pieces_read x.1 (at + length q) begun ≡ Ok k.last) one k.others in
    let there : HasFault z.1 (end_of (at + length q) begun) left kind place = subst (λ (b : List ℕ). HasFault z.1 (end_of (at + length b) begun) left kind place) head f in
    let g : HasFault (k.last).1 (end_of (at + length q) begun) left kind place = subst (λ (n : Between). HasFault n (end_of (at + length q) begun) left kind place) k.state there in
    over_fault first begun others left (h.first).1 (at + length q) h.last k.last l kind place tails fits h.others more o g

-- no other limit comes first
pub over_over : (first begun others left : List (List ℕ)) (at : ℕ) (l m : Limit)
    → first ++ others ≡ begun ++ left → AllFit at first → AllFit at begun → Passes (end_of at first) l others → Passes (end_of at begun) m left → l ≡ m
unfolding end_of
over_over [] [] others left at l m same fit fits p q =
    let w : p.whole ≡ q.whole = cc (p.are, q.are, same) in
    let a : limit at 0 p.whole ≡ Some l = p.decides in
    let b : limit at 0 q.whole ≡ Some m = q.decides in
    cc
over_over [] (x ∷ begun) others left at l m same fit fits p q =
    let w : p.whole ≡ x = cc (p.are, same) in
    let none : limit at 0 x ≡ None = fits.0 in
    let some : limit at 0 p.whole ≡ Some l = p.decides in
    absurd cc
over_over (x ∷ first) [] others left at l m same fit fits p q =
    let w : q.whole ≡ x = cc (q.are, same) in
    let none : limit at 0 x ≡ None = fit.0 in
    let some : limit at 0 q.whole ≡ Some m = q.decides in
    absurd cc
over_over (x ∷ first) (y ∷ begun) others left at l m same fit fits p q =
    let head : y ≡ x = cc in
    let tails : first ++ others ≡ begun ++ left = cc in
    let fits-at : AllFit (at + length x) begun = subst (λ (b : List ℕ). AllFit (at + length b) begun) head fits.1 in
    let q-at : Passes (end_of (at + length x) begun) m left = subst (λ (b : List ℕ). Passes (end_of (at + length b) begun) m left) head q in
    over_over first begun others left (at + length x) l m tails fit.1 fits-at p q-at
