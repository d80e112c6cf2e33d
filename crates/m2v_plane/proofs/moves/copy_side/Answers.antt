use Rattle.std.proofs.Common.{◌≡◌, ℕ, List, [], ◌∷◌, length, refl, ap, ◌∙◌, arith, inl, inr}
use Rattle.std.proofs.lemmas.List.{take_all}
use lib.Lanes.{put_chunk}
use Rattle.m2v_plane.proofs.moves.copy_side.Goals as goal

-- as many elements written over all
put_all : (out ys : List ℕ) → length ys ≡ length out → put_chunk 0 out ys ≡ ys
put_all [] [] e = refl
put_all [] (y ∷ ys) e = absurd (omega arith)
put_all (x ∷ xs) [] e = absurd (omega arith)
put_all (x ∷ xs) (y ∷ ys) e = ap (λ zs. y ∷ zs) (put_all xs ys (omega arith))

pub returns-then-line-eq16 : goal.returns-then-line-eq16
returns-then-line-eq16 c =
    let line = c.args.line.now in
    record { value = ap (put_chunk 0 c.args.out.now) (take_all 16 line (omega arith)) ∙ put_all c.args.out.now line (omega arith) }

pub returns-else-line-eq16 : goal.returns-else-line-eq16
returns-else-line-eq16 c =
    let line = c.args.line.now in
    let eight : length line ≡ 8 = elim c.requires.side [ inl sixteen ↦ absurd (omega arith) | inr eight ↦ eight ] in
    record { value = ap (put_chunk 0 c.args.out.now) (take_all 8 line (omega arith)) ∙ put_all c.args.out.now line (omega arith) }
