-- The pictures that references stand in, one picture after another.
use Rattle.std.proofs.Common.{◌≡◌, ℕ, zero, suc, ◌+◌, Bool, true, false, cond, not, List, [], ◌∷◌, ◌++◌, Some, None, refl, ap, ◌∙◌, arith}
use Rattle.std.specs.Prelude.{nat_eq, ◌&&◌}
use Rattle.std.proofs.lemmas.Bool.{cond-true, cond-false}
use Rattle.m2v_plane.specs.declared.planes.Lines.{Lines}
use Rattle.m2v_slice.specs.Books.{Book, job_at, has_lines, anchors_before, nth}

-- picture q is an anchor that has these lines
abbrev pub is_anchor_with : Book → Lines → ℕ → Bool
is_anchor_with b lines q = not (nat_eq (job_at b q).kind 3) && has_lines (job_at b q).structure lines

anchors_more : (b : Book) (lines : Lines) (q : ℕ)
    → anchors_before b lines (suc q) ≡ cond (is_anchor_with b lines q) (q ∷ []) [] ++ anchors_before b lines q
unfolding anchors_before
anchors_more b lines q = refl

pub anchor_skipped : (b : Book) (lines : Lines) (q : ℕ) → is_anchor_with b lines q ≡ false
    → anchors_before b lines (suc q) ≡ anchors_before b lines q
anchor_skipped b lines q e =
    anchors_more b lines q ∙ ap (λ (xs : List ℕ). xs ++ anchors_before b lines q) (cond-false (is_anchor_with b lines q) (q ∷ []) [] e)

pub anchor_met : (b : Book) (lines : Lines) (q : ℕ) → is_anchor_with b lines q ≡ true
    → anchors_before b lines (suc q) ≡ q ∷ anchors_before b lines q
anchor_met b lines q e =
    anchors_more b lines q ∙ ap (λ (xs : List ℕ). xs ++ anchors_before b lines q) (cond-true (is_anchor_with b lines q) (q ∷ []) [] e)

pub no_anchor : (b : Book) (lines : Lines) → anchors_before b lines zero ≡ []
unfolding anchors_before
no_anchor b lines = refl

pub nth_none : {A : Type 0} (n : ℕ) → nth {A = A} n [] ≡ None
unfolding nth
nth_none n = refl

pub nth_first : {A : Type 0} (x : A) (xs : List A) → nth 0 (x ∷ xs) ≡ Some x
unfolding nth
nth_first x xs = refl

pub nth_next : {A : Type 0} (n : ℕ) (x : A) (xs : List A) → nth (suc n) (x ∷ xs) ≡ nth n xs
unfolding nth
nth_next n x xs = refl

-- ---- looking for number n from picture p down

pub looked_past : (b : Book) (lines : Lines) (p q n : ℕ) → p ≡ q + 1 → is_anchor_with b lines q ≡ false
    → nth n (anchors_before b lines p) ≡ nth n (anchors_before b lines q)
looked_past b lines p q n e is =
    let s : p ≡ suc q = omega arith in
    ap (λ i. nth n (anchors_before b lines i)) s ∙ ap (nth n) (anchor_skipped b lines q is)

pub looked_at : (b : Book) (lines : Lines) (p q n m : ℕ) → p ≡ q + 1 → n ≡ m + 1 → is_anchor_with b lines q ≡ true
    → nth n (anchors_before b lines p) ≡ nth m (anchors_before b lines q)
looked_at b lines p q n m e f is =
    let s : p ≡ suc q = omega arith in
    let t : n ≡ suc m = omega arith in
    ap (λ i. nth n (anchors_before b lines i)) s ∙ ap (nth n) (anchor_met b lines q is)
    ∙ ap (λ k. nth k (q ∷ anchors_before b lines q)) t ∙ nth_next m q (anchors_before b lines q)

pub found_at : (b : Book) (lines : Lines) (p q n : ℕ) → p ≡ q + 1 → n ≡ 0 → is_anchor_with b lines q ≡ true
    → nth n (anchors_before b lines p) ≡ Some q
found_at b lines p q n e f is =
    let s : p ≡ suc q = omega arith in
    ap (λ i. nth n (anchors_before b lines i)) s ∙ ap (nth n) (anchor_met b lines q is)
    ∙ ap (λ k. nth k (q ∷ anchors_before b lines q)) f ∙ nth_first q (anchors_before b lines q)

pub found_none : (b : Book) (lines : Lines) (p n : ℕ) → p ≡ 0 → nth n (anchors_before b lines p) ≡ None
found_none b lines p n e = ap (λ i. nth n (anchors_before b lines i)) e ∙ ap (nth n) (no_anchor b lines) ∙ nth_none n
