-- Which pieces are read, and the first limit that one of them passes.
use Rattle.std.proofs.Common.{◌≡◌, ◌⊎◌, ℕ, zero, suc, ◌+◌, ◌-◌, ◌*◌, ◌<◌, ◌≤◌, Bool, true, false, List, [], ◌∷◌, ◌++◌, length, take, drop, Option, Some, None, inl, inr, refl, sym, ap, subst, ◌∙◌, append_assoc, arith}
use Rattle.std.specs.Prelude.{nat_eq, nat_le, nat_lt, not, ◌&&◌, ◌||◌, if◌then◌else◌}
use Rattle.std.proofs.lemmas.Bool.{cases_Bool, cases_lt}
use Rattle.std.proofs.lemmas.List.{append-nil, length-append}
use Rattle.m2v_model.specs.Pieces.{limit, Limit, too_long, too_large, most_input}
use Rattle.m2v_model.specs.ByPieces.{end_of}
use Rattle.m2v_decode.specs.Answers.{AllFit}
use Rattle.m2v_law_group.specs.Groups.{from_group}
use Rattle.m2v_cut.specs.Answers.{units_of, groups_of, to_group, to_frame, first_if, is_field, first_picture, limit_among, fitting, of_pieces}
use Rattle.m2v_cut.specs.Progress.{all_groups}

pub lt_true : (a b : ℕ) → a < b → nat_lt a b ≡ true
lt_true a b le = elim (cases_Bool (nat_lt a b)) [
  | inl on ↦ on
  | inr off ↦ grind (arith, le, off)
]

pub lt_false : (a b : ℕ) → b ≤ a → nat_lt a b ≡ false
lt_false a b le = elim (cases_Bool (nat_lt a b)) [
  | inl on ↦ grind (arith, le, on)
  | inr off ↦ off
]

-- ---- the pieces up to a group

-- what passes each piece with no more groups than are left passes such pieces
passed_on : (f : ℕ → List (List ℕ) → List (List ℕ)) → ((n : ℕ) (p : List ℕ) (ps : List (List ℕ)) → groups_of p ≤ n → f n (p ∷ ps) ≡ p ∷ f (n - groups_of p) ps)
    → (ps qs : List (List ℕ)) (n : ℕ) → all_groups ps ≤ n → f n (ps ++ qs) ≡ ps ++ f (n - all_groups ps) qs
passed_on f passes [] qs n le = ap (λ (k : ℕ). f k qs) (omega arith)
passed_on f passes (p ∷ ps) qs n le =
    let e : (n - groups_of p) - all_groups ps ≡ n - (groups_of p + all_groups ps) = omega arith in
    passes n p (ps ++ qs) (omega (arith, le))
    ∙ ap (λ (l : List (List ℕ)). p ∷ l) (passed_on f passes ps qs (n - groups_of p) (omega (arith, le)) ∙ ap (λ (k : ℕ). ps ++ f k qs) e)

pub to_group_on : (ps qs : List (List ℕ)) (n : ℕ) → all_groups ps ≤ n → to_group n (ps ++ qs) ≡ ps ++ to_group (n - all_groups ps) qs
unfolding to_group
to_group_on ps qs n le = passed_on to_group (λ m p rest few. rw (lt_false m (groups_of p) few) refl) ps qs n le

pub to_group_all : (ps : List (List ℕ)) (n : ℕ) → all_groups ps ≤ n → to_group n ps ≡ ps
unfolding to_group
to_group_all ps n le = ap (to_group n) (sym (append-nil ps)) ∙ to_group_on ps [] n le ∙ append-nil ps

pub to_group_stop : (ps : List (List ℕ)) (q : List ℕ) (qs : List (List ℕ)) (n : ℕ) → all_groups ps ≤ n → n < all_groups ps + groups_of q → to_group n (ps ++ q ∷ qs) ≡ ps ++ q ∷ []
unfolding to_group
to_group_stop ps q qs n le more =
    to_group_on ps (q ∷ qs) n le ∙ rw (lt_true (n - all_groups ps) (groups_of q) (omega (arith, le, more))) refl

pub to_frame_on : (ps qs : List (List ℕ)) (n : ℕ) → all_groups ps ≤ n → to_frame n (ps ++ qs) ≡ ps ++ to_frame (n - all_groups ps) qs
unfolding to_frame
to_frame_on ps qs n le = passed_on to_frame (λ m p rest few. rw (lt_false m (groups_of p) few) refl) ps qs n le

pub to_frame_here : (ps : List (List ℕ)) (w : List ℕ) (later : List (List ℕ)) (from n : ℕ) (field : Bool) → all_groups ps ≤ from → n ≡ from - all_groups ps → n < groups_of w → is_field (first_picture (drop 1 (from_group n (units_of w)))) ≡ field
    → to_frame from (ps ++ w ∷ later) ≡ ps ++ w ∷ first_if field later
unfolding to_frame
to_frame_here ps w later from n field le is here e =
    to_frame_on ps (w ∷ later) from le
    ∙ ap (λ (k : ℕ). ps ++ to_frame k (w ∷ later)) (sym is)
    ∙ rw (lt_true n (groups_of w) here, e) refl

-- ---- limits

pub among_fit : (ps : List (List ℕ)) (at : ℕ) → AllFit at ps → limit_among at ps ≡ None
unfolding limit_among
among_fit [] at fit = refl
among_fit (p ∷ ps) at fit = rw fit.0 (among_fit ps (at + length p) fit.1)

pub among_over : (ps : List (List ℕ)) (at : ℕ) (q : List ℕ) (qs : List (List ℕ)) (l : Limit) → AllFit at ps → limit (end_of at ps) 0 q ≡ Some l → limit_among at (ps ++ q ∷ qs) ≡ Some l
unfolding limit_among end_of
among_over [] at q qs l fit over = rw over refl
among_over (p ∷ ps) at q qs l fit over = rw fit.0 (among_over ps (at + length p) q qs l fit.1 over)

pub fitting_over : (ps : List (List ℕ)) (at : ℕ) (q : List ℕ) (qs : List (List ℕ)) (l : Limit) → AllFit at ps → limit (end_of at ps) 0 q ≡ Some l → fitting at (ps ++ q ∷ qs) ≡ ps
unfolding fitting end_of
fitting_over [] at q qs l fit over = rw over refl
fitting_over (p ∷ ps) at q qs l fit over = rw fit.0 (ap (λ (t : List (List ℕ)). p ∷ t) (fitting_over ps (at + length p) q qs l fit.1 over))

pub length_on : (ps : List (List ℕ)) (at : ℕ) → end_of at ps ≡ at + length (of_pieces ps)
unfolding end_of
length_on [] at = omega arith
length_on (p ∷ ps) at = omega (arith, length_on ps (at + length p), length-append p (of_pieces ps))

-- a piece that some bytes begin passes the input's limit behind it
pub late_passes : (place : ℕ) (b : ℕ) (bs : List ℕ) → most_input ≤ place → limit place 0 (b ∷ bs) ≡ Some too_long
unfolding limit
late_passes place b bs le = elim (cases_Bool (nat_le most_input (place + 0))) [
  | inl on ↦ rw on refl
  | inr off ↦ grind (arith, le, off)
]
