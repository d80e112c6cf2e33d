-- The first of least score among candidates.
use Rattle.std.proofs.Common.{◌≡◌, ◌≤◌, Bool, true, false, All, ◌∷◌, filter, refl, subst}
use Rattle.std.specs.Prelude.{nat_le, if◌then◌else◌}
use Rattle.std.proofs.lemmas.Bool.{and_parts, le-leb, leb-true}
use Rattle.std.proofs.lemmas.List.Elements.{All-tail, filter_passes}
use Rattle.m2v_search.specs.Least.{IsFirstLeast}
use Rattle.m2v_search.proofs.Least.{first_least, none_less}
use Rattle.m2v_search.proofs.Products.{least_in}
use Rattle.m2v_choose.specs.Decisions.{Decision, Candidate}
use Rattle.m2v_choose.specs.Candidates.{hold, others}
use Rattle.m2v_choose.specs.Choice.{bits_taken, most_bits, score, fits, candidates, choice_of}
use Rattle.m2v_choose.specs.Laws.{IsFirstOfLeast, Fits}

-- ---- one of two

pub either : {A : Type 0} (P : A → Type 0) (b : Bool) (x y : A) → P x → P y → P (if b then x else y)
either P true x y p q = p
either P false x y p q = q

-- ---- the first of least score

chosen_all : (d : Decision) → IsFirstLeast (score d) (hold d ∷ filter (fits d) (others d)) (choice_of d)
unfolding choice_of
chosen_all d = first_least (score d) (hold d) (filter (fits d) (others d))

chosen_fitting : (d : Decision) → fits d (hold d) ≡ true → IsFirstLeast (score d) (filter (fits d) (candidates d)) (choice_of d)
chosen_fitting d e = rw e (chosen_all d)

chosen_held : (d : Decision) → choice_of d ≡ hold d → All (λ x. score d (hold d) ≤ score d x) (filter (fits d) (others d))
chosen_held d e =
    let none = none_less (score d) (hold d ∷ filter (fits d) (others d)) (choice_of d) (chosen_all d) in
    subst (λ (y : Candidate). All (λ x. score d y ≤ score d x) (filter (fits d) (others d))) e
    (All-tail (λ x. score d (choice_of d) ≤ score d x) (hold d) (filter (fits d) (others d)) none)

pub first_of_least : (d : Decision) → IsFirstOfLeast d
first_of_least d = record { all = chosen_all d; fitting = chosen_fitting d; held = chosen_held d }

-- ---- the choice fits

fits_if : (d : Decision) (x : Candidate) → Fits d x → fits d x ≡ true
unfolding fits
fits_if d x h = rw (le-leb (bits_taken d x) most_bits h.most, le-leb (bits_taken d x) d.limits.room h.room) refl

fits_only_if : (d : Decision) (x : Candidate) → fits d x ≡ true → Fits d x
unfolding fits
fits_only_if d x e =
    let h = and_parts (nat_le (bits_taken d x) most_bits) (nat_le (bits_taken d x) d.limits.room) e in
    record { most = leb-true (bits_taken d x) most_bits h.0; room = leb-true (bits_taken d x) d.limits.room h.1 }

pub choice_fits : (d : Decision) → Fits d (hold d) → Fits d (choice_of d)
unfolding choice_of
choice_fits d h =
    fits_only_if d (choice_of d)
    (least_in (λ x. fits d x ≡ true) (score d) (hold d) (filter (fits d) (others d)) (fits_if d (hold d) h) (filter_passes (fits d) (others d)))
