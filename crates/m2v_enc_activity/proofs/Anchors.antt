-- The anchors before a picture, the last of them first.
use Rattle.std.proofs.Common.{◌≡◌, ℕ, suc, ◌-◌, ◌<◌, List, [], ◌∷◌, ◌++◌, Bool, true, false, not, ◌&&◌, nat_eq, cond, arith, refl, ap, sym, subst}
use Rattle.m2v_order.specs.declared.jobs.PictureJob.{PictureJob}
use Rattle.m2v_enc_activity.specs.Activity.{anchors_before, job_in}

-- whether the picture before place n is an anchor of a structure
abbrev pub is_one : List PictureJob → ℕ → ℕ → Bool
is_one pictures structure p = not (nat_eq (job_in pictures p).kind 3) && nat_eq (job_in pictures p).structure structure

step : (pictures : List PictureJob) (structure p : ℕ) (b : Bool) → is_one pictures structure p ≡ b
    → anchors_before pictures structure (suc p) ≡ cond b (p ∷ []) [] ++ anchors_before pictures structure p
unfolding anchors_before
step pictures structure p b e = ap (λ (t : Bool). cond t (p ∷ []) [] ++ anchors_before pictures structure p) e

at_step : (pictures : List PictureJob) (structure n : ℕ) (b : Bool) → 0 < n → is_one pictures structure (n - 1) ≡ b
    → anchors_before pictures structure n ≡ cond b ((n - 1) ∷ []) [] ++ anchors_before pictures structure (n - 1)
at_step pictures structure n b some e =
    let whole : suc (n - 1) ≡ n = omega arith in
    subst (λ (k : ℕ). anchors_before pictures structure k ≡ cond b ((n - 1) ∷ []) [] ++ anchors_before pictures structure (n - 1)) whole
    (step pictures structure (n - 1) b e)

pub anchor_there : (pictures : List PictureJob) (structure n : ℕ) → 0 < n → is_one pictures structure (n - 1) ≡ true
    → anchors_before pictures structure n ≡ (n - 1) ∷ anchors_before pictures structure (n - 1)
anchor_there pictures structure n some e = at_step pictures structure n true some e

pub anchor_passed : (pictures : List PictureJob) (structure n : ℕ) → 0 < n → is_one pictures structure (n - 1) ≡ false
    → anchors_before pictures structure n ≡ anchors_before pictures structure (n - 1)
anchor_passed pictures structure n some e = at_step pictures structure n false some e

pub none_first : (pictures : List PictureJob) (structure n : ℕ) → n ≡ 0 → anchors_before pictures structure n ≡ []
unfolding anchors_before
none_first pictures structure n e = subst (λ (k : ℕ). anchors_before pictures structure k ≡ []) (sym e) refl
