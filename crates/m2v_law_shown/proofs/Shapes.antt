-- Frames and fields take turns among the pictures of a group.
use Rattle.std.proofs.Common.{◌≡◌, ℕ, zero, suc, ◌<◌, ◌⊎◌, inl, inr, Bool, true, false, List, [], ◌∷◌, length, get_or, refl, sym, subst, arith}
use Rattle.std.specs.Prelude.{nat_eq}
use Rattle.std.specs.List.{flat_map}
use Rattle.m2v_set.specs.declared.settings.Scan.{Scan}
use Rattle.m2v_set.specs.declared.settings.Scan.TheVariants.{Progressive, Frames, Fields}
use Rattle.m2v_order.specs.declared.jobs.PictureJob.{PictureJob}
use Rattle.m2v_order.specs.Coding.{structures}
use Rattle.m2v_order.specs.Whole.{fields_of}
use Rattle.m2v_slice.specs.Books.{Book, no_job}
use Rattle.m2v_slice.specs.Conditions.{IsBook}
use Rattle.m2v_enc_stream.proofs.Turns.{same_scan}

-- the picture before, or none
abbrev pub previous : List PictureJob → ℕ → PictureJob
previous jobs zero = no_job
previous jobs (suc n) = get_or jobs n no_job

-- a first field waits before a picture
abbrev pub waits : List PictureJob → ℕ → Bool
waits jobs zero = false
waits jobs (suc n) = nat_eq (get_or jobs n no_job).structure 1

-- a second field is of the frame and the type of the field before it
pub record IsSecond (before job : PictureJob) : Type 0 where
  pub structure : job.structure ≡ 2
  pub frame : before.frame ≡ job.frame
  pub kind : before.kind ≡ job.kind

-- a picture is a frame, a first field, or the second field of the one that waits
abbrev pub ShapeBy : Bool → PictureJob → PictureJob → Type 0
ShapeBy waiting before job =
    ((waiting ≡ false) × (job.structure ≡ 3)) ⊎ (((waiting ≡ false) × (job.structure ≡ 1)) ⊎ ((waiting ≡ true) × IsSecond before job))

abbrev pub Shape : List PictureJob → ℕ → Type 0
Shape jobs p = ShapeBy (waits jobs p) (previous jobs p) (get_or jobs p no_job)

-- where none waits, the picture before doesn't matter
any_before : (x y job : PictureJob) → ShapeBy false x job → ShapeBy false y job
any_before x y job (inl a) = inl a
any_before x y job (inr (inl a)) = inr (inl a)
any_before x y job (inr (inr a)) = let e = a.0 in absurd cc

fields_shape : (heads : List PictureJob) (p : ℕ) → p < length (flat_map (fields_of Fields) heads) → Shape (flat_map (fields_of Fields) heads) p
unfolding structures
fields_shape [] p lt = absurd (omega (arith, lt))
fields_shape (h ∷ more) zero lt = inr (inl (refl, refl))
fields_shape (h ∷ more) (suc zero) lt = inr (inr (refl, record { structure = refl; frame = refl; kind = refl }))
fields_shape (h ∷ more) (suc (suc zero)) lt = any_before no_job (record h { structure = 2 }) (get_or (flat_map (fields_of Fields) more) 0 no_job) (fields_shape more zero (omega (arith, lt)))
fields_shape (h ∷ more) (suc (suc (suc p))) lt = fields_shape more (suc p) (omega (arith, lt))

frames_shape : (heads : List PictureJob) (p : ℕ) → p < length (flat_map (fields_of Frames) heads) → Shape (flat_map (fields_of Frames) heads) p
unfolding structures
frames_shape [] p lt = absurd (omega (arith, lt))
frames_shape (h ∷ more) zero lt = inl (refl, refl)
frames_shape (h ∷ more) (suc zero) lt = any_before no_job (record h { structure = 3 }) (get_or (flat_map (fields_of Frames) more) 0 no_job) (frames_shape more zero (omega (arith, lt)))
frames_shape (h ∷ more) (suc (suc p)) lt = frames_shape more (suc p) (omega (arith, lt))

scan_shape : (scan : Scan) (heads : List PictureJob) (p : ℕ) → p < length (flat_map (fields_of scan) heads) → Shape (flat_map (fields_of scan) heads) p
scan_shape Progressive heads p lt = subst (λ (js : List PictureJob). p < length js → Shape js p) (sym (same_scan heads)) (frames_shape heads p) lt
scan_shape Frames heads p lt = frames_shape heads p lt
scan_shape Fields heads p lt = fields_shape heads p lt

pub shape_at : (b : Book) → IsBook b → (p : ℕ) → p < length b.pictures → Shape b.pictures p
shape_at b h p lt = subst (λ (js : List PictureJob). p < length js → Shape js p) (sym h.group.fields) (scan_shape b.settings.scan h.group.heads p) lt
