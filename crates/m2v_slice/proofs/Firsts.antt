-- The first picture of a group.
use Rattle.std.proofs.Common.{◌≡◌, ℕ, ◌<◌, true, false, not, ◌&&◌, List, [], ◌∷◌, length, get_or, refl, ap, ◌∙◌, arith}
use Rattle.std.specs.Prelude.{nat_eq}
use Rattle.std.specs.List.{flat_map}
use Rattle.std.proofs.lemmas.Bool.{cond-true}
use Rattle.m2v_set.specs.declared.settings.Scan.{Scan}
use Rattle.m2v_set.specs.declared.settings.Scan.TheVariants.{Progressive, Frames, Fields}
use Rattle.m2v_order.specs.declared.jobs.PictureJob.{PictureJob}
use Rattle.m2v_order.specs.Coding.{structures}
use Rattle.m2v_order.specs.Calls.{IsFromIntra}
use Rattle.m2v_order.specs.Whole.{fields_of}
use Rattle.m2v_slice.specs.Headers.{begins_group, bits_to_code, header_bits}
use Rattle.m2v_slice.specs.Books.{Book, no_job, job_at}
use Rattle.m2v_slice.specs.Conditions.{IsBook}
use Rattle.m2v_slice.proofs.Groups.{from_intra}

head_structure : (scan : Scan) (heads : List PictureJob) → 0 < length heads → nat_eq (get_or (flat_map (fields_of scan) heads) 0 no_job).structure 2 ≡ false
unfolding structures
head_structure scan [] some = absurd (omega (arith, some))
head_structure Progressive (h ∷ more) some = refl
head_structure Frames (h ∷ more) some = refl
head_structure Fields (h ∷ more) some = refl

head_kind : (jobs : List PictureJob) → IsFromIntra jobs → (get_or jobs 0 no_job).kind ≡ 1
head_kind [] is = absurd is
head_kind (job ∷ more) is = is.0

begins_by : (job : PictureJob) → job.kind ≡ 1 → nat_eq job.structure 2 ≡ false → begins_group job ≡ true
unfolding begins_group
begins_by job kind structure = ap (λ (n : ℕ). nat_eq n 1 && not (nat_eq job.structure 2)) kind ∙ ap not structure

pub first_kind : (b : Book) → IsBook b → (job_at b 0).kind ≡ 1
first_kind b h = head_kind b.pictures (from_intra b h)

-- a group begins with the headers of a group
pub first_begins : (b : Book) → IsBook b → begins_group (job_at b 0) ≡ true
first_begins b h =
    begins_by (job_at b 0) (first_kind b h)
    (ap (λ (xs : List PictureJob). nat_eq (get_or xs 0 no_job).structure 2) h.group.fields
    ∙ head_structure b.settings.scan h.group.heads (omega (arith, h.group.each, h.group.frame)))

code_by : (job : PictureJob) → begins_group job ≡ true → (bits_to_code job ≡ 272) × (header_bits job ≡ 376)
unfolding bits_to_code header_bits
code_by job e = (cond-true (begins_group job) _ _ e, cond-true (begins_group job) _ _ e)

pub first_code : (b : Book) → IsBook b → (bits_to_code (job_at b 0) ≡ 272) × (header_bits (job_at b 0) ≡ 376)
first_code b h = code_by (job_at b 0) (first_begins b h)
