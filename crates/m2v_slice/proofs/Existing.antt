-- Each reference that a P or a B picture reads exists: it stands in a picture of the group, or in the anchor before it.
use Rattle.std.proofs.Common.{◌≡◌, ℕ, zero, suc, ◌+◌, ◌<◌, ◌≤◌, ◌⊎◌, Bool, true, false, cond, not, List, [], ◌∷◌, ◌++◌, length, take, drop, get_or, Option, Some, None, refl, sym, ap, subst, ◌∙◌, arith, inl, inr, drop-cons}
use Rattle.std.specs.Prelude.{nat_eq, ◌&&◌, ◌==◌, IsSome, is_some}
use Rattle.std.specs.List.{flat_map}
use Rattle.std.proofs.lemmas.Bool.{cases_Bool, cases_eq, cond-true, cond-false}
use Rattle.std.proofs.lemmas.List.{take_more, take-append-drop}
use Rattle.std.proofs.lemmas.List.Sums.{sum_by-append}
use Rattle.m2v_plane.specs.declared.planes.Lines.{Lines}
use Rattle.m2v_plane.specs.declared.planes.Lines.TheVariants.{Whole, Top, Bottom}
use Rattle.m2v_plane.specs.Samples.{Samples}
use Rattle.m2v_set.specs.declared.settings.Scan.{Scan}
use Rattle.m2v_set.specs.declared.settings.Scan.TheVariants.{Progressive, Frames, Fields}
use Rattle.m2v_order.specs.declared.jobs.PictureJob.{PictureJob}
use Rattle.m2v_order.specs.Whole.{fields_of, anchors_without, FollowsTwo}
use Rattle.m2v_order.proofs.Wholes.{pair_at}
use Rattle.m2v_slice.specs.Books.{Book, no_job, job_at, has_lines, anchors_before, nth, reference_picture}
use Rattle.m2v_slice.specs.Conditions.{IsBook}
use Rattle.m2v_slice.proofs.References.{is_anchor_with, anchor_skipped, anchor_met, nth_first, nth_next}
use Rattle.m2v_slice.proofs.Groups.{HasStructure, picture_is_one}
use Rattle.m2v_slice.proofs.Firsts.{first_kind}

-- ---- long enough lists

pub nth_there : (n : ℕ) (xs : List ℕ) → n < length xs → nth n xs ≡ None → ⊥
nth_there n [] lt e = omega arith
nth_there zero (x ∷ xs) lt e = let f = sym (nth_first x xs) ∙ e in cc
nth_there (suc n) (x ∷ xs) lt e = nth_there n xs (omega arith) (sym (nth_next n x xs) ∙ e)

-- ---- one anchor

anchors_step : (b : Book) (lines : Lines) (p : ℕ) → length (anchors_before b lines p) ≤ length (anchors_before b lines (suc p))
anchors_step b lines p = elim (cases_Bool (is_anchor_with b lines p)) [
  | inl e ↦ omega (arith, ap (λ (xs : List ℕ). length xs) (anchor_met b lines p e))
  | inr e ↦ omega (arith, ap (λ (xs : List ℕ). length xs) (anchor_skipped b lines p e))
]

one_anchor : (b : Book) (lines : Lines) (p k : ℕ) → k < p → is_anchor_with b lines k ≡ true → 0 < length (anchors_before b lines p)
one_anchor b lines zero k lt is = absurd (omega arith)
one_anchor b lines (suc p) k lt is = elim (cases_eq k p) [
  | inl e ↦
      let here : is_anchor_with b lines p ≡ true = subst (λ (i : ℕ). is_anchor_with b lines i ≡ true) e is in
      omega (arith, ap (λ (xs : List ℕ). length xs) (anchor_met b lines p here))
  | inr n ↦ omega (arith, one_anchor b lines p k (omega arith) is, anchors_step b lines p)
]

-- ---- as many anchors as the group's rule says

pub without : Lines → ℕ
without Whole = 2
without Top = 2
without Bottom = 1

lines_many : (kind structure : ℕ) (lines : Lines) → cond {A = ℕ} (not (kind == 3) && not (structure == without lines)) 1 0
    ≤ cond {A = ℕ} (not (nat_eq kind 3) && has_lines structure lines) 1 0
unfolding has_lines without
lines_many kind structure Whole = whole (not (kind == 3)) (not (structure == 2))
  where
    whole : (a b : Bool) → cond {A = ℕ} (a && b) 1 0 ≤ cond {A = ℕ} (a && true) 1 0
    whole true true = omega arith
    whole true false = omega arith
    whole false b = omega arith
lines_many kind structure Top = omega arith
lines_many kind structure Bottom = omega arith

anchors_length : (b : Book) (lines : Lines) (p : ℕ)
    → length (anchors_before b lines (suc p)) ≡ cond {A = ℕ} (is_anchor_with b lines p) 1 0 + length (anchors_before b lines p)
anchors_length b lines p = elim (cases_Bool (is_anchor_with b lines p)) [
  | inl e ↦
      let one : cond {A = ℕ} (is_anchor_with b lines p) 1 0 ≡ 1 = cond-true (is_anchor_with b lines p) 1 0 e in
      omega (arith, ap (λ (xs : List ℕ). length xs) (anchor_met b lines p e), one)
  | inr e ↦
      let none : cond {A = ℕ} (is_anchor_with b lines p) 1 0 ≡ 0 = cond-false (is_anchor_with b lines p) 1 0 e in
      omega (arith, ap (λ (xs : List ℕ). length xs) (anchor_skipped b lines p e), none)
]

abbrev one_without : ℕ → PictureJob → ℕ
one_without field j = cond {A = ℕ} (not (j.kind == 3) && not (j.structure == field)) 1 0

without_more : (b : Book) (field p : ℕ) → p < length b.pictures
    → anchors_without field (take (p + 1) b.pictures) ≡ anchors_without field (take p b.pictures) + one_without field (job_at b p)
without_more b field p lt =
    let x = job_at b p in
    let e = ap (anchors_without field) (take_more b.pictures p no_job lt) in
    let f = sum_by-append (one_without field) (take p b.pictures) (x ∷ []) in
    let g : anchors_without field (x ∷ []) ≡ one_without field x = omega arith in
    omega (arith, e, f, g)

anchors_many : (b : Book) (lines : Lines) (p : ℕ) → p ≤ length b.pictures → anchors_without (without lines) (take p b.pictures) ≤ length (anchors_before b lines p)
anchors_many b lines zero le = omega arith
anchors_many b lines (suc p) le =
    let e : p + 1 ≡ suc p = omega arith in
    let f = ap (λ (n : ℕ). anchors_without (without lines) (take n b.pictures)) e in
    let more = without_more b (without lines) p (omega arith) in
    let one = lines_many (job_at b p).kind (job_at b p).structure lines in
    omega (arith, f, more, one, anchors_length b lines p, anchors_many b lines p (omega arith))

two_without : (earlier : List PictureJob) (lines : Lines) → FollowsTwo earlier → 2 ≤ anchors_without (without lines) earlier
unfolding without
two_without earlier Whole h = h.0
two_without earlier Top h = h.0
two_without earlier Bottom h = h.1

picture_split : (b : Book) (p : ℕ) → p < length b.pictures → b.pictures ≡ take p b.pictures ++ job_at b p ∷ drop (suc p) b.pictures
picture_split b p lt =
    sym (take-append-drop p b.pictures) ∙ ap (λ (xs : List PictureJob). take p b.pictures ++ xs) (drop-cons b.pictures p no_job lt)

-- ---- the group of a stream's begin

no_last : (o : Option Samples) (l : Option ℕ) → is_some o ≡ is_some l → o ≡ None → l ≡ None
no_last None None e f = refl
no_last None (Some x) e f = absurd (cc)
no_last (Some x) l e f = absurd (cc)

two_anchors : (b : Book) → IsBook b → b.before ≡ None → (p : ℕ) (lines : Lines) → p < length b.pictures → (job_at b p).kind ≡ 3
    → 2 ≤ length (anchors_before b lines p)
two_anchors b h e p lines lt kind =
    let none = no_last b.before h.last h.before e in
    let two = h.group.following none (take p b.pictures) (job_at b p) (drop (suc p) b.pictures) (picture_split b p lt) kind in
    omega (arith, two_without (take p b.pictures) lines two, anchors_many b lines p (omega arith))

anchor_by : (kind structure : ℕ) (lines : Lines) → kind ≡ 1 → has_lines structure lines ≡ true → (not (nat_eq kind 3) && has_lines structure lines) ≡ true
anchor_by kind structure lines e f = rw (e, f) refl

whole_has : (structure : ℕ) (lines : Lines) → structure ≡ 3 → has_lines structure lines ≡ true
unfolding has_lines
whole_has structure Whole e = refl
whole_has structure Top e = rw e refl
whole_has structure Bottom e = rw e refl

-- a picture of each parity stands at the begin
pub record Begins (b : Book) (lines : Lines) (p : ℕ) : Type 0 where
  pub place : ℕ
  pub before : place < p
  pub is : is_anchor_with b lines place ≡ true

begins_whole : (b : Book) (lines : Lines) (p : ℕ) → (job_at b 0).kind ≡ 1 → (job_at b 0).structure ≡ 3 → ((job_at b p).kind ≡ 1 → ⊥) → Begins b lines p
begins_whole b lines zero kind structure other = absurd (other kind)
begins_whole b lines (suc p) kind structure other = record {
  place = 0;
  before = omega arith;
  is = anchor_by (job_at b 0).kind (job_at b 0).structure lines kind (whole_has (job_at b 0).structure lines structure);
}

-- two field pictures
pub record AreFields (b : Book) : Type 0 where
  pub top : (job_at b 0).structure ≡ 1
  pub bottom : (job_at b 1).structure ≡ 2
  pub kind : (job_at b 1).kind ≡ 1

fields_at : (heads pictures : List PictureJob) → pictures ≡ flat_map (fields_of Fields) heads → 0 < length heads → (get_or pictures 0 no_job).kind ≡ 1
    → ((get_or pictures 0 no_job).structure ≡ 1) × ((get_or pictures 1 no_job).structure ≡ 2) × ((get_or pictures 1 no_job).kind ≡ 1)
fields_at heads pictures e some kind =
    let pair = pair_at heads 0 no_job some in
    let x = ap (λ (xs : List PictureJob). get_or xs 0 no_job) e ∙ pair.0 in
    let y = ap (λ (xs : List PictureJob). get_or xs 1 no_job) e ∙ pair.1 in (
      ap (λ (j : PictureJob). j.structure) x,
      ap (λ (j : PictureJob). j.structure) y,
      ap (λ (j : PictureJob). j.kind) y ∙ sym (ap (λ (j : PictureJob). j.kind) x) ∙ kind,
    )

begins_fields : (b : Book) (lines : Lines) (p : ℕ) → (job_at b 0).kind ≡ 1 → AreFields b → ((job_at b p).kind ≡ 1 → ⊥) → Begins b lines p
unfolding has_lines
begins_fields b lines zero kind f other = absurd (other kind)
begins_fields b lines (suc zero) kind f other = absurd (other f.kind)
begins_fields b Whole (suc (suc p)) kind f other = record {
  place = 0;
  before = omega arith;
  is = anchor_by (job_at b 0).kind (job_at b 0).structure Whole kind refl;
}
begins_fields b Top (suc (suc p)) kind f other = record {
  place = 0;
  before = omega arith;
  is = anchor_by (job_at b 0).kind (job_at b 0).structure Top kind (rw f.top refl);
}
begins_fields b Bottom (suc (suc p)) kind f other = record {
  place = 1;
  before = omega arith;
  is = anchor_by (job_at b 1).kind (job_at b 1).structure Bottom f.kind (rw f.bottom refl);
}

begins : (b : Book) → IsBook b → (lines : Lines) (p : ℕ) → (scan : Scan) → b.settings.scan ≡ scan → ((job_at b p).kind ≡ 1 → ⊥) → Begins b lines p
begins b h lines p Progressive e other =
    let first = picture_is_one b h 0 (omega (arith, h.group.picture)) in
    begins_whole b lines p (first_kind b h) (subst (λ (s : Scan). HasStructure s (job_at b 0).structure) e first.structure) other
begins b h lines p Frames e other =
    let first = picture_is_one b h 0 (omega (arith, h.group.picture)) in
    begins_whole b lines p (first_kind b h) (subst (λ (s : Scan). HasStructure s (job_at b 0).structure) e first.structure) other
begins b h lines p Fields e other =
    let some : 0 < length h.group.heads = omega (arith, h.group.each, h.group.frame) in
    let f = fields_at h.group.heads b.pictures (h.group.fields ∙ ap (λ (s : Scan). flat_map (fields_of s) h.group.heads) e) some (first_kind b h) in
    begins_fields b lines p (first_kind b h) (record { top = f.0; bottom = f.1; kind = f.2 }) other

one_before : (b : Book) → IsBook b → (p : ℕ) (lines : Lines) → ((job_at b p).kind ≡ 1 → ⊥) → 0 < length (anchors_before b lines p)
one_before b h p lines other =
    let s = begins b h lines p b.settings.scan refl other in
    one_anchor b lines p s.place s.before s.is

some_or : (o : Option Samples) → (o ≡ None → ⊥) → IsSome o
some_or None no_one = absurd (no_one refl)
some_or (Some x) no_one = refl

-- a reference that a P picture reads, and both that a B picture reads, stand in the group or before it
pub reference_exists : (b : Book) → IsBook b → (p n : ℕ) (lines : Lines) → p < length b.pictures → ((job_at b p).kind ≡ 1 → ⊥)
    → (n ≡ 0) ⊎ ((n ≡ 1) × ((job_at b p).kind ≡ 3)) → reference_picture b p n lines ≡ None → IsSome b.before
reference_exists b h p n lines lt other (inl e) none =
    absurd (nth_there n (anchors_before b lines p) (omega (arith, e, one_before b h p lines other)) none)
reference_exists b h p n lines lt other (inr e) none =
    some_or b.before (λ f. nth_there n (anchors_before b lines p) (omega (arith, e.0, two_anchors b h f p lines lt e.1)) none)
