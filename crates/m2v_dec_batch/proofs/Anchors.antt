-- What stands before a picture: how many jobs, and the last two anchors.
use Rattle.std.proofs.Common.{◌≡◌, ℕ, zero, suc, ◌+◌, ◌*◌, ◌<◌, ◌≤◌, cond, List, ◌∷◌, map, length, get_or, refl, sym, ap, subst, ◌∙◌, inl, inr, arith}
use Rattle.std.specs.Prelude.{slice_set}
use Rattle.std.proofs.lemmas.List.{get_or-map, get_or-set_same, get_or-set_other}
use Rattle.std.proofs.lemmas.Bool.{cases_eq}
use Rattle.m2v_dec_batch.specs.declared.picture.BatchPicture.{BatchPicture}
use Rattle.m2v_dec_batch.specs.declared.picture.Header.{Header}
use Rattle.m2v_dec_batch.specs.declared.picture.FramePlace.TheVariants.{Older, Newer, Behind}
use Rattle.m2v_dec_batch.specs.declared.reads.Before.{Before}
use Rattle.m2v_dec_batch.specs.Jobs.{Headers, no_header, header_at, first_job, ends_anchor, newer_before, older_before}
use Rattle.m2v_dec_batch.specs.Batches.{header_of}
use Rattle.m2v_dec_batch.specs.Below.{IsBefore, first_none, first_more}
use Rattle.m2v_dec_batch.proofs.Sizes.{first_next}

-- what the headers say of a picture
pub header_there : (xs : List BatchPicture) (p : ℕ) (x : BatchPicture) (h : Header) → p < length xs → h ≡ header_of (get_or xs p x) → h ≡ header_at (map header_of xs) p
header_there xs p x h lt e = e ∙ sym (get_or-map header_of xs p x no_header lt)

next : (p : ℕ) → p + 1 ≡ suc p
next p = omega arith

pub newer_first : (hs : Headers) → newer_before hs 0 ≡ Newer
unfolding newer_before
newer_first hs = refl

pub older_first : (hs : Headers) → older_before hs 0 ≡ Older
unfolding older_before
older_first hs = refl

pub newer_next : (hs : Headers) (p : ℕ) → newer_before hs (p + 1) ≡ cond (ends_anchor (header_at hs p)) (Behind p) (newer_before hs p)
unfolding newer_before
newer_next hs p = ap (newer_before hs) (next p)

pub older_next : (hs : Headers) (p : ℕ) → older_before hs (p + 1) ≡ cond (ends_anchor (header_at hs p)) (newer_before hs p) (older_before hs p)
unfolding older_before
older_next hs p = ap (older_before hs) (next p)

-- pictures of at most 72 rows have at most 72 jobs each
pub jobs_most : (hs : Headers) (p : ℕ) → ((q : ℕ) → (header_at hs q).rows ≤ 72) → first_job hs p ≤ 72 * p
jobs_most hs zero rows = omega (arith, first_none hs)
jobs_most hs (suc p) rows = omega (arith, first_more hs p, rows p, jobs_most hs p rows)

pub before_first : (hs : Headers) → IsBefore hs 0 (record { jobs = 0; older = Older; newer = Newer })
before_first hs = record { jobs = sym (first_none hs); older = sym (older_first hs); newer = sym (newer_first hs) }

-- behind a picture
pub before_next : (hs : Headers) (p : ℕ) (x y : Before) (h : Header) → IsBefore hs p x → h ≡ header_at hs p → y.jobs ≡ x.jobs + h.rows → y.older ≡ cond (ends_anchor h) x.newer x.older → y.newer ≡ cond (ends_anchor h) (Behind p) x.newer
    → IsBefore hs (p + 1) y
before_next hs p x y h is e jobs older newer = record {
  jobs = omega (arith, jobs, is.jobs, ap (λ (k : Header). k.rows) e, first_next hs p);
  older = older ∙ (rw (e, is.older, is.newer) (sym (older_next hs p)));
  newer = newer ∙ (rw (e, is.newer) (sym (newer_next hs p)));
}

-- one more is looked up
pub each_next : (hs : Headers) (all : List Before) (p : ℕ) (y : Before) → p + 1 < length all → ((k : ℕ) (d : Before) → k ≤ p → IsBefore hs k (get_or all k d)) → IsBefore hs (p + 1) y
    → (k : ℕ) (d : Before) → k ≤ p + 1 → IsBefore hs k (get_or (slice_set all (p + 1) y) k d)
each_next hs all p y lt each is k d le = elim (cases_eq k (p + 1)) [
  | inl e ↦ subst (λ (n : ℕ). IsBefore hs n (get_or (slice_set all (p + 1) y) n d)) (sym e) (subst (IsBefore hs (p + 1)) (sym (get_or-set_same all (p + 1) y d lt)) is)
  | inr other ↦ subst (IsBefore hs k) (sym (get_or-set_other all (p + 1) k y d other)) (each k d (omega (arith, le, other)))
]

-- before the first picture
pub each_first : (hs : Headers) (x : Before) (rest : List Before) (k : ℕ) (d : Before) → k ≤ 0 → IsBefore hs 0 x → IsBefore hs k (get_or (x ∷ rest) k d)
each_first hs x rest zero d le is = is
each_first hs x rest (suc k) d le is = absurd (omega (arith, le))
