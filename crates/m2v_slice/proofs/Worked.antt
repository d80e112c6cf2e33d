-- What a job's work is asked for, and what it gives.
use Rattle.std.proofs.Common.{◌≡◌, ℕ, ◌+◌, ◌-◌, ◌<◌, ◌≤◌, length, sym, ap, subst, ◌∙◌, arith}
use Rattle.m2v_set.specs.Numbers.{mb_width_of}
use Rattle.m2v_rate.specs.declared.values.Plan.{Plan}
use Rattle.m2v_rate.specs.Plans.{Entries, first_open}
use Rattle.m2v_core.specs.Book.{cache_after}
use Rattle.m2v_slice.specs.Slices.{CodedSlice, most_bits_of}
use Rattle.m2v_slice.specs.declared.pieces.EncodePiece.{EncodePiece}
use Rattle.m2v_slice.specs.declared.pieces.EncodePiece.TheVariants as piece
use Rattle.m2v_slice.specs.Books.{Book, coded, picture_at, slice_at, ledger_with, picture_of_job, part_of_job, needs_of}
use Rattle.m2v_slice.specs.Cached.{Cached}
use Rattle.m2v_slice.specs.Conditions.{IsBook}
use Rattle.m2v_slice.specs.Jobs.{jobs_of, value_of, shared_of, learned_of, FitsPiece, FitsCache}
use Rattle.m2v_slice.specs.Works.{HasLearnedPlan, HasLearnedSlice}
use Rattle.m2v_slice.specs.Needs.{part_small}
use Rattle.m2v_slice.proofs.Rows.{job_picture}
use Rattle.m2v_slice.proofs.Learned.{value_plan, value_slice}
use Rattle.m2v_slice.proofs.Fitting.{slice_size, after_fits}
use Rattle.m2v_slice.proofs.Works.{plan_learned, slice_learned}

-- a cache that fits has learned all needs of a job
abbrev pub HasLearned : Book → ℕ → Cached → Type 0
HasLearned b j d = (c : Cached) × FitsCache b c × (d ≡ cache_after (learned_of b j) (shared_of b) (needs_of b j) (length (needs_of b j)) c)

pub plan_fits : (b : Book) (j : ℕ) (x : EncodePiece) (plan : Plan) (ledger : Entries) → x ≡ piece.Plan plan ledger → FitsPiece b j x → part_of_job b j ≡ 0
unfolding FitsPiece
plan_fits b j x plan ledger e h = subst (FitsPiece b j) e h

pub fits_plan_piece : (b : Book) (j : ℕ) (plan : Plan) (ledger : Entries) → part_of_job b j ≡ 0 → FitsPiece b j (piece.Plan plan ledger)
unfolding FitsPiece
fits_plan_piece b j plan ledger e = e

pub fits_slice_piece : (b : Book) → IsBook b → (j : ℕ) (x : CodedSlice) → j < jobs_of b → (part_of_job b j ≡ 0 → ⊥)
    → x ≡ slice_at (coded b (picture_of_job b j + 1)) (picture_of_job b j) (part_of_job b j - 1)
    → length x.text ≤ most_bits_of (mb_width_of b.settings) → FitsPiece b j (piece.Slice x)
unfolding FitsPiece
fits_slice_piece b h j x lt n e few = (
  n,
  ap (λ (s : CodedSlice). s.row.dims) e
      ∙ slice_size b h (picture_of_job b j + 1) (picture_of_job b j) (part_of_job b j - 1) (job_picture b j lt) (omega arith) (omega (arith, part_small b j, n)),
  few,
)

pub plan_known : (b : Book) → IsBook b → (j p : ℕ) (d : Cached) → j < jobs_of b → p ≡ picture_of_job b j → part_of_job b j ≡ 0 → HasLearned b j d → HasLearnedPlan b p d
plan_known b h j p d lt e part learned =
    subst (λ (i : ℕ). HasLearnedPlan b i d) (sym e) (plan_learned b h j learned.0 d (job_picture b j lt) part learned.2)

pub slice_known : (b : Book) → IsBook b → (j p r : ℕ) (d : Cached) → j < jobs_of b → p ≡ picture_of_job b j → r ≡ part_of_job b j - 1 → (part_of_job b j ≡ 0 → ⊥)
    → HasLearned b j d → HasLearnedSlice b p r d
slice_known b h j p r d lt e f n learned =
    let fits = subst (FitsCache b) (sym learned.2) (after_fits b h j (length (needs_of b j)) learned.0 lt (omega arith) learned.1) in
    subst (λ (i : ℕ). HasLearnedSlice b i r d) (sym e)
    (subst (λ (i : ℕ). HasLearnedSlice b (picture_of_job b j) i d) (sym f) (slice_learned b j learned.0 d n learned.1 fits learned.2))

pub plan_value : (b : Book) (j p : ℕ) (plan : Plan) (ledger : Entries) → p ≡ picture_of_job b j → part_of_job b j ≡ 0
    → plan ≡ (picture_at (coded b (p + 1)) p).plan → ledger ≡ ledger_with b (coded b (p + 1)) (first_open p) (coded b (p + 1))
    → piece.Plan plan ledger ≡ value_of b j
plan_value b j p plan ledger e part ep el =
    ap (λ (x : Plan). piece.Plan x ledger) ep
    ∙ ap (λ (x : Entries). piece.Plan (picture_at (coded b (p + 1)) p).plan x) el
    ∙ ap (λ (i : ℕ). piece.Plan (picture_at (coded b (i + 1)) i).plan (ledger_with b (coded b (i + 1)) (first_open i) (coded b (i + 1)))) e
    ∙ sym (value_plan b j part)

pub slice_place : (b : Book) (j p r : ℕ) (x : CodedSlice) → p ≡ picture_of_job b j → r ≡ part_of_job b j - 1 → x ≡ slice_at (coded b (p + 1)) p r
    → x ≡ slice_at (coded b (picture_of_job b j + 1)) (picture_of_job b j) (part_of_job b j - 1)
slice_place b j p r x e f g = g ∙ ap (λ (i : ℕ). slice_at (coded b (i + 1)) i r) e ∙ ap (slice_at (coded b (picture_of_job b j + 1)) (picture_of_job b j)) f

pub slice_value : (b : Book) (j p r : ℕ) (x : CodedSlice) → p ≡ picture_of_job b j → r ≡ part_of_job b j - 1 → (part_of_job b j ≡ 0 → ⊥)
    → x ≡ slice_at (coded b (p + 1)) p r → piece.Slice x ≡ value_of b j
slice_value b j p r x e f n g = ap piece.Slice (slice_place b j p r x e f g) ∙ sym (value_slice b j n)
