-- The posts of a group that is done serve each group of its settings.
use Rattle.std.proofs.Common.{◌≡◌, ℕ, ◌+◌, ◌-◌, ◌%◌, ◌<◌, ◌≤◌, length, get_or, refl, sym, ap, subst, ◌∙◌, arith, inl, inr}
use Rattle.std.specs.Prelude.{Box}
use Rattle.std.specs.declared.vec.Vec.{Vec}
use Rattle.std.proofs.lemmas.Bool.{cases_eq}
use Rattle.m2v_board.specs.declared.post.Post.{Post}
use Rattle.m2v_wave.specs.Pieces.{ArePieces}
use Rattle.m2v_set.specs.declared.settings.Settings.{Settings}
use Rattle.m2v_set.specs.Numbers.{dims_of, mb_width_of, rows_by}
use Rattle.m2v_rate.specs.Plans.{first_open}
use Rattle.m2v_slice.specs.Slices.{CodedSlice, most_bits_of}
use Rattle.m2v_slice.specs.Headers.{context_of}
use Rattle.m2v_slice.specs.declared.pieces.EncodePiece.{EncodePiece}
use Rattle.m2v_slice.specs.declared.pieces.EncodePiece.TheVariants as piece
use Rattle.m2v_slice.specs.declared.pieces.EncodeShared.{EncodeShared}
use Rattle.m2v_slice.specs.declared.pieces.EncodeShared.TheVariants as part
use Rattle.m2v_slice.specs.Books.{Book, rows, coded, picture_at, slice_at, task_of, ledger_with, picture_of_job, part_of_job}
use Rattle.m2v_slice.specs.Cached.{Cached}
use Rattle.m2v_slice.specs.Conditions.{IsBook}
use Rattle.m2v_slice.specs.Jobs.{jobs_of, value_of, shared_part, shared_of, FitsPiece, FitsShared}
use Rattle.m2v_slice.specs.Needs.{part_small}
use Rattle.m2v_slice.proofs.Rows.{job_picture}
use Rattle.m2v_slice.proofs.Coded.{slice_is}
use Rattle.m2v_slice.proofs.Fits.{slice_fits}
use Rattle.m2v_slice.proofs.Steady.{task_is}
use Rattle.m2v_slice.proofs.Sound.{plan_is_good}
use Rattle.m2v_slice.proofs.Learned.{slice_in, value_plan, value_slice}
use Rattle.m2v_slice.proofs.Worked.{fits_plan_piece, fits_slice_piece}
use Rattle.m2v_encode.specs.Kept.{ServeAll}

-- ---- what a job has made fits it

text_most : (b : Book) → IsBook b → (p r : ℕ) → p < length b.pictures → r < rows b
    → length (slice_at (coded b (p + 1)) p r).text ≤ most_bits_of (mb_width_of b.settings)
unfolding task_of context_of
text_most b h p r lt small =
    let plan = (picture_at (coded b (p + 1)) p).plan in
    let good = plan_is_good b h (p + 1) p (omega arith) (omega arith) in
    subst (λ (x : CodedSlice). length x.text ≤ most_bits_of (mb_width_of b.settings)) (sym (slice_is b (p + 1) p r (omega arith) small))
    (slice_fits (task_of b (coded b p) p plan r) (task_is b h (coded b p) p plan r lt small good)).most

row_there : (b : Book) (j : ℕ) → (part_of_job b j ≡ 0 → ⊥) → part_of_job b j - 1 < rows b
row_there b j n = omega (arith, part_small b j, n)

value_fits : (b : Book) → IsBook b → (j : ℕ) → j < jobs_of b → FitsPiece b j (value_of b j)
value_fits b h j lt =
    let p = picture_of_job b j in
    let done = coded b (p + 1) in
    elim (cases_eq (part_of_job b j) 0) [
      | inl e ↦ subst (FitsPiece b j) (sym (value_plan b j e)) (fits_plan_piece b j (picture_at done p).plan (ledger_with b done (first_open p) done) e)
      | inr n ↦ subst (FitsPiece b j) (sym (value_slice b j n))
          (fits_slice_piece b h j (slice_in b j) lt n refl (text_most b h p (part_of_job b j - 1) (job_picture b j lt) (row_there b j n)))
    ]

-- and so does what others learn of it
fits_shared : (b : Book) (j : ℕ) (x : EncodePiece) → FitsPiece b j x → FitsShared b j (shared_part x)
unfolding FitsPiece FitsShared shared_part
fits_shared b j (piece.Plan plan ledger) h = h
fits_shared b j (piece.Slice slice) h = (h.0, h.1)

-- ---- and the same job of another book of the settings

piece_again : (b c : Book) → b.settings ≡ c.settings → (j : ℕ) (x : EncodePiece) → FitsPiece b j x → FitsPiece c j x
unfolding FitsPiece
piece_again b c e j (piece.Plan plan ledger) h = subst (λ (s : Settings). j % (rows_by s.scan s.height + 1) ≡ 0) e h
piece_again b c e j (piece.Slice slice) h = (
  subst (λ (s : Settings). j % (rows_by s.scan s.height + 1) ≡ 0 → ⊥) e h.0,
  h.1 ∙ ap dims_of e,
  subst (λ (s : Settings). length slice.text ≤ most_bits_of (mb_width_of s)) e h.2,
)

shared_again : (b c : Book) → b.settings ≡ c.settings → (j : ℕ) (x : EncodeShared) → FitsShared b j x → FitsShared c j x
unfolding FitsShared
shared_again b c e j (part.Plan plan ledger) h = subst (λ (s : Settings). j % (rows_by s.scan s.height + 1) ≡ 0) e h
shared_again b c e j (part.Slice row bits work) h = (
  subst (λ (s : Settings). j % (rows_by s.scan s.height + 1) ≡ 0 → ⊥) e h.0,
  h.1 ∙ ap dims_of e,
)

pub serve_all : {A Z : Type 0} (d : Book) → IsBook d → (s : Settings) → s ≡ d.settings → (posts : Vec (Box (Post Book EncodePiece EncodeShared Cached) A) Z)
    → ArePieces (jobs_of d) (value_of d) (shared_of d) posts → ServeAll s posts.items
serve_all d h s same posts are = record {
  each = λ b e.
      let settings = sym same ∙ sym e in
      record {
        pieces = λ j x lt small.
            let before : j < jobs_of d = omega (arith, small, are.count, posts.ok.0) in
            piece_again d b settings j (get_or posts.items j x).value.piece (subst (FitsPiece d j) (sym (are.pieces j x before)) (value_fits d h j before));
        parts = λ j x lt small.
            let before : j < jobs_of d = omega (arith, small, are.count, posts.ok.0) in
            shared_again d b settings j (get_or posts.items j x).value.shared (subst (FitsShared d j) (sym (are.parts j x before)) (fits_shared d j (value_of d j) (value_fits d h j before)));
      };
}
