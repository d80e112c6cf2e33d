-- The units of a picture are a piece, and that of the first picture of a group begins the stream's first piece.
use Rattle.std.proofs.Common.{◌≡◌, ℕ, zero, suc, ◌+◌, ◌-◌, ◌/◌, ◌<◌, ◌≤◌, Bool, true, false, cond, List, [], ◌∷◌, ◌++◌, map, refl, sym, subst, arith}
use Rattle.std.specs.Prelude.{All}
use Rattle.std.specs.List.{range_with_len}
use Rattle.std.proofs.lemmas.Bool.{ne_eqb}
use Rattle.std.proofs.lemmas.List.Elements.{All-nil, All-cons, All-append}
use Rattle.m2v_set.specs.declared.settings.Settings.{Settings}
use Rattle.m2v_set.proofs.Facts.{bounds}
use Rattle.m2v_order.specs.declared.jobs.PictureJob.{PictureJob}
use Rattle.m2v_rate.specs.Plans.{Entries}
use Rattle.m2v_slice.specs.Headers.{begins_group}
use Rattle.m2v_slice.specs.Books.{Book, rows, job_at}
use Rattle.m2v_slice.specs.Conditions.{IsBook}
use Rattle.m2v_slice.proofs.Groups.{rows_few, passes_of}
use Rattle.m2v_enc_stream.specs.Streams.{zeros_of, delay_at}
use Rattle.m2v_model.specs.Units.{Units}
use Rattle.m2v_model.specs.Pieces.{begins_piece, is_end}
use Rattle.m2v_slice.proofs.Firsts.{first_begins}
use Rattle.m2v_enc_stream.proofs.Zeros.{padded}
use Rattle.m2v_enc_stream.proofs.SliceUnits.{slice_bytes}
use Rattle.m2v_enc_stream.proofs.TreePictures.{sequence_bytes, extension_bytes, group_bytes, picture_bytes, coding_bytes}
use Rattle.m2v_enc_stream.proofs.PictureChains.{header_bytes, slices_bytes, picture_units_of, some_rows}
use Rattle.m2v_law_shown.proofs.Groupings.{IsInner, IsPiece, IsFirst, plain_piece, group_piece, group_first}

-- ---- slices

-- a slice's start code is one of 1 to 175
pub slice_goes : (n : ℕ) → 1 ≤ n → n ≤ 175 → is_end n ≡ false
unfolding is_end
slice_goes n some few = ne_eqb n 0xB7 (λ e. omega (arith, few, e))

pub slice_inner : (n : ℕ) → 1 ≤ n → n ≤ 175 → begins_piece n ≡ false
unfolding begins_piece
slice_inner n some few =
    rw (ne_eqb n 0x00 (λ e. omega (arith, some, e)), ne_eqb n 0xB3 (λ e. omega (arith, few, e)), ne_eqb n 0xB7 (λ e. omega (arith, few, e)), ne_eqb n 0xB8 (λ e. omega (arith, few, e))) refl

inner_slice : (b : Book) → IsBook b → (p r more : ℕ) → r < rows b → IsInner (padded (slice_bytes b p r) more)
inner_slice b h p r more small =
    let few = rows_few b (bounds b.settings (passes_of b h)) in
    record {
      goes = slice_goes (r + 1) (omega arith) (omega (arith, few, small));
      inner = slice_inner (r + 1) (omega arith) (omega (arith, few, small));
    }

pub inner_map : (bytes : ℕ → List ℕ) (from n : ℕ) → ((r : ℕ) → r < from + n → IsInner (bytes r)) → All IsInner (map bytes (range_with_len from n))
inner_map bytes from zero each = All-nil IsInner
inner_map bytes from (suc n) each =
    All-cons IsInner (bytes from) (map bytes (range_with_len (from + 1) n)) (each from (omega arith)) (inner_map bytes (from + 1) n (λ r lt. each r (omega (arith, lt))))

pub inner_slices : (b : Book) → IsBook b → (p zeros : ℕ) → All IsInner (slices_bytes b p zeros)
inner_slices b h p zeros =
    let some = some_rows b h in
    let k = rows b - 1 in
    All-append IsInner (map (λ r. padded (slice_bytes b p r) 0) (range_with_len 0 k)) (padded (slice_bytes b p k) zeros ∷ [])
    (inner_map (λ r. padded (slice_bytes b p r) 0) 0 k (λ r lt. inner_slice b h p r 0 (omega (arith, lt, some))))
    (All-cons IsInner (padded (slice_bytes b p k) zeros) [] (inner_slice b h p k zeros (omega (arith, some))) (All-nil IsInner))

-- ---- pictures

headed_piece : (s : Settings) (job : PictureJob) (delay : ℕ) (slices : Units) → All IsInner slices → IsPiece (header_bytes s job delay ++ slices)
headed_piece s job delay slices h = by_begin (begins_group job)
  where
    by_begin : (x : Bool)
        → IsPiece ((cond x (sequence_bytes s ∷ extension_bytes s ∷ group_bytes s (job.display - job.frame) ∷ []) [] ++ picture_bytes job delay ∷ coding_bytes s job ∷ []) ++ slices)
    by_begin true = group_piece _ _ _ _ _ slices h
    by_begin false = plain_piece _ _ slices h

headed_first : (s : Settings) (job : PictureJob) (delay : ℕ) (slices : Units) → begins_group job ≡ true → All IsInner slices → IsFirst (header_bytes s job delay ++ slices)
headed_first s job delay slices e h =
    subst (λ (x : Bool). IsFirst ((cond x (sequence_bytes s ∷ extension_bytes s ∷ group_bytes s (job.display - job.frame) ∷ []) [] ++ picture_bytes job delay ∷ coding_bytes s job ∷ []) ++ slices)) (sym e)
    (group_first _ _ _ _ _ slices h)

pub picture_piece : (b : Book) → IsBook b → (l : Entries) (ends : Bool) (at p : ℕ) → IsPiece (picture_units_of b l ends at p)
picture_piece b h l ends at p =
    headed_piece b.settings (job_at b p) (delay_at l (job_at b p) p at) (slices_bytes b p (zeros_of l ends p / 8)) (inner_slices b h p (zeros_of l ends p / 8))

pub picture_first : (b : Book) → IsBook b → (l : Entries) (ends : Bool) (at : ℕ) → IsFirst (picture_units_of b l ends at 0)
picture_first b h l ends at =
    headed_first b.settings (job_at b 0) (delay_at l (job_at b 0) 0 at) (slices_bytes b 0 (zeros_of l ends 0 / 8)) (first_begins b h) (inner_slices b h 0 (zeros_of l ends 0 / 8))
