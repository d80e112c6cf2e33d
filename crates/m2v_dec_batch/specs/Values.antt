-- What comes of each row of a batch.
use Rattle.std.specs.Prelude.{◌≡◌, ◌⊎◌, ℕ, zero, suc, ◌+◌, Bool, if◌then◌else◌, List, [], ◌∷◌, ◌++◌, length, sum, slice_index_or, slice_get, Option, Some, None, Ok, Err}
use Rattle.std.specs.List.{list_all}
use Rattle.m2v_plane.specs.declared.dims.Dims.{Dims}
use Rattle.m2v_plane.specs.declared.planes.Plane.{Plane}
use Rattle.m2v_plane.specs.declared.planes.Plane.TheVariants.{Y, Cb, Cr}
use Rattle.m2v_plane.specs.Sizes.{columns_of}
use Rattle.m2v_plane.specs.Samples.{Samples, blank, sample_of, line_part}
use Rattle.m2v_model.specs.declared.setup.SliceSetup.{SliceSetup}
use Rattle.m2v_model.specs.Samples.{References, put_in_row}
use Rattle.m2v_dec_piece.specs.declared.answer.Fault.{Fault}
use Rattle.m2v_dec_rows.specs.Rows.{Slices, Placed, Read, row_read, row_fault, slices_painted}
use Rattle.m2v_dec_rows.specs.Opened.{setup_of, slices_of, ending}
use Rattle.m2v_dec_batch.specs.declared.picture.BatchPicture.{BatchPicture}
use Rattle.m2v_dec_batch.specs.declared.pieces.DecodePiece.{DecodePiece}
use Rattle.m2v_dec_batch.specs.declared.pieces.DecodePiece.TheVariants.{Unread, After, Faulty, Rebuilt}
use Rattle.m2v_dec_batch.specs.Pieces.{row_of, is_rebuilt, SharedRow}
use Rattle.m2v_dec_batch.specs.Jobs.{picture_of_job, row_of_job, needs_of, is_reference}
use Rattle.m2v_dec_batch.specs.Batches.{Batch, headers, Rows, references}

-- ---- one row

-- the samples that slices give a row
unfoldable pub row_painted : SliceSetup → References → Read → Samples
row_painted s refs (Ok x) = slices_painted put_in_row s refs (blank s.dims 1) x.0
row_painted s refs (Err f) = blank s.dims 1

-- a row's own fault comes first; behind a fault of the picture's headers it isn't rebuilt
unfoldable pub outcome_by : SliceSetup → References → ℕ → Slices → Option Fault → Option Placed → DecodePiece
outcome_by s refs row us fault (Some f) = Faulty (record { kind = f.0; place = f.1 })
outcome_by s refs row us (Some e) None = After
outcome_by s refs row us None None = Rebuilt (row_painted s refs (row_read s row us))

-- a row of a picture, whose references are there
unfoldable pub outcome_in : BatchPicture → References → ℕ → DecodePiece
outcome_in x refs row =
    let s = setup_of x.opened in
    let us = slices_of x.piece x.opened in
    outcome_by s refs row us x.opened.fault (row_fault s row us (ending x.piece x.opened))

unfoldable pub outcome_of : Option BatchPicture → References → ℕ → DecodePiece
outcome_of None refs row = After
outcome_of (Some x) refs row = outcome_in x refs row

-- ---- all rows

abbrev pub outcome_at : List DecodePiece → ℕ → DecodePiece
outcome_at done j = slice_index_or done j After

abbrev pub rows_of : List DecodePiece → Rows
rows_of done j = row_of (outcome_at done j)

abbrev pub are_rebuilt : List DecodePiece → List ℕ → Bool
are_rebuilt done needs = list_all (λ i. is_rebuilt (outcome_at done i)) needs

-- the next row, where those before it are done: it is rebuilt only where its needs are
unfoldable pub next_outcome : Batch → List DecodePiece → DecodePiece
next_outcome b done =
    let j = length done in
    let p = picture_of_job (headers b) j in
    if are_rebuilt done (needs_of (headers b) j)
    then outcome_of (slice_get b.pictures p) (references b (rows_of done) p) (row_of_job (headers b) j)
    else After

-- the first n rows
unfoldable pub decoded : Batch → ℕ → List DecodePiece
decoded b zero = []
decoded b (suc n) = decoded b n ++ next_outcome b (decoded b n) ∷ []

-- ---- pieces and shared parts

-- what comes of a row: it isn't rebuilt where a row that it needs isn't; or it has a fault; or it isn't rebuilt behind a fault
-- of the picture's headers; or it is
abbrev pub value_of : Batch → ℕ → DecodePiece
value_of b j = outcome_at (decoded b (j + 1)) j

-- a piece is blank, or what comes of its row
abbrev pub FitsPiece : Batch → ℕ → DecodePiece → Type 0
FitsPiece b j p = (p ≡ Unread b.dims) ⊎ (p ≡ value_of b j)

-- ---- what a gate is told

-- the sum of the samples of the first n lines of a plane of a row
unfoldable pub lines_sum : Samples → Plane → ℕ → ℕ
lines_sum xs plane zero = 0
lines_sum xs plane (suc n) = lines_sum xs plane n + sum (line_part (sample_of xs plane n) 0 (columns_of xs.dims plane))

-- the sum of all samples of a row
abbrev pub samples_sum : Samples → ℕ
samples_sum xs = lines_sum xs Y 16 + lines_sum xs Cb 8 + lines_sum xs Cr 8

-- a gate is told the sum of a row's samples, or 0 where it isn't rebuilt
unfoldable pub told_row : Option Samples → ℕ
told_row None = 0
told_row (Some xs) = samples_sum xs

-- ---- shared parts

-- what others learn of a piece, by a shared part that holds samples or doesn't
abbrev pub shared_by : Dims → Bool → DecodePiece → SharedRow
shared_by d holds p = record {
  dims = d;
  holds = holds;
  row = if holds then row_of p else None;
  told = told_row (row_of p);
}

-- only a row of a picture that others may be predicted from is shared with its samples
abbrev pub shared_of : Batch → ℕ → SharedRow
shared_of b j = shared_by b.dims (is_reference (headers b) (picture_of_job (headers b) j)) (value_of b j)

-- a shared part is for frames of the batch's size, and holds samples where its row's picture is a reference
pub record FitsShared (b : Batch) (j : ℕ) (s : SharedRow) : Type 0 where
  pub dims : s.dims ≡ b.dims
  pub holds : s.holds ≡ is_reference (headers b) (picture_of_job (headers b) j)

abbrev pub told_of : Batch → ℕ → ℕ
told_of b j = (shared_of b j).told
