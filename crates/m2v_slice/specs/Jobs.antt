-- The jobs of a book: what each makes, what others learn of it, and what learning makes of a cache.
use Rattle.std.specs.Prelude.{ℕ, zero, suc, ◌≡◌, ◌≢◌, ◌+◌, ◌-◌, ◌*◌, ◌^◌, ◌≤◌, nat_eq, nat_le, cond, min, if◌then◌else◌, All, length, slice_set}
use Rattle.m2v_plane.specs.declared.dims.Dims.{Dims}
use Rattle.m2v_plane.specs.Samples.{Samples}
use Rattle.m2v_set.specs.Numbers.{dims_of, mb_width_of}
use Rattle.m2v_rate.specs.Plans.{first_open}
use Rattle.m2v_slice.specs.Slices.{most_bits_of}
use Rattle.m2v_slice.specs.declared.pieces.EncodePiece.{EncodePiece}
use Rattle.m2v_slice.specs.declared.pieces.EncodePiece.TheVariants as piece
use Rattle.m2v_slice.specs.declared.pieces.EncodeShared.{EncodeShared}
use Rattle.m2v_slice.specs.declared.pieces.EncodeShared.TheVariants as part
use Rattle.m2v_slice.specs.Books.{Book, rows, coded, picture_at, slice_at, ledger_with, picture_of_job, part_of_job}
use Rattle.m2v_slice.specs.Cached.{Cached}

-- how many jobs there are: a plan and its slices for each picture. A picture has at most 72 macroblock rows; a record with
-- more is no book, and has no jobs
unfoldable pub jobs_of : Book → ℕ
jobs_of b = cond (nat_le (rows b) 72) (length b.pictures * (rows b + 1)) 0

-- ---- what jobs make

-- the plan of a picture, with the ledger that knows it
abbrev pub plan_piece : Book → ℕ → EncodePiece
plan_piece b p =
    let done = coded b (p + 1) in
    piece.Plan (picture_at done p).plan (ledger_with b done (first_open p) done)

abbrev pub slice_piece : Book → ℕ → ℕ → EncodePiece
slice_piece b p r = piece.Slice (slice_at (coded b (p + 1)) p r)

unfoldable pub value_of : Book → ℕ → EncodePiece
value_of b j =
    if nat_eq (part_of_job b j) 0
    then plan_piece b (picture_of_job b j)
    else slice_piece b (picture_of_job b j) (part_of_job b j - 1)

-- others learn a plan whole, and of a slice its samples, how many bits it has, and its work
unfoldable pub shared_part : EncodePiece → EncodeShared
shared_part (piece.Plan plan ledger) = part.Plan plan ledger
shared_part (piece.Slice slice) = part.Slice slice.row (length slice.text) slice.work

abbrev pub shared_of : Book → ℕ → EncodeShared
shared_of b j = shared_part (value_of b j)

-- a gate is told the bits of slices
unfoldable pub told_part : EncodeShared → ℕ
told_part (part.Plan plan ledger) = 0
told_part (part.Slice row bits work) = bits

abbrev pub told_of : Book → ℕ → ℕ
told_of b j = told_part (shared_of b j)

-- ---- what is learned

-- a plan comes first: with it counting begins
unfoldable pub with_plan : EncodeShared → Cached → Cached
with_plan (part.Plan plan ledger) c = record c { learned = record { plan = plan; ledger = ledger; bits = 0; work = 0 } }
with_plan (part.Slice row bits work) c = c

-- the bits and the work of a slice more, as far as numbers of 64 bits go
unfoldable pub with_bits : EncodeShared → Cached → Cached
with_bits (part.Plan plan ledger) c = c
with_bits (part.Slice row bits work) c =
    record c { learned = record c.learned { bits = min (c.bits + bits) (2 ^ 64 - 1); work = min (c.work + work) (2 ^ 64 - 1) } }

-- a row in its place
unfoldable pub with_row : ℕ → EncodeShared → Cached → Cached
with_row k (part.Plan plan ledger) c = c
with_row k (part.Slice row bits work) c = record c { rows = slice_set c.rows k row }

-- the first need is a plan; those behind it are slices, whose bits and work a plan's job adds up, and whose rows a slice's job keeps
-- in their order
unfoldable pub learned_of : Book → ℕ → ℕ → EncodeShared → Cached → Cached
learned_of b j zero x c = with_plan x c
learned_of b j (suc k) x c = if nat_eq (part_of_job b j) 0 then with_bits x c else with_row k x c

-- ---- what fits

-- a piece or a shared part is that of a plan or of a slice as the job is; a row is for frames of the settings' size, and no
-- text is longer than that of any slice
unfoldable pub FitsPiece : Book → ℕ → EncodePiece → Type 0
FitsPiece b j (piece.Plan plan ledger) = part_of_job b j ≡ 0
FitsPiece b j (piece.Slice slice) =
    (part_of_job b j ≢ 0)
    × (slice.row.dims ≡ dims_of b.settings)
    × (length slice.text ≤ most_bits_of (mb_width_of b.settings))

unfoldable pub FitsShared : Book → ℕ → EncodeShared → Type 0
FitsShared b j (part.Plan plan ledger) = part_of_job b j ≡ 0
FitsShared b j (part.Slice row bits work) = (part_of_job b j ≢ 0) × (row.dims ≡ dims_of b.settings)

-- a shared part is that of a slice
unfoldable pub IsSlicePart : EncodeShared → Type 0
IsSlicePart (part.Plan plan ledger) = ⊥
IsSlicePart (part.Slice row bits work) = Unit {0}

-- the row of a shared part, if it has one, is for frames of this size
unfoldable pub HasDims : Dims → EncodeShared → Type 0
HasDims d (part.Plan plan ledger) = Unit {0}
HasDims d (part.Slice row bits work) = d ≡ row.dims

-- a cache has room for three rows of each of four reference pictures
pub record FitsCache (b : Book) (c : Cached) : Type 0 where
  pub room : length c.rows ≡ 12
  pub size : All (λ (row : Samples). row.dims ≡ dims_of b.settings) c.rows
