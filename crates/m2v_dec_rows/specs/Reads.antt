-- What the readers of a row answer.
use Rattle.std.specs.Prelude.{◌≡◌, ℕ, ◌+◌, ◌<◌, List, Option, Some, None, Result, Ok, Err}
use Rattle.m2v_plane.specs.Samples.{Samples}
use Rattle.m2v_model.specs.declared.setup.SliceSetup.{SliceSetup}
use Rattle.m2v_model.specs.Slices.{Slice, slice_start}
use Rattle.m2v_model.specs.Samples.{References, all_painted, put_in_row}
use Rattle.m2v_dec_piece.specs.declared.answer.Fault.{Fault}
use Rattle.m2v_dec_rows.specs.Rows.{Unread, Slices, Placed, Begun, first_of, slice_read, row_read, row_fault, slices_painted}

-- a row is as wide as the picture
abbrev pub IsWide : SliceSetup → Samples → Type 0
IsWide s out = (column : ℕ) → column < s.context.columns → column < out.dims.mb_width

abbrev pub as_placed : Option Fault → Option Placed
as_placed None = None
as_placed (Some f) = Some (f.kind, f.place)

-- a slice was read and painted into its row, or its fault told
abbrev pub TellsUnread : SliceSetup → References → ℕ → Unread → Samples → Result ℕ Fault → Samples → Type 0
TellsUnread s refs covered u old (Ok end) now =
    (x : Slice) × (slice_read s covered u ≡ Ok x) × (end ≡ x.covered)
    × (now ≡ all_painted put_in_row s refs (slice_start s.context u.row covered x.info.quantiser) x.macroblocks old)
TellsUnread s refs covered u old (Err f) now = slice_read s covered u ≡ Err (f.kind, f.place)

-- the slices of a row were read and painted, or the first fault of one of them told
abbrev pub TellsOwn : SliceSetup → References → ℕ → Slices → Samples → Result ℕ Fault → Samples → Type 0
TellsOwn s refs row us old (Ok covered) now =
    (xs : List Begun) × (row_read s row us ≡ Ok (xs, covered)) × (now ≡ slices_painted put_in_row s refs old xs)
TellsOwn s refs row us old (Err f) now = row_read s row us ≡ Err (f.kind, f.place)

-- A row was read: it has no fault, and where its slices cover it they are painted; or its first fault.
abbrev pub TellsRow : SliceSetup → References → ℕ → Slices → Option ℕ → Samples → Option Fault → Samples → Type 0
TellsRow s refs row us end old None now =
    (row_fault s row us end ≡ None)
    × ((xs : List Begun) → row_read s row us ≡ Ok (xs, first_of s (row + 1)) → now ≡ slices_painted put_in_row s refs old xs)
TellsRow s refs row us end old (Some f) now = row_fault s row us end ≡ Some (f.kind, f.place)
