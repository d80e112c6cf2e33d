-- A picture whose rows were read by themselves, taken into a decoder.
use Rattle.std.specs.Prelude.{◌≡◌, ℕ, ◌+◌, false, if◌then◌else◌, List, Option, Some, None, Ok}
use Rattle.m2v_plane.specs.Samples.{Samples, HasRows, blank}
use Rattle.m2v_plane.specs.Fields.{or_none}
use Rattle.m2v_model.specs.declared.state.Open.{Open}
use Rattle.m2v_model.specs.Samples.{References, put_in_row}
use Rattle.m2v_model.specs.Pictures.{Store, references_by, picture_ended}
use Rattle.m2v_dec_piece.specs.declared.answer.Piece.{Piece}
use Rattle.m2v_dec_rows.specs.declared.opened.Opened.{Opened}
use Rattle.m2v_dec_rows.specs.Rows.{Begun, first_of, row_read, row_fault, slices_painted}
use Rattle.m2v_dec_rows.specs.Opened.{setup_of, slices_of, ending}
pub use Rattle.m2v_dec_rows.specs.InFrames.{rows_set}

-- ---- rows

-- a row of a picture that was read by itself, whatever stood in it before: it has no fault, and these are its samples
pub record IsRebuilt (refs : References) (p : Piece) (o : Opened) (r : ℕ) (row : Samples) : Type 0 where
  pub fine : row_fault (setup_of o) r (slices_of p o) (ending p o) ≡ None
  pub one : HasRows row 1
  pub size : row.dims ≡ o.dims
  pub painted : (xs : List Begun) → row_read (setup_of o) r (slices_of p o) ≡ Ok (xs, first_of (setup_of o) (r + 1))
      → (old : Samples) × HasRows old 1 × (old.dims ≡ o.dims) × (row ≡ slices_painted put_in_row (setup_of o) refs old xs)

-- what the picture is predicted from
abbrev pub refs_for : Opened → Store → References
refs_for o store = references_by o.context.kind o.context.second o.context.extension.structure store

-- ---- frames

-- the frame before its rows are set: samples 0, or those of its first field
abbrev pub frame_begun : Opened → Option Samples → Samples
frame_begun o current = if o.context.second then or_none current else blank o.dims o.dims.mb_rows

-- the picture as one of which no slice came
abbrev pub open_of : Opened → Open
open_of o = record {
  info = o.note.info;
  extension = o.note.extension;
  second_field = o.context.second;
  dropped = o.note.dropped;
  slices_unread = false;
  references = o.references;
  has_slice = false;
  row = 0;
  covered = 0;
  large_macroblocks = 0;
  crowded_row = 0;
}

-- the frames at hand behind a picture with this frame: an anchor takes the place of the one before, and a first field waits
abbrev pub frames_behind : Opened → Samples → Store → Store
frames_behind o frame store = picture_ended (Some (open_of o)) (record store { current = Some frame })
