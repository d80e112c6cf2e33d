-- The frames at hand, and what the picture that is open is predicted from.
use Rattle.std.specs.Prelude.{◌≡◌, ℕ, Bool, true, false, ◌&&◌, not, nat_eq, if◌then◌else◌, slice_index_or, List, Option, Some, None, IsSome, IfSome, Result, Ok, Err}
use Rattle.m2v_plane.specs.declared.dims.Dims.{Dims}
use Rattle.m2v_plane.specs.Samples.{Samples, HasRows}
use Rattle.m2v_model.specs.declared.state.Open.{Open}
use Rattle.m2v_model.specs.declared.setup.SliceSetup.{SliceSetup}
use Rattle.m2v_model.specs.States.{is_b}
use Rattle.m2v_model.specs.Samples.{References, put_in_frame, all_painted}
use Rattle.m2v_model.specs.Slices.{Slice, slice_at, slice_start, large_in}
use Rattle.m2v_model.specs.Pictures.{Store, no_references, references_by, on_frame}
use Rattle.m2v_model.specs.declared.stop.Stop.{Stop}
use Rattle.m2v_dec_picture.specs.declared.slices.SliceEnd.{SliceEnd}
use Rattle.m2v_dec_picture.specs.declared.gallery.Reading.{Reading}

-- the anchor before the last one, the last one, and the frame of the picture that is open or of the first field that
-- waits; the first field's frame as its second field began; and what tells the references of the picture whose slices
-- are read
pub record Frames : Type 0 where
  pub older : Option Samples
  pub newer : Option Samples
  pub current : Option Samples
  pub first_field : Option Samples
  pub reading : Option Reading

-- the same of each
abbrev pub frames_by : Option Samples → Option Samples → Option Samples → Option Samples → Option Reading → Frames
frames_by older newer current first reading = record { older = older; newer = newer; current = current; first_field = first; reading = reading }

-- what a picture that is open is predicted from, by the last two anchors and the first field of its frame
abbrev pub references_at : Option Reading → Option Samples → Option Samples → Option Samples → References
references_at None older newer first = no_references
references_at (Some r) older newer first =
    references_by r.kind r.second_field r.structure (record { older = older; newer = newer; current = first; references = no_references })

abbrev pub references_in : Frames → References
references_in f = references_at f.reading f.older f.newer f.first_field

-- the frames as the definitions have them
abbrev pub store_of : Frames → Store
store_of f = record { older = f.older; newer = f.newer; current = f.current; references = references_in f }

-- what tells the references of a picture that begins
abbrev pub reading_of : Open → Option Reading
reading_of p =
    if p.slices_unread then None
    else Some (record { kind = p.info.kind; second_field = p.second_field; structure = p.extension.structure })

-- no frame is there
abbrev pub none_at_hand : Frames
none_at_hand = record { older = None; newer = None; current = None; first_field = None; reading = None }

-- the frames that have the top and the bottom field of the forward reference: of a second P field the field of the other
-- parity stands in the frame of its first field
abbrev pub forward_top : Option Reading → Option Samples → Option Samples → Option Samples → Option Samples
forward_top None older newer first = None
forward_top (Some r) older newer first =
    if is_b r.kind then older else if r.second_field && not (nat_eq r.structure 1) then first else newer

abbrev pub forward_bottom : Option Reading → Option Samples → Option Samples → Option Samples → Option Samples
forward_bottom None older newer first = None
forward_bottom (Some r) older newer first =
    if is_b r.kind then older else if r.second_field && nat_eq r.structure 1 then first else newer

-- the frame that has both fields of the backward reference
abbrev pub backward_frame : Option Reading → Option Samples → Option Samples
backward_frame None newer = None
backward_frame (Some r) newer = if is_b r.kind then newer else None

-- each field that was decoded stands in a frame that is there: forward top, forward bottom, backward top, backward bottom
pub record HasReferences (decoded : List Bool) (f : Frames) : Type 0 where
  pub top : slice_index_or decoded 0 false ≡ true → IsSome (forward_top f.reading f.older f.newer f.first_field)
  pub bottom : slice_index_or decoded 1 false ≡ true → IsSome (forward_bottom f.reading f.older f.newer f.first_field)
  pub back_top : slice_index_or decoded 2 false ≡ true → IsSome (backward_frame f.reading f.newer)
  pub back_bottom : slice_index_or decoded 3 false ≡ true → IsSome (backward_frame f.reading f.newer)

-- all frames that are there have this size, and the one that is open has all samples of its size
pub record HaveSize (d : Dims) (f : Frames) : Type 0 where
  pub older : IfSome f.older (λ s. s.dims ≡ d)
  pub newer : IfSome f.newer (λ s. s.dims ≡ d)
  pub current : IfSome f.current (λ s. s.dims ≡ d)
  pub first_field : IfSome f.first_field (λ s. s.dims ≡ d)
  pub whole : IfSome f.current (λ s. HasRows s s.dims.mb_rows)

-- a slice was read and painted into the frame that is open: the address behind its last macroblock, and how many of them
-- are large; or the fault and its place
abbrev pub PaintsSlice : SliceSetup → ℕ → ℕ → List Bool → Frames → Result SliceEnd Stop → List Bool → Frames → Type 0
PaintsSlice s covered row old before (Ok end) new now =
    (x : Slice) × ((slice_at s covered row).read old ≡ Ok (x, new)) × (end.covered ≡ x.covered) × (end.large ≡ large_in x)
    × (now ≡ record before {
      current = on_frame (all_painted put_in_frame s (references_in before) (slice_start s.context row covered x.info.quantiser) x.macroblocks) before.current;
    })
PaintsSlice s covered row old before (Err e) new now = (slice_at s covered row).read old ≡ Err (e.kind, e.left)
