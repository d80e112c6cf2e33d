-- What is known of what slices are read by, and of the state between two macroblocks of a slice.
use Rattle.std.specs.Prelude.{◌≡◌, ℕ, ◌+◌, ◌*◌, ◌/◌, ◌^◌, ◌<◌, ◌≤◌, ◌||◌, ◌⊎◌, true, false, IsTrue, Bool, nat_eq, List, [], ◌∷◌, All, slice_index_or, if◌then◌else◌, ℤ, pos, ◌-ℤ◌, ◌+ℤ◌, ◌<ℤ◌, ◌≤ℤ◌}
use Rattle.m2v_plane.specs.declared.dims.Dims.{Dims}
use Rattle.m2v_plane.specs.declared.planes.Plane.{Plane}
use Rattle.m2v_plane.specs.declared.planes.Lines.{Lines}
use Rattle.m2v_plane.specs.Sizes.{IsSize, lines_of}
use Rattle.m2v_plane.specs.Fields.{lines_there}
use Rattle.m2v_quant.specs.declared.kind.BlockKind.{BlockKind}
use Rattle.m2v_quant.specs.Kinds.{IsKind, IsLevel}
use Rattle.m2v_macroblock.specs.m2v_block.Blocks.{IsDc}
use Rattle.m2v_macro.specs.declared.values.MacroSyntax.{MacroSyntax}
use Rattle.m2v_macro.specs.declared.values.SliceState.{SliceState}
use Rattle.m2v_macro.specs.declared.values.PictureContext.{PictureContext}
use Rattle.m2v_macro.specs.Conditions.{IsReady, IsMacro}
pub use Rattle.m2v_macroblock.specs.Conditions.{IsMatrix, IsPicture, AreDc, last_dc}
use Rattle.m2v_model.specs.declared.setup.SliceSetup.{SliceSetup}
use Rattle.m2v_pred.specs.declared.mode.Mode.{Mode}
use Rattle.m2v_pred.specs.declared.mode.MbPlace.{MbPlace}
use Rattle.m2v_pred.specs.Vectors.{IsPlace}
use Rattle.m2v_pred.specs.Inside.{is_inside}
use Rattle.m2v_macroblock.specs.Macroblocks.{kind_for}
use Rattle.m2v_macroblock.specs.Modes.{address_of, skipped_before, first_skipped, mode_of}
use Rattle.m2v_model.specs.Modes.{is_decoded, all_inside, references_decoded}
use Rattle.m2v_dec_picture.specs.declared.basis.PictureBasis.{PictureBasis}
use Rattle.m2v_dec_picture.specs.declared.gap.Gap.{Gap}
use Rattle.m2v_dec_picture.specs.declared.located.Located.{Located}
use Rattle.m2v_dec_picture.specs.declared.slice_kinds.SliceKinds.{SliceKinds}

-- what the headers say can be, and the frame is as wide as the picture
pub record IsSetup (s : SliceSetup) : Type 0 where
  pub picture : IsPicture s.context
  pub size : IsSize s.dims
  pub columns : s.dims.mb_width ≡ s.context.columns

-- macroblock rows of the picture
abbrev pub rows_in : SliceSetup → ℕ
rows_in s = if nat_eq s.context.extension.structure 3 then s.dims.mb_rows else s.dims.mb_rows / 2

-- a view of a reference has the frame's size, and holds the lines of the fields that were decoded
pub record HoldsDecoded (s : SliceSetup) (size : Dims) (holds : Plane → Lines → ℕ → Type 0) (top bottom : Bool) : Type 0 where
  pub size_is : size ≡ s.dims
  pub lines : (plane : Plane) (which : Lines) (line : ℕ) → lines_there top bottom which ≡ true → line < lines_of s.dims plane which → holds plane which line

-- the views of the forward and the backward reference
abbrev pub HoldsForward : SliceSetup → Dims → (Plane → Lines → ℕ → Type 0) → Type 0
HoldsForward s size holds = HoldsDecoded s size holds (slice_index_or s.references 0 false) (slice_index_or s.references 1 false)

abbrev pub HoldsBackward : SliceSetup → Dims → (Plane → Lines → ℕ → Type 0) → Type 0
HoldsBackward s size holds = HoldsDecoded s size holds (slice_index_or s.references 2 false) (slice_index_or s.references 3 false)

-- both views of what a picture is decoded by do
abbrev pub HoldReferences : {V : Type 0} → (V → Dims) → (V → Plane → Lines → ℕ → Type 0) → PictureBasis V → Type 0
HoldReferences size holds b = HoldsForward b.setup.now (size b.forward.now) (holds b.forward.now) × HoldsBackward b.setup.now (size b.backward.now) (holds b.backward.now)

-- the address of a macroblock of the row
abbrev pub LiesInRow : PictureContext → ℕ → ℤ → Type 0
LiesInRow c row address = (column : ℕ) × (column < c.columns) × (address ≡ pos (row * c.columns + column))

-- the address before: that of the row's last macroblock so far, or at the slice's start that behind the row above
pub record IsBefore (c : PictureContext) (row : ℕ) (st : SliceState) : Type 0 where
  pub first : st.first ≡ true → st.address ≡ pos (row * c.columns) -ℤ pos 1
  pub later : st.first ≡ false → LiesInRow c row st.address
  pub end : row * c.columns + c.columns ≤ 2 ^ 16

-- the column of a macroblock that was read
pub record IsColumn (c : PictureContext) (row : ℕ) (st : SliceState) (m : MacroSyntax) (column : ℕ) : Type 0 where
  pub address : address_of st m ≡ row * c.columns + column
  pub below : column < c.columns

-- a state between two macroblocks of a slice in a row; a macroblock of a B picture that isn't intra has a direction, by
-- which those skipped behind it are predicted
pub record IsState (c : PictureContext) (row : ℕ) (st : SliceState) : Type 0 where
  pub ready : IsReady c st
  pub dc : AreDc c.extension.dc_precision st.dc
  pub place : IsBefore c row st
  pub next : st.next ≤ 2 ^ 16
  pub direction : c.kind ≡ 3 → st.first ≡ false → st.intra ≡ false → (st.forward || st.backward) ≡ true

-- a macroblock that was read, with those skipped before it: what they are predicted from lies inside its references and
-- was decoded
pub record CanPaint (s : SliceSetup) (st : SliceState) (m : MacroSyntax) : Type 0 where
  pub fits : IsMacro s.context st m
  pub inside : all_inside s st m ≡ true
  pub decoded : references_decoded s st m ≡ true

-- ---- blocks

-- what a macroblock's luma blocks and its chroma blocks are coded with, by the state behind its elements
pub record AreKinds (c : PictureContext) (m : MacroSyntax) (st : SliceState) (kinds : List BlockKind) : Type 0 where
  pub value : kinds ≡ kind_for c m.kind.intra true st.quantiser ∷ kind_for c m.kind.intra false st.quantiser ∷ []
  pub each : All IsKind kinds

-- the kinds of a slice's blocks are those of the quantiser code that is kept with them
pub record AreSliceKinds (c : PictureContext) (kinds : SliceKinds) : Type 0 where
  pub quantiser : (1 ≤ kinds.quantiser) × (kinds.quantiser ≤ 31)
  pub intra : kinds.intra ≡ kind_for c true true kinds.quantiser ∷ kind_for c true false kinds.quantiser ∷ []
  pub other : kinds.other ≡ kind_for c false true kinds.quantiser ∷ kind_for c false false kinds.quantiser ∷ []

-- the levels of a block of a macroblock are in their ranges
pub record AreFine (c : PictureContext) (m : MacroSyntax) (levels : List ℤ) : Type 0 where
  pub levels_are : All IsLevel levels
  pub dc : m.kind.intra ≡ true → IsDc c.extension.dc_precision (slice_index_or levels 0 (pos 0))

-- ---- predictions

-- a macroblock at a place can be predicted: it has a direction, it reads inside its references, and what it reads was
-- decoded
pub record CanPredict (s : SliceSetup) (mode : Mode) (at : MbPlace) : Type 0 where
  pub some : IsTrue mode.forward ⊎ IsTrue mode.backward
  pub place : IsPlace at s.dims
  pub inside : is_inside mode at s.dims ≡ true
  pub decoded : is_decoded s.references at.structure mode ≡ true

-- the place of a macroblock of the picture
abbrev pub place_in : SliceSetup → ℕ → ℕ → MbPlace
place_in s row column = record { row = row; column = column; structure = s.context.extension.structure }

-- all macroblocks of a row can be put
abbrev pub TakesRow : (MbPlace → Type 0) → SliceSetup → ℕ → Type 0
TakesRow takes s row = (column : ℕ) → column < s.context.columns → takes (place_in s row column)

-- the macroblocks of a row that are skipped before one that was read: their number and the column of the first
pub record IsGap (c : PictureContext) (row : ℕ) (st : SliceState) (m : MacroSyntax) (gap : Gap) : Type 0 where
  pub count : gap.count ≡ skipped_before st m
  pub first : 0 < gap.count → first_skipped st ≡ row * c.columns + gap.column
  pub within : 0 < gap.count → gap.column + gap.count < c.columns

-- a macroblock that was read, with its mode and where it and those skipped before it lie
pub record IsLocated (c : PictureContext) (row : ℕ) (st : SliceState) (x : Located) : Type 0 where
  pub fits : IsMacro c st x.syntax
  pub mode : x.mode ≡ mode_of c x.syntax
  pub gap : IsGap c row st x.syntax x.gap
  pub column : IsColumn c row st x.syntax x.column

-- ---- how many macroblocks are large

-- a macroblock more: addresses go on, and the first of a slice doesn't lie before the picture's next uncovered macroblock
pub record GoesOn (old new : SliceState) : Type 0 where
  pub further : old.address <ℤ new.address
  pub first : new.first ≡ false
  pub next : new.next ≡ old.next
  pub begins : old.first ≡ true → pos old.next ≤ℤ new.address

-- no more macroblocks of a slice are large than were read
pub record AreFew (uncovered : ℕ) (st : SliceState) (large : ℕ) : Type 0 where
  pub none : st.first ≡ true → large ≡ 0
  pub some : st.first ≡ false → pos (large + uncovered) ≤ℤ (st.address +ℤ pos 1)
  pub next : st.next ≡ uncovered
