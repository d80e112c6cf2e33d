-- The slice of a task as a decoder reads it, and what the decoder must know to read it.
use Rattle.std.specs.Prelude.{ℕ, zero, suc, ◌≡◌, ◌≢◌, ◌+◌, ◌*◌, Bool, true, false, if◌then◌else◌, List, [], ◌∷◌, ◌++◌, length, slice_index_or}
use Rattle.m2v_bits.specs.Bits.{◌⧺◌}
use Rattle.m2v_plane.specs.Samples.{Samples, blank}
use Rattle.m2v_head.specs.Texts.{slice_text}
use Rattle.m2v_macroblock.specs.Texts.{macroblock_text}
use Rattle.m2v_slice.specs.m2v_choose.Choice.{choice_of}
use Rattle.m2v_slice.specs.Slices.{SliceTask, begun, decision, slice_info}
use Rattle.m2v_model.specs.declared.setup.SliceSetup.{SliceSetup}
use Rattle.m2v_model.specs.Slices.{Slice}

-- the text of a slice behind its start code, without the zero bits up to the byte's edge
abbrev pub slice_body : SliceTask → List Bool
slice_body t = slice_text (slice_info t.q) ⧺ (begun t (blank t.source.dims 1) t.context.columns).text

-- how many bits each macroblock has that is written, among the first n of a slice
unfoldable pub macroblock_bits : SliceTask → Samples → ℕ → List ℕ
macroblock_bits t row zero = []
macroblock_bits t row (suc n) =
    let s = begun t row n in
    let d = decision t s n in
    let x = choice_of d in
    if x.skip then macroblock_bits t row n
    else macroblock_bits t row n ++ length (macroblock_text d.context s.state x.macroblock) ∷ []

-- the slice as it is read
unfoldable pub slice_read : SliceTask → Slice
slice_read t =
    let row = blank t.source.dims 1 in
    record {
      info = slice_info t.q;
      macroblocks = (begun t row t.context.columns).macroblocks;
      bits = macroblock_bits t row t.context.columns;
      covered = (t.row + 1) * t.context.columns;
    }

-- what it is read by, where these fields of the references were decoded: forward top, forward bottom, backward top,
-- backward bottom
abbrev pub setup_of : SliceTask → List Bool → SliceSetup
setup_of t references = record { context = t.context; dims = t.source.dims; references = references }

-- the fields that a picture of this type may read were decoded
pub record AreDecoded (kind : ℕ) (references : List Bool) : Type 0 where
  pub forward_top : kind ≢ 1 → slice_index_or references 0 false ≡ true
  pub forward_bottom : kind ≢ 1 → slice_index_or references 1 false ≡ true
  pub backward_top : kind ≡ 3 → slice_index_or references 2 false ≡ true
  pub backward_bottom : kind ≡ 3 → slice_index_or references 3 false ≡ true
