-- The headers that have a spelling: each number fits its bits and isn't one that a reader refuses, and what a header
-- doesn't have is 0, false or None.
use Rattle.std.specs.Prelude.{ℕ, ◌≡◌, ◌≢◌, ◌<◌, ◌≤◌, ◌^◌, false, List, [], ◌∷◌, length, All, Option, IfSome, IfNone}
use Rattle.m2v_head.specs.declared.sequence.SequenceInfo.{SequenceInfo}
use Rattle.m2v_head.specs.declared.sequence.SequenceExtension.{SequenceExtension}
use Rattle.m2v_head.specs.declared.group.GroupInfo.{GroupInfo}
use Rattle.m2v_head.specs.declared.picture.PictureInfo.{PictureInfo}
use Rattle.m2v_head.specs.declared.picture.PictureExtension.{PictureExtension}
use Rattle.m2v_head.specs.declared.matrix.MatrixInfo.{MatrixInfo}
use Rattle.m2v_head.specs.declared.slice.SliceInfo.{SliceInfo}
use Rattle.m2v_head.specs.Texts.{f_code_of}

-- no number of a matrix is 0 (clause 6.3.11)
abbrev pub IsLoaded : Option (List ℕ) → Type 0
IsLoaded m = IfSome m (λ numbers. (length numbers ≡ 64) × All (λ x. (1 ≤ x) × (x < 2 ^ 8)) numbers)

pub record SequenceFits (s : SequenceInfo) : Type 0 where
  pub horizontal_size : s.horizontal_size < 2 ^ 12
  pub vertical_size : s.vertical_size < 2 ^ 12
  pub aspect : s.aspect < 2 ^ 4
  pub frame_rate_code : s.frame_rate_code < 2 ^ 4
  pub bit_rate : s.bit_rate < 2 ^ 18
  pub vbv_buffer_size : s.vbv_buffer_size < 2 ^ 10
  pub load_intra : IsLoaded s.load_intra
  pub load_non_intra : IsLoaded s.load_non_intra

-- the chroma format is 4:2:0
pub record SequenceExtensionFits (s : SequenceExtension) : Type 0 where
  pub profile_and_level : s.profile_and_level < 2 ^ 8
  pub chroma_format : s.chroma_format ≡ 1
  pub horizontal_ext : s.horizontal_ext < 2 ^ 2
  pub vertical_ext : s.vertical_ext < 2 ^ 2
  pub bit_rate_ext : s.bit_rate_ext < 2 ^ 12
  pub vbv_ext : s.vbv_ext < 2 ^ 8
  pub rate_n : s.rate_n < 2 ^ 2
  pub rate_d : s.rate_d < 2 ^ 5

pub record GroupFits (g : GroupInfo) : Type 0 where
  pub hours : g.hours < 2 ^ 5
  pub minutes : g.minutes < 2 ^ 6
  pub seconds : g.seconds < 2 ^ 6
  pub pictures : g.pictures < 2 ^ 6

-- an I picture has no f_code, a P picture no backward one
pub record PictureFits (p : PictureInfo) : Type 0 where
  pub temporal_reference : p.temporal_reference < 2 ^ 10
  pub kind : (1 ≤ p.kind) × (p.kind ≤ 3)
  pub vbv_delay : p.vbv_delay < 2 ^ 16
  pub forward_f_code : p.forward_f_code < 2 ^ 3
  pub backward_f_code : p.backward_f_code < 2 ^ 3
  pub forward : p.kind ≡ 1 → (p.full_pel_forward ≡ false) × (p.forward_f_code ≡ 0)
  pub backward : p.kind ≢ 3 → (p.full_pel_backward ≡ false) × (p.backward_f_code ≡ 0)

-- two directions of two components, each of four bits
pub record AreFCodes (f_code : List (List ℕ)) : Type 0 where
  pub shape : f_code ≡ (f_code_of f_code 0 0 ∷ f_code_of f_code 0 1 ∷ []) ∷ (f_code_of f_code 1 0 ∷ f_code_of f_code 1 1 ∷ []) ∷ []
  pub forward_horizontal : f_code_of f_code 0 0 < 2 ^ 4
  pub forward_vertical : f_code_of f_code 0 1 < 2 ^ 4
  pub backward_horizontal : f_code_of f_code 1 0 < 2 ^ 4
  pub backward_vertical : f_code_of f_code 1 1 < 2 ^ 4

pub record PictureExtensionFits (p : PictureExtension) : Type 0 where
  pub f_code : AreFCodes p.f_code
  pub dc_precision : p.dc_precision < 2 ^ 2
  pub structure : (1 ≤ p.structure) × (p.structure ≤ 3)
  pub composite : IfSome p.composite (λ display. display < 2 ^ 20)

pub record MatrixFits (m : MatrixInfo) : Type 0 where
  pub intra : IsLoaded m.intra
  pub non_intra : IsLoaded m.non_intra
  pub chroma_intra : IsLoaded m.chroma_intra
  pub chroma_non_intra : IsLoaded m.chroma_non_intra

pub record SliceFits (s : SliceInfo) : Type 0 where
  pub quantiser : (1 ≤ s.quantiser) × (s.quantiser ≤ 31)
  pub reserved : s.reserved < 2 ^ 7
  pub untold : IfNone s.intra_slice (s.reserved ≡ 0)
