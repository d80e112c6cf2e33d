-- A whole slice, begun with any row.
use Rattle.std.proofs.Common.{◌≡◌, ℕ, ◌+◌, List, Bool, ◌++◌, length, refl, ap, ◌∙◌, arith, append_assoc}
use Rattle.std.proofs.lemmas.List.{length-append, length-replicate}
use Rattle.m2v_bits.specs.Bits.{start_code, aligned}
use Rattle.m2v_bits.proofs.Units.{start_length}
use Rattle.m2v_head.specs.Texts.{slice_text}
use Rattle.m2v_plane.specs.Samples.{Samples, blank}
use Rattle.m2v_slice.specs.Slices.{SliceTask, Begun, slice_info, begun, slice_of}
use Rattle.m2v_slice.specs.Laws.{IsRow}
use Rattle.m2v_slice.proofs.Fits.{header_length}
use Rattle.m2v_slice.proofs.AnyRow.{same_begun}
use Rattle.m2v_slice.proofs.Columns.{row_dims}

pub header_long : (v q : ℕ) → length (start_code v ++ slice_text (slice_info q)) ≡ 38
header_long v q = omega (arith, length-append (start_code v) (slice_text (slice_info q)), start_length v, header_length q)

module _ (t : SliceTask) where
  blank_row : IsRow t (blank t.source.dims 1)
  blank_row = record {
    dims = refl;
    rows = record {
      luma = length-replicate _ 0;
      cb = length-replicate _ 0;
      cr = length-replicate _ 0;
    };
  }

  pub slice_dims : (slice_of t).row.dims ≡ t.source.dims
  unfolding slice_of
  slice_dims = row_dims t (blank t.source.dims 1) t.context.columns

  pub slice_text_is : (row : Samples) → IsRow t row → t.context.columns ≡ t.source.dims.mb_width
      → aligned ((start_code (t.row + 1) ++ slice_text (slice_info t.q)) ++ (begun t row t.context.columns).text) ≡ (slice_of t).text
  unfolding slice_of
  slice_text_is row is columns =
      let text = ap (λ (s : Begun). s.text) (same_begun t row (blank t.source.dims 1) is blank_row t.context.columns columns) in
      let start = start_code (t.row + 1) in
      let head = slice_text (slice_info t.q) in
      ap aligned (append_assoc start head (begun t row t.context.columns).text ∙ ap (λ (xs : List Bool). start ++ (head ++ xs)) text)

  pub slice_row_is : (row : Samples) → IsRow t row → t.context.columns ≡ t.source.dims.mb_width → (begun t row t.context.columns).row ≡ (slice_of t).row
  unfolding slice_of
  slice_row_is row is columns = ap (λ (s : Begun). s.row) (same_begun t row (blank t.source.dims 1) is blank_row t.context.columns columns)

  pub slice_work_is : (row : Samples) → IsRow t row → t.context.columns ≡ t.source.dims.mb_width → (begun t row t.context.columns).work ≡ (slice_of t).work
  unfolding slice_of
  slice_work_is row is columns = ap (λ (s : Begun). s.work) (same_begun t row (blank t.source.dims 1) is blank_row t.context.columns columns)
