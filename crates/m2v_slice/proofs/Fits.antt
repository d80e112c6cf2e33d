-- A slice is short enough, and each of its choices can be written.
use Rattle.std.proofs.Common.{◌≡◌, ℕ, suc, true, false, ◌+◌, ◌<◌, ◌++◌, length, refl, arith}
use Rattle.std.proofs.lemmas.List.{length-append}
use Rattle.m2v_bits.specs.Bits.{bits_of}
use Rattle.m2v_bits.proofs.Units.{unit_length, unit_edge}
use Rattle.m2v_head.specs.Texts.{slice_text, intra_slice_text}
use Rattle.m2v_plane.specs.Samples.{Samples, blank}
use Rattle.m2v_pred.specs.Vectors.{IsPlace}
use Rattle.m2v_choose.specs.Decisions.{place_of}
use Rattle.m2v_choose.specs.Choice.{choice_of}
use Rattle.m2v_choose.proofs.InsideLaws.{choice_inside}
use Rattle.m2v_slice.specs.Slices.{SliceTask, begun, decision, slice_info, slice_of}
use Rattle.m2v_slice.specs.Laws.{IsSlice, IsChosen, SliceFits}
use Rattle.m2v_slice.proofs.Choices.{choice_there}
use Rattle.m2v_slice.proofs.Keeps.{keeps_some, skip_where, fits_here, writable_here, limits_here}

pub header_length : (q : ℕ) → length (slice_text (slice_info q)) ≡ 6
unfolding slice_text intra_slice_text bits_of
header_length q = refl

module _ (t : SliceTask) (slice : IsSlice t) where
  pub place_here : (row : Samples) (n : ℕ) → n < t.context.columns → IsPlace (place_of (decision t (begun t row n) n)) t.source.dims
  unfolding decision
  place_here row n small = record { least = slice.own.structure.0; most = slice.own.structure.1; row = slice.row; column = omega (arith, small, slice.columns) }

  pub chosen : (row : Samples) (n : ℕ) → n < t.context.columns → IsChosen (decision t (begun t row n) n)
  unfolding decision
  chosen row n small =
      let s = begun t row n in
      let h = keeps_some t slice row n (omega (arith, small)) in
      record {
        fits = fits_here t slice n h.0 s h.1 small;
        writable = writable_here t slice n h.0 s h.1 small;
        inside = choice_inside (decision t s n) slice.own (limits_here t slice n h.0 s h.1 small) (λ moves. (slice.size, place_here row n small));
      }

  pub slice_fits : SliceFits t
  unfolding slice_of
  slice_fits =
      let n = t.context.columns in
      let s = begun t (blank t.source.dims 1) n in
      let h = keeps_some t slice (blank t.source.dims 1) n (omega arith) in
      let head = slice_text (slice_info t.q) in
      let six = header_length t.q in
      let len = length-append head s.text in
      let all = unit_length (t.row + 1) (head ++ s.text) in
      record {
        cap = omega (arith, all, len, six, h.1.room, h.1.covers refl, slice.edge);
        most = omega (arith, all, len, six, h.1.most);
        edge = unit_edge (t.row + 1) (head ++ s.text);
        work = omega (arith, all, len, six, h.1.work);
      }

  pub last_written : (row : Samples) (n : ℕ) → suc n ≡ t.context.columns → (choice_of (decision t (begun t row n) n)).skip ≡ false
  last_written row n last =
      let s = begun t row n in
      let small : n < t.context.columns = omega (arith, last) in
      let h = keeps_some t slice row n (omega (arith, last)) in
      let d = decision t s n in
      elim (choice_of d).skip as (λ b. (choice_of d).skip ≡ b → b ≡ false) [
        | true ↦ λ e. absurd (omega (arith, last, (skip_where t slice n h.0 s h.1 small ((choice_there d).skip e)).1.0))
        | false ↦ λ e. refl
      ] refl
