-- The rows of a picture, each read by itself, set into a frame one after another.
use Rattle.std.proofs.Common.{◌≡◌, ℕ, zero, suc, ◌+◌, ◌*◌, ◌<◌, List, [], ◌∷◌, ◌++◌, refl, ap, sym, subst, ◌∙◌, arith}
use Rattle.std.specs.Prelude.{Some, None, Ok}
use Rattle.m2v_plane.specs.declared.planes.Lines.{Lines}
use Rattle.m2v_plane.specs.Samples.{Samples, HasRows, plane_with_row, with_row}
use Rattle.m2v_plane.proofs.RawVideo.{length-plane_by}
use Rattle.m2v_pred.specs.Motion.{own_lines}
use Rattle.m2v_model.specs.declared.setup.SliceSetup.{SliceSetup}
use Rattle.m2v_model.specs.Samples.{References, Put, put_in_frame}
use Rattle.m2v_dec_picture.specs.Conditions.{IsSetup, rows_in}
use Rattle.m2v_dec_rows.specs.Rows.{Slices, Begun, begun_painted, slices_read, first_of, own, row_read, row_fault, slices_painted}
use Rattle.m2v_dec_rows.specs.ByRows.{AreOrdered, picture_read}
use Rattle.m2v_dec_rows.specs.InFrames.{rows_set, IsRowPainted, RowsInFrame}
use Rattle.m2v_dec_rows.proofs.OwnLaws.{row_end}
use Rattle.m2v_dec_rows.proofs.WholeRow.{same_read}
use Rattle.m2v_dec_rows.proofs.ByRowLaws.{with_front, above, above_next, all_above, row_whole, reached, none_first}
use Rattle.m2v_dec_rows.proofs.Together.{row_together}

-- ---- the size of a frame stays

row_sized : (frame : Samples) (which : Lines) (r : ℕ) (new : Samples) → HasRows (with_row frame which r new) frame.dims.mb_rows
unfolding plane_with_row
row_sized frame which r new = record {
  luma = length-plane_by (16 * frame.dims.mb_rows) (16 * frame.dims.mb_width) _;
  cb = length-plane_by (8 * frame.dims.mb_rows) (8 * frame.dims.mb_width) _;
  cr = length-plane_by (8 * frame.dims.mb_rows) (8 * frame.dims.mb_width) _;
}

pub set_dims : (structure : ℕ) (row : ℕ → Samples) (n : ℕ) (frame : Samples) → (rows_set structure row n frame).dims ≡ frame.dims
unfolding rows_set
set_dims structure row zero frame = refl
set_dims structure row (suc n) frame = set_dims structure row n frame

pub set_sized : (structure : ℕ) (row : ℕ → Samples) (n : ℕ) (frame : Samples) → HasRows frame frame.dims.mb_rows → HasRows (rows_set structure row n frame) (rows_set structure row n frame).dims.mb_rows
unfolding rows_set
set_sized structure row zero frame h = h
set_sized structure row (suc n) frame h = row_sized (rows_set structure row n frame) (own_lines structure) n (row n)

-- ---- row after row

painted_append : (put : Put) (s : SliceSetup) (refs : References) (now : Samples) (xs ys : List Begun)
    → slices_painted put s refs now (xs ++ ys) ≡ slices_painted put s refs (slices_painted put s refs now xs) ys
unfolding slices_painted
painted_append put s refs now [] ys = refl
painted_append put s refs now (x ∷ xs) ys = painted_append put s refs (begun_painted put s refs now x) xs ys

-- the first rows are set: the slices above the row below them are painted
record Built (s : SliceSetup) (refs : References) (us : Slices) (row : ℕ → Samples) (frame : Samples) (n : ℕ) : Type 0 where
  slices : List Begun
  read : slices_read s (Ok ([], 0)) (above n us) ≡ Ok (slices, first_of s n)
  frame_is : rows_set s.context.extension.structure row n frame ≡ slices_painted put_in_frame s refs frame slices

built_first : (s : SliceSetup) (refs : References) (us : Slices) (row : ℕ → Samples) (frame : Samples) → Built s refs us row frame 0
unfolding rows_set slices_painted slices_read
built_first s refs us row frame =
    let none : 0 ≡ first_of s 0 = omega arith in
    record { slices = []; read = ap (slices_read s (Ok ([], 0))) (none_first us) ∙ ap (λ (n : ℕ). Ok ([], n)) none; frame_is = refl }

module _ (s : SliceSetup) (refs : References) (us : Slices) (end : ℕ) (is : IsSetup s) (o : AreOrdered 0 (rows_in s) us) (row : ℕ → Samples) (frame : Samples)
    (sized : HasRows frame frame.dims.mb_rows) (same : frame.dims ≡ s.dims) (fine : (r : ℕ) → r < rows_in s → row_fault s r us (Some end) ≡ None)
    (painted : (r : ℕ) → r < rows_in s → IsRowPainted s refs us r (row r)) where
  abbrev structure : ℕ
  structure = s.context.extension.structure

  abbrev so_far : ℕ → Samples
  so_far n = rows_set structure row n frame

  built_next : (n : ℕ) → n < rows_in s → Built s refs us row frame n → Built s refs us row frame (suc n)
  unfolding row_fault with_front rows_set
  built_next n lt h =
      let whole = row_whole s n us end (row_read s n us) (row_end s n is lt) refl (fine n lt) in
      let ys = whole.0 in
      let p = painted n lt ys whole.1 in
      let now = so_far n in
      let dims : now.dims ≡ frame.dims = set_dims structure row n frame in
      let read : slices_read s (Ok ([], 0)) (above (n + 1) us) ≡ Ok (h.slices ++ ys, first_of s (n + 1)) =
      ap (slices_read s (Ok ([], 0))) (above_next 0 (rows_in s) n us o) ∙ reached s n us (own n us) (h.slices, h.read) ∙ ap (with_front h.slices) whole.1 in
      let set = row_together s refs n us ys p.0 now (row_end s n is lt) is.columns p.1 (p.2 ∙ sym same ∙ sym dims) (set_sized structure row n frame sized) (dims ∙ same) whole.1 in
      record {
        slices = h.slices ++ ys;
        read = subst (λ (k : ℕ). slices_read s (Ok ([], 0)) (above k us) ≡ Ok (h.slices ++ ys, first_of s k)) (omega arith) read;
        frame_is =
            ap (with_row now (own_lines structure) n) p.3
            ∙ set
            ∙ ap (λ (f : Samples). slices_painted put_in_frame s refs f ys) h.frame_is
            ∙ sym (painted_append put_in_frame s refs frame h.slices ys);
      }

  built : (n : ℕ) → ((r : ℕ) → r < n → r < rows_in s) → Built s refs us row frame n
  built zero lt = built_first s refs us row frame
  built (suc n) lt = built_next n (lt n (omega arith)) (built n (λ r less. lt r (omega (arith, less))))

  pub all_set : (xs : List Begun) → picture_read s us ≡ Ok (xs, first_of s (rows_in s)) → so_far (rows_in s) ≡ slices_painted put_in_frame s refs frame xs
  all_set xs read =
      let h = built (rows_in s) (λ r less. less) in
      let own_read = ap (slices_read s (Ok ([], 0))) (sym (all_above 0 (rows_in s) us o)) ∙ h.read in
      h.frame_is ∙ ap (slices_painted put_in_frame s refs frame) (same_read h.slices xs (first_of s (rows_in s)) (first_of s (rows_in s)) (picture_read s us) own_read read).0

pub rows_in_frame : (s : SliceSetup) (refs : References) (us : Slices) (end : ℕ) → IsSetup s → AreOrdered 0 (rows_in s) us → RowsInFrame s refs us end
rows_in_frame s refs us end is o = record {
  set = λ row xs frame sized same fine painted read. all_set s refs us end is o row frame sized same fine painted xs read;
}
