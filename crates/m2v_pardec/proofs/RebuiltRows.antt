-- A row of a batch that is rebuilt is what the decoder takes.
use Rattle.std.proofs.Common.{◌≡◌, ℕ, zero, suc, ◌+◌, ◌*◌, ◌<◌, List, [], ◌∷◌, Some, None, inl, inr, refl, sym, ap, subst, ◌∙◌, arith}
use Rattle.std.specs.Prelude.{nat_eq, slice_get, Ok, Err}
use Rattle.std.proofs.lemmas.Bool.{cases_Bool, eqb-true}
use Rattle.std.proofs.lemmas.List.{length-replicate}
use Rattle.m2v_plane.specs.declared.dims.Dims.{Dims}
use Rattle.m2v_plane.specs.declared.planes.Plane.{Plane}
use Rattle.m2v_plane.specs.Samples.{Samples, HasRows, blank, plane_with_square}
use Rattle.m2v_plane.proofs.RawVideo.{length-plane_by}
use Rattle.m2v_pred.specs.declared.mode.MbPlace.{MbPlace}
use Rattle.m2v_pred.specs.Predicted.{predicted}
use Rattle.m2v_macro.specs.declared.values.SliceState.{SliceState}
use Rattle.m2v_model.specs.m2v_macroblock.Macroblocks.{Macroblock, after_macroblock}
use Rattle.m2v_model.specs.m2v_macroblock.Modes.{place_of, address_of, skipped_before, first_skipped, skipped_mode}
use Rattle.m2v_model.specs.m2v_macroblock.Predictions.{prediction_of, sample_at}
use Rattle.m2v_model.specs.declared.setup.SliceSetup.{SliceSetup}
use Rattle.m2v_model.specs.Samples.{References, put_in_row, skipped_painted, own_painted, painted, all_painted}
use Rattle.m2v_model.specs.Slices.{slice_start}
use Rattle.m2v_model.specs.Pictures.{Store, references_by}
use Rattle.m2v_decode.specs.m2v_dec_rows.Rows.{Slices, Read, Begun, begun_painted, slices_painted, row_read}
use Rattle.m2v_decode.specs.m2v_dec_rows.Opened.{setup_of, slices_of}
use Rattle.m2v_dec_batch.specs.declared.picture.BatchPicture.{BatchPicture}
use Rattle.m2v_dec_batch.specs.declared.picture.Header.{Header}
use Rattle.m2v_dec_batch.specs.declared.pieces.DecodePiece.TheVariants.{Rebuilt}
use Rattle.m2v_dec_batch.specs.Jobs.{header_at, first_job}
use Rattle.m2v_dec_batch.specs.Batches.{Batch, headers, header_of, references, IsBatch}
use Rattle.m2v_dec_batch.specs.Pieces.{row_of, is_rebuilt}
use Rattle.m2v_dec_batch.specs.Values.{row_painted, value_of}
use Rattle.m2v_dec_batch.specs.Painted.{all_rows}
use Rattle.m2v_dec_batch.proofs.Sizes.{header_is}
use Rattle.m2v_dec_batch.proofs.PaintedRows.{row_at, whole_is}
use Rattle.m2v_decode.specs.Rebuilt.{IsRebuilt, refs_for}
use Rattle.m2v_pardec.specs.Behind.{Tracks, AreRebuilt}
use Rattle.m2v_pardec.proofs.IntraLaws.{row_same}
use Rattle.m2v_pardec.proofs.RowFrames.{references_are}

-- ---- sizes

-- samples of one row of a size
record IsRow (d : Dims) (s : Samples) : Type 0 where
  one : HasRows s 1
  dims : s.dims ≡ d

blank_row : (d : Dims) → IsRow d (blank d 1)
blank_row d = record {
  one = record { luma = length-replicate (16 * 1 * (16 * d.mb_width)) 0; cb = length-replicate (8 * 1 * (8 * d.mb_width)) 0; cr = length-replicate (8 * 1 * (8 * d.mb_width)) 0 };
  dims = refl;
}

put_row : (d : Dims) (at : MbPlace) (new : Plane → ℕ → ℕ → ℕ) (s : Samples) → IsRow d s → IsRow d (put_in_row at new s)
unfolding plane_with_square
put_row d at new s h = record {
  one = record { luma = length-plane_by (16 * 1) (16 * s.dims.mb_width) _; cb = length-plane_by (8 * 1) (8 * s.dims.mb_width) _; cr = length-plane_by (8 * 1) (8 * s.dims.mb_width) _ };
  dims = h.dims;
}

skipped_row : (d : Dims) (s : SliceSetup) (refs : References) (st : SliceState) (at n : ℕ) (now : Samples) → IsRow d now → IsRow d (skipped_painted put_in_row s refs st at n now)
unfolding skipped_painted
skipped_row d s refs st at zero now h = h
skipped_row d s refs st at (suc n) now h =
    let new = predicted refs.forward refs.backward (skipped_mode s.context st) (place_of s.context at) in
    skipped_row d s refs st (at + 1) n (put_in_row (place_of s.context at) new now) (put_row d (place_of s.context at) new now h)

all_row : (d : Dims) (s : SliceSetup) (refs : References) (st : SliceState) (xs : List Macroblock) (now : Samples) → IsRow d now → IsRow d (all_painted put_in_row s refs st xs now)
unfolding all_painted painted own_painted
all_row d s refs st [] now h = h
all_row d s refs st (x ∷ xs) now h =
    let place = place_of s.context (address_of st x.syntax) in
    let before = skipped_painted put_in_row s refs st (first_skipped st) (skipped_before st x.syntax) now in
    all_row d s refs (after_macroblock s.context st x) xs (painted put_in_row s refs st x now)
    (put_row d place (sample_at s.context st (prediction_of refs.forward refs.backward s.context place x.syntax) x) before
    (skipped_row d s refs st (first_skipped st) (skipped_before st x.syntax) now h))

slices_row : (d : Dims) (s : SliceSetup) (refs : References) (xs : List Begun) (now : Samples) → IsRow d now → IsRow d (slices_painted put_in_row s refs now xs)
unfolding slices_painted
slices_row d s refs [] now h = h
slices_row d s refs (x ∷ xs) now h = slices_row d s refs xs (begun_painted put_in_row s refs now x) (all_row d s refs (slice_start s.context x.row x.before x.slice.info.quantiser) x.slice.macroblocks now h)

painted_row : (s : SliceSetup) (refs : References) (r : Read) → IsRow s.dims (row_painted s refs r)
unfolding row_painted
painted_row s refs (Ok x) = slices_row s.dims s refs x.0 (blank s.dims 1) (blank_row s.dims)
painted_row s refs (Err f) = blank_row s.dims

-- ---- references

painted_ok : (s : SliceSetup) (refs : References) (r : Read) (xs : List Begun) (n : ℕ) → r ≡ Ok (xs, n) → row_painted s refs r ≡ slices_painted put_in_row s refs (blank s.dims 1) xs
unfolding row_painted
painted_ok s refs r xs n e = ap (row_painted s refs) e

-- a row that was read is painted by the frames at hand as by those of the batch
row_painted_same : (b : Batch) (p : ℕ) (store : Store) (s : SliceSetup) (h : Header) (row : ℕ) (us : Slices) (xs : List Begun) (end : ℕ) → Tracks b p store
    → header_at (headers b) p ≡ h → s.context.kind ≡ h.kind → row_read s row us ≡ Ok (xs, end)
    → slices_painted put_in_row s (references b (all_rows b) p) (blank s.dims 1) xs ≡ slices_painted put_in_row s (references_by h.kind h.second h.structure store) (blank s.dims 1) xs
row_painted_same b p store s h row us xs end tracks e kind read = elim (cases_Bool (nat_eq h.kind 1)) [
  | inl one ↦
      row_same put_in_row s (references b (all_rows b) p) (references_by h.kind h.second h.structure store) row us (blank s.dims 1) xs end (kind ∙ eqb-true h.kind 1 one) read
  | inr other ↦
      let are = references_are b p store tracks (ap (λ (y : Header). nat_eq y.kind 1) e ∙ other)
      ∙ ap (λ (y : Header). references_by y.kind y.second y.structure store) e in
      ap (λ (refs : References). slices_painted put_in_row s refs (blank s.dims 1) xs) are
]

-- ---- rows

some_same : (x y : Samples) → Some x ≡ Some y → x ≡ y
some_same x y e = cc e

-- a row that is rebuilt is what the decoder takes
pub row_rebuilt : (b : Batch) (p r : ℕ) (x : BatchPicture) (store : Store) (row : Samples) → IsBatch b → slice_get b.pictures p ≡ Some x → Tracks b p store → r < x.opened.rows
    → value_of b (first_job (headers b) p + r) ≡ Rebuilt row → IsRebuilt (refs_for x.opened store) x.piece x.opened r row
row_rebuilt b p r x store row h is tracks lt own =
    let s = setup_of x.opened in
    let us = slices_of x.piece x.opened in
    let refs = references b (all_rows b) p in
    let rebuilt = ap is_rebuilt own in
    let samples : row_painted s refs (row_read s r us) ≡ row = some_same _ row (sym (row_at b p x h is r lt rebuilt) ∙ ap row_of own) in
    let whole = subst (IsRow s.dims) samples (painted_row s refs (row_read s r us)) in
    record {
      fine = (whole_is b p x h is r lt rebuilt).none;
      one = whole.one;
      size = whole.dims;
      painted = λ xs read. (
        blank s.dims 1,
        (blank_row s.dims).one,
        refl,
        sym samples ∙ painted_ok s refs (row_read s r us) xs _ read
            ∙ row_painted_same b p store s (header_of x) r us xs _ tracks (header_is b p x is) refl read,
      );
    }

pub small_row : (b : Batch) (p r : ℕ) (x : BatchPicture) → slice_get b.pictures p ≡ Some x → r < x.opened.rows → r < (header_at (headers b) p).rows
small_row b p r x is lt = omega (arith, lt, ap (λ (y : Header). y.rows) (header_is b p x is))

-- all rows of a picture
pub rows_rebuilt : (b : Batch) (p : ℕ) (x : BatchPicture) (store : Store) (samples : ℕ → Samples) → IsBatch b → slice_get b.pictures p ≡ Some x → Tracks b p store → AreRebuilt b p samples
    → (r : ℕ) → r < x.opened.rows → IsRebuilt (refs_for x.opened store) x.piece x.opened r (samples r)
rows_rebuilt b p x store samples h is tracks each r lt = row_rebuilt b p r x store (samples r) h is tracks lt (each r (small_row b p r x is lt))

-- a picture of which a row is rebuilt has no fault of its headers
pub none_faulty : (b : Batch) (p r : ℕ) (x : BatchPicture) (row : Samples) → IsBatch b → slice_get b.pictures p ≡ Some x → r < x.opened.rows → value_of b (first_job (headers b) p + r) ≡ Rebuilt row → x.opened.fault ≡ None
none_faulty b p r x row h is lt own = (whole_is b p x h is r lt (ap is_rebuilt own)).headers_none
