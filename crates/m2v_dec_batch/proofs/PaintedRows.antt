-- The rows of a picture set into a frame, and its slices painted into the frame.
use Rattle.std.proofs.Common.{◌≡◌, ℕ, zero, suc, ◌+◌, ◌*◌, ◌<◌, ◌≤◌, Bool, true, false, cond, List, [], ◌∷◌, ◌++◌, length, Option, Some, None, refl, sym, ap, subst, ◌∙◌, arith}
use Rattle.std.specs.Prelude.{slice_get, Ok, Err}
use Rattle.std.proofs.lemmas.List.{length-replicate}
use Rattle.std.proofs.lemmas.Option.{slice_get_within}
use Rattle.m2v_plane.specs.declared.planes.Lines.{Lines}
use Rattle.m2v_plane.specs.Samples.{Samples, HasRows, with_row, plane_with_row, blank}
use Rattle.m2v_plane.proofs.RawVideo.{length-plane_by}
use Rattle.m2v_pred.specs.Motion.{own_lines}
use Rattle.m2v_model.specs.declared.setup.SliceSetup.{SliceSetup}
use Rattle.m2v_model.specs.Samples.{References, put_in_frame}
use Rattle.m2v_dec_rows.specs.m2v_dec_picture.Frames.{references_in}
use Rattle.m2v_dec_piece.specs.declared.answer.Fault.{Fault}
use Rattle.m2v_dec_rows.specs.Rows.{Slices, Placed, Read, Begun, first_of, slices_read, row_read, row_fault, begun_painted, slices_painted}
use Rattle.m2v_dec_rows.specs.Opened.{IsOpened, setup_of, slices_of, ending_by, ending}
use Rattle.m2v_dec_rows.proofs.OwnLaws.{row_end}
use Rattle.m2v_dec_rows.specs.ByRows.{AreOrdered}
use Rattle.m2v_dec_rows.specs.m2v_dec_picture.Conditions.{rows_in}
use Rattle.m2v_dec_rows.proofs.ByRowLaws.{row_whole, above, all_above, row_more, none_more}
use Rattle.m2v_dec_rows.proofs.Together.{row_together}
use Rattle.m2v_dec_batch.specs.declared.picture.BatchPicture.{BatchPicture}
use Rattle.m2v_dec_batch.specs.declared.picture.Header.{Header}
use Rattle.m2v_dec_batch.specs.declared.picture.FramePlace.{FramePlace}
use Rattle.m2v_dec_batch.specs.declared.picture.FramePlace.TheVariants.{Older, Newer, Waiting, Behind}
use Rattle.m2v_dec_batch.specs.declared.pieces.DecodePiece.{DecodePiece}
use Rattle.m2v_dec_batch.specs.declared.pieces.DecodePiece.TheVariants.{After}
use Rattle.m2v_dec_batch.specs.Jobs.{header_at, first_job, picture_of_job, row_of_job, needs_of, older_before, newer_before, first_field}
use Rattle.m2v_dec_batch.specs.Batches.{Batch, headers, Rows, with_own, rows_set, frame_at, reading_of, references, IsBatch}
use Rattle.m2v_dec_batch.specs.Below.{ComesBefore, older_comes, newer_comes, field_comes, first_more, first_upto}
use Rattle.m2v_dec_batch.specs.Pieces.{row_of, is_rebuilt}
use Rattle.m2v_dec_batch.specs.Values.{row_painted, outcome_by, outcome_in, outcome_of, rows_of, are_rebuilt, decoded, value_of}
use Rattle.m2v_dec_batch.specs.Painted.{all_rows, IsRebuilt, SetsRows}
use Rattle.m2v_dec_batch.proofs.Sizes.{header_is, count_is, at_picture, picture_found}
use Rattle.m2v_dec_batch.proofs.FrameRows.{frame_same}
use Rattle.m2v_dec_batch.proofs.Decoded.{value_made, value_stays}

-- ---- slices painted into a frame

-- slices that were read
abbrev read_painted : SliceSetup → References → Read → Samples → Samples
read_painted s refs (Ok x) frame = slices_painted put_in_frame s refs frame x.0
read_painted s refs (Err f) frame = frame

-- those of the first n rows, row by row
rows_painted : SliceSetup → References → Slices → ℕ → Samples → Samples
rows_painted s refs us zero frame = frame
rows_painted s refs us (suc n) frame = read_painted s refs (row_read s n us) (rows_painted s refs us n frame)

painted_append : (s : SliceSetup) (refs : References) (frame : Samples) (xs ys : List Begun) → slices_painted put_in_frame s refs frame (xs ++ ys) ≡ slices_painted put_in_frame s refs (slices_painted put_in_frame s refs frame xs) ys
unfolding slices_painted
painted_append s refs frame [] ys = refl
painted_append s refs frame (x ∷ xs) ys = painted_append s refs (begun_painted put_in_frame s refs frame x) xs ys

read_or : Read → List Begun
read_or (Ok x) = x.0
read_or (Err f) = []

same_slices : (xs ys : List Begun) (m n : ℕ) (r : Read) → r ≡ Ok (xs, m) → r ≡ Ok (ys, n) → xs ≡ ys
unfolding read_or
same_slices xs ys m n r e f = ap read_or (sym e ∙ f)

-- ---- references go by the rows before the picture

frame_below : (b : Batch) (at now : Rows) (p : ℕ) (x : FramePlace) → IsBatch b → ComesBefore p x → ((j : ℕ) → j < first_job (headers b) p → at j ≡ now j) → frame_at b at x ≡ frame_at b now x
unfolding ComesBefore frame_at
frame_below b at now p Older h lt agree = refl
frame_below b at now p Newer h lt agree = refl
frame_below b at now p Waiting h lt agree = refl
frame_below b at now p (Behind q) h lt agree =
    ap (λ (f : Samples). Some f) (frame_same b at now q h (λ j le end. agree j (omega (arith, end, first_upto (headers b) (suc q) p (omega (arith, lt))))))

references_below : (b : Batch) (at now : Rows) (p : ℕ) → IsBatch b → ((j : ℕ) → j < first_job (headers b) p → at j ≡ now j) → references b at p ≡ references b now p
references_below b at now p h agree =
    let hs = headers b in
    λ i. references_in (record {
      older = frame_below b at now p (older_before hs p) h (older_comes hs p) agree i;
      newer = frame_below b at now p (newer_before hs p) h (newer_comes hs p) agree i;
      current = None;
      first_field = frame_below b at now p (first_field p) h (field_comes p) agree i;
      reading = reading_of (header_at hs p);
    })

-- ---- a row that is rebuilt

pub record IsWhole (s : SliceSetup) (refs : References) (row : ℕ) (us : Slices) (fault : Option Fault) (own : Option Placed) (made : DecodePiece) : Type 0 where
  pub none : own ≡ None
  pub headers_none : fault ≡ None
  pub samples : row_of made ≡ Some (row_painted s refs (row_read s row us))

whole_by : (s : SliceSetup) (refs : References) (row : ℕ) (us : Slices) (fault : Option Fault) (own : Option Placed) → is_rebuilt (outcome_by s refs row us fault own) ≡ true → IsWhole s refs row us fault own (outcome_by s refs row us fault own)
unfolding outcome_by
whole_by s refs row us fault (Some f) e = absurd (cc e)
whole_by s refs row us (Some g) None e = absurd (cc e)
whole_by s refs row us None None e = record { none = refl; headers_none = refl; samples = refl }

module _ (b : Batch) (p : ℕ) (x : BatchPicture) (h : IsBatch b) (is : slice_get b.pictures p ≡ Some x) where
  abbrev s : SliceSetup
  s = setup_of x.opened

  abbrev us : Slices
  us = slices_of x.piece x.opened

  abbrev refs : References
  refs = references b (all_rows b) p

  abbrev job : ℕ → ℕ
  job r = first_job (headers b) p + r

  rows_is : (header_at (headers b) p).rows ≡ x.opened.rows
  rows_is = ap (λ (y : Header). y.rows) (header_is b p x is)

  picture_is : (r : ℕ) → r < x.opened.rows → picture_of_job (headers b) (job r) ≡ p
  picture_is r lt =
      picture_found (headers b) (length (headers b)) p (job r) (omega (arith, slice_get_within b.pictures p x is, count_is b)) (omega arith) (omega (arith, lt, rows_is, first_more (headers b) p))

  row_is : (r : ℕ) → r < x.opened.rows → row_of_job (headers b) (job r) ≡ r
  row_is r lt = omega (arith, ap (first_job (headers b)) (picture_is r lt))

  by_ready : (t : Bool) (made : DecodePiece) → is_rebuilt (cond t made After) ≡ true → cond t made After ≡ made
  by_ready true made e = refl
  by_ready false made e = absurd (cc e)

  -- the value of a row that is rebuilt
  made_is : (r : ℕ) → r < x.opened.rows → is_rebuilt (value_of b (job r)) ≡ true → value_of b (job r) ≡ outcome_in x refs r
  unfolding outcome_of
  made_is r lt e =
      let hs = headers b in
      let j = job r in
      let at = rows_of (decoded b j) in
      let made = outcome_of (slice_get b.pictures (picture_of_job hs j)) (references b at (picture_of_job hs j)) (row_of_job hs j) in
      let ready = are_rebuilt (decoded b j) (needs_of hs j) in
      let same = references_below b at (all_rows b) p h (λ i small. ap row_of (value_stays b j i (omega (arith, small)))) in
      value_made b j
      ∙ by_ready ready made (ap is_rebuilt (sym (value_made b j)) ∙ e)
      ∙ ap (λ (q : ℕ). outcome_of (slice_get b.pictures q) (references b at q) (row_of_job hs j)) (picture_is r lt)
      ∙ ap (λ (o : Option BatchPicture). outcome_of o (references b at p) (row_of_job hs j)) is
      ∙ ap (λ (k : ℕ). outcome_in x (references b at p) k) (row_is r lt)
      ∙ ap (λ (z : References). outcome_in x z r) same

  opened : IsOpened x.piece x.opened
  opened = at_picture (λ (y : BatchPicture). IsOpened y.piece y.opened) b p x h.opened is

  size : x.opened.dims ≡ b.dims
  size = at_picture (λ (y : BatchPicture). y.opened.dims ≡ b.dims) b p x h.sizes is

  pub whole_is : (r : ℕ) → r < x.opened.rows → is_rebuilt (value_of b (job r)) ≡ true → IsWhole s refs r us x.opened.fault (row_fault s r us (ending x.piece x.opened)) (outcome_in x refs r)
  unfolding outcome_in
  whole_is r lt e = whole_by s refs r us x.opened.fault (row_fault s r us (ending x.piece x.opened)) (ap is_rebuilt (sym (made_is r lt e)) ∙ e)

  blank_rows : HasRows (blank s.dims 1) 1
  blank_rows = record {
    luma = length-replicate (16 * 1 * (16 * s.dims.mb_width)) 0;
    cb = length-replicate (8 * 1 * (8 * s.dims.mb_width)) 0;
    cr = length-replicate (8 * 1 * (8 * s.dims.mb_width)) 0;
  }

  -- a row set into a frame
  row_set : (r : ℕ) (frame : Samples) → r < x.opened.rows → is_rebuilt (value_of b (job r)) ≡ true → HasRows frame frame.dims.mb_rows → frame.dims ≡ s.dims
      → with_row frame (own_lines s.context.extension.structure) r (row_painted s refs (row_read s r us)) ≡ read_painted s refs (row_read s r us) frame
  unfolding row_painted row_fault
  row_set r frame lt e whole same =
      let w = whole_is r lt e in
      let end = 8 * (x.piece.place + x.piece.length) in
      let fault : row_fault s r us (Some end) ≡ None = subst (λ (o : Option Fault). row_fault s r us (ending_by o end) ≡ None) w.headers_none w.none in
      let small = row_end s r opened.setup (subst (λ (n : ℕ). r < n) opened.rows lt) in
      let read = row_whole s r us end (row_read s r us) small refl fault in
      ap (λ (z : Read). with_row frame (own_lines s.context.extension.structure) r (row_painted s refs z)) read.1
      ∙ row_together s refs r us read.0 (blank s.dims 1) frame small opened.setup.columns blank_rows (sym same) whole same read.1
      ∙ ap (λ (z : Read). read_painted s refs z frame) (sym read.1)

  lines_is : own_lines (header_at (headers b) p).structure ≡ own_lines s.context.extension.structure
  lines_is = ap (λ (y : Header). own_lines y.structure) (header_is b p x is)

  pub row_at : (r : ℕ) → r < x.opened.rows → is_rebuilt (value_of b (job r)) ≡ true → all_rows b (job r) ≡ Some (row_painted s refs (row_read s r us))
  row_at r lt e = ap row_of (made_is r lt e) ∙ (whole_is r lt e).samples

  -- the first n rows
  record Goes (n : ℕ) (frame : Samples) : Type 0 where
    painted : rows_set (header_at (headers b) p) (all_rows b) (first_job (headers b) p) n frame ≡ rows_painted s refs us n frame
    whole : HasRows (rows_painted s refs us n frame) (rows_painted s refs us n frame).dims.mb_rows
    same : (rows_painted s refs us n frame).dims ≡ s.dims

  with_whole : (which : Lines) (r : ℕ) (frame xs : Samples) → HasRows (with_row frame which r xs) (with_row frame which r xs).dims.mb_rows
  unfolding plane_with_row
  with_whole which r frame xs = record {
    luma = length-plane_by (16 * frame.dims.mb_rows) (16 * frame.dims.mb_width) _;
    cb = length-plane_by (8 * frame.dims.mb_rows) (8 * frame.dims.mb_width) _;
    cr = length-plane_by (8 * frame.dims.mb_rows) (8 * frame.dims.mb_width) _;
  }

  goes : (n : ℕ) (frame : Samples) → n ≤ x.opened.rows → HasRows frame frame.dims.mb_rows → frame.dims ≡ s.dims → ((r : ℕ) → r < x.opened.rows → is_rebuilt (value_of b (job r)) ≡ true) → Goes n frame
  unfolding rows_set rows_painted
  goes zero frame le whole same each = record { painted = refl; whole = whole; same = same }
  goes (suc n) frame le whole same each =
      let before = goes n frame (omega (arith, le)) whole same each in
      let now = rows_painted s refs us n frame in
      let lt : n < x.opened.rows = omega (arith, le) in
      let y = header_at (headers b) p in
      let own = own_lines s.context.extension.structure in
      let xs = row_painted s refs (row_read s n us) in
      let set = row_set n now lt (each n lt) before.whole before.same in
      record {
        painted = ap (with_own y n (all_rows b (job n))) before.painted
            ∙ ap (λ (o : Option Samples). with_own y n o now) (row_at n lt (each n lt))
            ∙ ap (λ (l : Lines). with_row now l n xs) lines_is
            ∙ set;
        whole = subst (λ (f : Samples). HasRows f f.dims.mb_rows) set (with_whole own n now xs);
        same = ap (λ (f : Samples). f.dims) (sym set) ∙ before.same;
      }

  -- the slices of a row, which cover it
  row_slices : (r : ℕ) → r < x.opened.rows → is_rebuilt (value_of b (job r)) ≡ true → (ys : List Begun) × (row_read s r us ≡ Ok (ys, first_of s (r + 1)))
  unfolding row_fault
  row_slices r lt e =
      let w = whole_is r lt e in
      let end = 8 * (x.piece.place + x.piece.length) in
      let fault : row_fault s r us (Some end) ≡ None = subst (λ (o : Option Fault). row_fault s r us (ending_by o end) ≡ None) w.headers_none w.none in
      row_whole s r us end (row_read s r us) (row_end s r opened.setup (subst (λ (n : ℕ). r < n) opened.rows lt)) refl fault

  -- the slices of the first n rows, one behind another
  record Read_to (n : ℕ) (frame : Samples) : Type 0 where
    slices : List Begun
    read : slices_read s (Ok ([], 0)) (above n us) ≡ Ok (slices, first_of s n)
    painted : slices_painted put_in_frame s refs frame slices ≡ rows_painted s refs us n frame

  reads_to : (n : ℕ) (frame : Samples) → n ≤ x.opened.rows → AreOrdered 0 (rows_in s) us → IsRebuilt b p x → Read_to n frame
  unfolding rows_painted slices_painted
  reads_to zero frame le o each = record { slices = []; read = none_more s us; painted = refl }
  reads_to (suc n) frame le o each =
      let before = reads_to n frame (omega (arith, le)) o each in
      let lt : n < x.opened.rows = omega (arith, le) in
      let ys = row_slices n lt (each n lt) in
      let next : n + 1 ≡ suc n = omega arith in
      record {
        slices = before.slices ++ ys.0;
        read = subst (λ (k : ℕ). slices_read s (Ok ([], 0)) (above k us) ≡ Ok (before.slices ++ ys.0, first_of s k)) next (row_more s (rows_in s) n us before.slices ys.0 o before.read ys.1);
        painted = painted_append s refs frame before.slices ys.0
            ∙ ap (λ (f : Samples). slices_painted put_in_frame s refs f ys.0) before.painted
            ∙ ap (λ (z : Read). read_painted s refs z (rows_painted s refs us n frame)) (sym ys.1);
      }

  pub sets_rows : SetsRows b p x
  sets_rows = record {
    set = λ frame slices whole same each o read.
        let n = x.opened.rows in
        let all = reads_to n frame (omega arith) o each in
        let ends : above n us ≡ us = ap (λ (k : ℕ). above k us) opened.rows ∙ all_above 0 (rows_in s) us o in
        let are = same_slices all.slices slices (first_of s n) (first_of s (rows_in s)) (slices_read s (Ok ([], 0)) us) (ap (slices_read s (Ok ([], 0))) (sym ends) ∙ all.read) read in
        subst (λ (k : ℕ). rows_set (header_at (headers b) p) (all_rows b) (first_job (headers b) p) k frame ≡ rows_painted s refs us n frame) (sym rows_is) (goes n frame (omega arith) whole (same ∙ sym size) each).painted
        ∙ sym all.painted
        ∙ ap (slices_painted put_in_frame s refs frame) are;
  }
