-- What comes of each row, by those before it.
use Rattle.std.proofs.Common.{◌≡◌, ℕ, zero, suc, ◌+◌, ◌<◌, Bool, true, false, cond, List, [], ◌∷◌, length, Option, Some, None, refl, sym, ap, subst, ◌∙◌, arith, inl, inr}
use Rattle.std.specs.Prelude.{IfSome, slice_get, Ok, Err}
use Rattle.m2v_core.proofs.Made.{AreMade, made_count, made_is}
use Rattle.m2v_plane.specs.declared.dims.Dims.{Dims}
use Rattle.m2v_plane.specs.Samples.{Samples, blank}
use Rattle.m2v_macro.specs.declared.values.SliceState.{SliceState}
use Rattle.m2v_model.specs.m2v_macroblock.Macroblocks.{Macroblock, after_macroblock}
use Rattle.m2v_model.specs.declared.setup.SliceSetup.{SliceSetup}
use Rattle.m2v_model.specs.Samples.{References, put_in_row, skipped_painted, own_painted, painted, all_painted}
use Rattle.m2v_dec_piece.specs.declared.answer.Fault.{Fault}
use Rattle.m2v_dec_rows.specs.Rows.{Slices, Placed, Read, Begun, begun_painted, slices_painted, row_read, row_fault}
use Rattle.m2v_dec_rows.specs.Opened.{setup_of, slices_of, ending}
use Rattle.m2v_dec_batch.specs.declared.picture.BatchPicture.{BatchPicture}
use Rattle.m2v_dec_batch.specs.declared.pieces.DecodePiece.{DecodePiece}
use Rattle.m2v_dec_batch.specs.declared.pieces.DecodePiece.TheVariants.{Unread, After, Faulty, Rebuilt}
use Rattle.m2v_dec_batch.specs.Jobs.{picture_of_job, row_of_job, needs_of}
use Rattle.m2v_dec_batch.specs.Batches.{Batch, headers, references, IsBatch}
use Rattle.m2v_dec_batch.specs.Pieces.{row_of}
use Rattle.m2v_dec_batch.specs.Values.{row_painted, outcome_by, outcome_in, outcome_of, outcome_at, rows_of, are_rebuilt, next_outcome, decoded, value_of, FitsPiece}
use Rattle.m2v_dec_batch.proofs.Sizes.{at_picture}

decoded_made : (b : Batch) → AreMade (next_outcome b) (decoded b)
unfolding decoded
decoded_made b = record { none = refl; more = λ n. refl }

pub count : (b : Batch) (n : ℕ) → length (decoded b n) ≡ n
count b = made_count (decoded_made b)

piece_is : (b : Batch) (n j : ℕ) → j < n → outcome_at (decoded b n) j ≡ next_outcome b (decoded b j)
piece_is b = made_is (decoded_made b) After

-- each row is made of those before it
pub value_is : (b : Batch) (j : ℕ) → value_of b j ≡ next_outcome b (decoded b j)
value_is b j = piece_is b (j + 1) j (omega arith)

-- a row stays as it is when others are made behind it
pub value_stays : (b : Batch) (n j : ℕ) → j < n → outcome_at (decoded b n) j ≡ value_of b j
value_stays b n j lt = piece_is b n j lt ∙ sym (value_is b j)

-- what comes of row j where the rows before it are done
abbrev pub made : Batch → ℕ → List DecodePiece → DecodePiece
made b j done =
    let p = picture_of_job (headers b) j in
    cond (are_rebuilt done (needs_of (headers b) j)) (outcome_of (slice_get b.pictures p) (references b (rows_of done) p) (row_of_job (headers b) j)) After

pub value_made : (b : Batch) (j : ℕ) → value_of b j ≡ made b j (decoded b j)
unfolding next_outcome
value_made b j = value_is b j ∙ ap (λ (i : ℕ). made b i (decoded b j)) (count b j)

-- ---- values

-- what comes of a row isn't a blank piece, and has the batch's size
pub record IsMade (d : Dims) (p : DecodePiece) : Type 0 where
  pub read : (r : Dims) → p ≡ Unread r → ⊥
  pub size : IfSome (row_of p) (λ xs. xs.dims ≡ d)

after_made : (d : Dims) → IsMade d After
after_made d = record { read = λ xs e. absurd (cc e); size = tt }

faulty_made : (d : Dims) (f : Fault) → IsMade d (Faulty f)
faulty_made d f = record { read = λ xs e. absurd (cc e); size = tt }

rebuilt_made : (d : Dims) (xs : Samples) → xs.dims ≡ d → IsMade d (Rebuilt xs)
rebuilt_made d xs e = record { read = λ ys f. absurd (cc f); size = e }

skipped_size : (s : SliceSetup) (refs : References) (st : SliceState) (at n : ℕ) (now : Samples) → (skipped_painted put_in_row s refs st at n now).dims ≡ now.dims
unfolding skipped_painted
skipped_size s refs st at zero now = refl
skipped_size s refs st at (suc n) now = skipped_size s refs st (at + 1) n _

all_size : (s : SliceSetup) (refs : References) (st : SliceState) (xs : List Macroblock) (now : Samples) → (all_painted put_in_row s refs st xs now).dims ≡ now.dims
unfolding all_painted painted own_painted
all_size s refs st [] now = refl
all_size s refs st (x ∷ xs) now = all_size s refs (after_macroblock s.context st x) xs (painted put_in_row s refs st x now) ∙ skipped_size s refs st _ _ now

slices_size : (s : SliceSetup) (refs : References) (now : Samples) (xs : List Begun) → (slices_painted put_in_row s refs now xs).dims ≡ now.dims
unfolding slices_painted
slices_size s refs now [] = refl
slices_size s refs now (x ∷ xs) = slices_size s refs (begun_painted put_in_row s refs now x) xs ∙ all_size s refs _ x.slice.macroblocks now

painted_size : (s : SliceSetup) (refs : References) (r : Read) → (row_painted s refs r).dims ≡ s.dims
unfolding row_painted
painted_size s refs (Ok x) = slices_size s refs (blank s.dims 1) x.0
painted_size s refs (Err f) = refl

by_made : (s : SliceSetup) (refs : References) (row : ℕ) (us : Slices) (fault : Option Fault) (own : Option Placed) → IsMade s.dims (outcome_by s refs row us fault own)
unfolding outcome_by
by_made s refs row us fault (Some f) = faulty_made s.dims (record { kind = f.0; place = f.1 })
by_made s refs row us (Some e) None = after_made s.dims
by_made s refs row us None None = rebuilt_made s.dims (row_painted s refs (row_read s row us)) (painted_size s refs (row_read s row us))

in_made : (b : Batch) (x : BatchPicture) (refs : References) (row : ℕ) → x.opened.dims ≡ b.dims → IsMade b.dims (outcome_in x refs row)
unfolding outcome_in
in_made b x refs row e =
    let s = setup_of x.opened in
    let us = slices_of x.piece x.opened in
    subst (λ (d : Dims). IsMade d (outcome_by s refs row us x.opened.fault (row_fault s row us (ending x.piece x.opened)))) e
    (by_made s refs row us x.opened.fault (row_fault s row us (ending x.piece x.opened)))

of_made : (b : Batch) (p : ℕ) (o : Option BatchPicture) (refs : References) (row : ℕ) → IsBatch b → slice_get b.pictures p ≡ o → IsMade b.dims (outcome_of o refs row)
unfolding outcome_of
of_made b p None refs row h e = after_made b.dims
of_made b p (Some x) refs row h e = in_made b x refs row (at_picture (λ (y : BatchPicture). y.opened.dims ≡ b.dims) b p x h.sizes e)

pub value_fits : (b : Batch) (j : ℕ) → IsBatch b → IsMade b.dims (value_of b j)
value_fits b j h =
    let p = picture_of_job (headers b) j in
    let refs = references b (rows_of (decoded b j)) p in
    let row = row_of_job (headers b) j in
    let ready = are_rebuilt (decoded b j) (needs_of (headers b) j) in
    subst (IsMade b.dims) (sym (value_made b j)) (by_ready p refs row ready)
  where
    by_ready : (p : ℕ) (refs : References) (row : ℕ) (t : Bool) → IsMade b.dims (cond t (outcome_of (slice_get b.pictures p) refs row) After)
    by_ready p refs row true = of_made b p (slice_get b.pictures p) refs row h refl
    by_ready p refs row false = after_made b.dims

none_there : (p : DecodePiece) (r d : Dims) → p ≡ Unread r → IfSome (row_of p) (λ xs. xs.dims ≡ d)
none_there p r d e = subst (λ (q : DecodePiece). IfSome (row_of q) (λ xs. xs.dims ≡ d)) (sym e) tt

-- the row of a piece that fits has the batch's size
pub piece_size : (b : Batch) (j : ℕ) (p : DecodePiece) (d : Dims) → IsBatch b → d ≡ b.dims → FitsPiece b j p → IfSome (row_of p) (λ xs. xs.dims ≡ d)
piece_size b j p d h e (inl f) = none_there p b.dims d f
piece_size b j p d h e (inr f) =
    subst (λ (k : Dims). IfSome (row_of p) (λ xs. xs.dims ≡ k)) (sym e) (subst (λ (q : DecodePiece). IfSome (row_of q) (λ xs. xs.dims ≡ b.dims)) (sym f) (value_fits b j h).size)

room_of : DecodePiece → Dims → Dims
room_of (Unread r) d = r
room_of After d = d
room_of (Faulty f) d = d
room_of (Rebuilt xs) d = d

-- a piece that fits and wasn't read has room for a row of the batch's size
pub unread_room : (b : Batch) (j : ℕ) (p : DecodePiece) (r : Dims) → IsBatch b → p ≡ Unread r → FitsPiece b j p → r ≡ b.dims
unfolding room_of
unread_room b j p r h e (inl f) = ap (λ (q : DecodePiece). room_of q r) (sym e ∙ f)
unread_room b j p r h e (inr f) = absurd ((value_fits b j h).read r (sym f ∙ e))
