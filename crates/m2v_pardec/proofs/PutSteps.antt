-- Pictures of a batch, taken in one after another.
use Rattle.std.proofs.Common.{◌≡◌, ℕ, zero, suc, ◌+◌, ◌*◌, ◌<◌, ◌≤◌, ◌^◌, false, List, ◌∷◌, ◌++◌, map, drop, length, Option, Some, sym, ap, subst, ◌∙◌, arith}
use Rattle.std.specs.Prelude.{slice_get, slice_index_or}
use Rattle.std.proofs.lemmas.List.{drop_more, drop_all}
use Rattle.std.proofs.lemmas.Option.{slice_get_within}
use Rattle.m2v_port.specs.Ends.{Change}
use Rattle.m2v_port.specs.Port.{Grows}
use Rattle.m2v_model.specs.declared.state.State.{State}
use Rattle.m2v_model.specs.ByPieces.{Between}
use Rattle.m2v_dec_batch.specs.m2v_dec_picture.Frames.{store_of}
use Rattle.m2v_dec_piece.specs.declared.answer.Piece.{Piece}
use Rattle.m2v_dec_piece.specs.declared.answer.DecodeError.{DecodeError}
use Rattle.m2v_dec_piece.specs.Sound.{IsSoundPiece}
use Rattle.m2v_dec_batch.specs.declared.pieces.DecodePiece.TheVariants.{Rebuilt}
use Rattle.m2v_dec_batch.specs.declared.picture.Header.{Header}
use Rattle.m2v_dec_batch.specs.declared.picture.BatchPicture.{BatchPicture}
use Rattle.m2v_dec_batch.specs.Jobs.{first_job, jobs_of}
use Rattle.m2v_dec_batch.specs.Batches.{Batch, headers, IsBatch}
use Rattle.m2v_dec_batch.specs.Below.{first_none, first_more, first_upto}
use Rattle.m2v_plane.specs.Fields.{or_none}
use Rattle.m2v_dec_batch.specs.Pieces.{row_of}
use Rattle.m2v_dec_batch.specs.Values.{value_of}
use Rattle.m2v_dec_batch.proofs.Sizes.{rows_are, batch_jobs, header_is, first_next}
use Rattle.m2v_pardec.specs.Behind.{Tracks, AreRebuilt}
use Rattle.m2v_pardec.proofs.NextFrames.{noted, tracks_next}
use Rattle.m2v_pardec.proofs.RebuiltRows.{rows_rebuilt}
use Rattle.m2v_decode.specs.Decoding.{Decoding, Onward, Refuses, due_of, whole_of}
use Rattle.m2v_decode.specs.Rebuilt.{IsRebuilt, refs_for, rows_set, frame_begun, frames_behind}
use Rattle.m2v_decode.specs.Progress.{raw_of, Cuts, HasPut}
use Rattle.m2v_pardec.specs.Ahead.{AreInOrder}
use Rattle.m2v_pardec.specs.Taken.{IsTold, AreTold, piece_of}
use Rattle.m2v_pardec.specs.Rows.{RowsFrom, AreThere, samples_at}
use Rattle.m2v_pardec.specs.Put.{CanTakeIn, TookIn, PutsTo, PutsAll, StopsBy, CountsTo, CountsOn, AreAllThere, TellsBehind}
use Rattle.m2v_pardec.proofs.PutLaws.{put_one, counted_one, refused_one, unwritten_one, puts_more, counts_more, stops_behind}
use Rattle.m2v_pardec.proofs.TakenLaws.{told_long, drop_at, are_told_same}

-- ---- jobs

first_small : (b : Batch) (p : ℕ) → IsBatch b → first_job (headers b) p ≤ 72 * p
first_small b zero h = omega (arith, first_none (headers b))
first_small b (suc p) h = omega (arith, first_more (headers b) p, (rows_are b p h).most, first_small b p h)

-- at most 16 pictures of 72 rows
pub jobs_small : (b : Batch) → IsBatch b → jobs_of (headers b) ≤ 1152
jobs_small b h = omega (arith, batch_jobs b h, first_small b (length b.pictures) h, h.few)

-- the rows of a picture have jobs
pub rows_within : (b : Batch) (p : ℕ) (x : BatchPicture) → IsBatch b → slice_get b.pictures p ≡ Some x → first_job (headers b) p + x.opened.rows ≤ jobs_of (headers b)
rows_within b p x h is =
    omega (
      arith,
      batch_jobs b h,
      first_next (headers b) p,
      ap (λ (y : Header). y.rows) (header_is b p x is),
      first_upto (headers b) (p + 1) (length b.pictures) (let lt = slice_get_within b.pictures p x is in omega (arith, lt)),
    )

-- ---- a picture that is taken in by its rows

each_rebuilt : (rows : RowsFrom) (p : ℕ) (x : BatchPicture) → slice_get rows.batch.pictures p ≡ Some x → rows.first ≡ first_job (headers rows.batch) p → AreThere rows x.opened.rows
    → AreRebuilt rows.batch p (samples_at rows)
each_rebuilt rows p x is first there = λ r lt.
    let small : r < x.opened.rows = omega (arith, lt, ap (λ (y : Header). y.rows) (header_is rows.batch p x is)) in
    subst (λ (j : ℕ). value_of rows.batch (j + r) ≡ Rebuilt (samples_at rows r)) first (there r small).1

-- they are what the decoder takes
pub rows_taken : (d : Decoding) (x : BatchPicture) (after : State) (rows : RowsFrom) → CanTakeIn d x after rows → AreThere rows x.opened.rows
    → (r : ℕ) → r < x.opened.rows → IsRebuilt (refs_for x.opened (store_of d.frames)) x.piece x.opened r (samples_at rows r)
rows_taken d x after rows can there = rows_rebuilt rows.batch can.p x (store_of d.frames) (samples_at rows) can.batch can.is can.tracks (each_rebuilt rows can.p x can.is can.first there)

pub took_in : (d m : Decoding) (x : BatchPicture) (after : State) (rows : RowsFrom) → CanTakeIn d x after rows → AreThere rows x.opened.rows → m.state ≡ record after { headers_only = false }
    → store_of m.frames ≡ frames_behind x.opened (rows_set x.opened.context.extension.structure (samples_at rows) x.opened.rows (frame_begun x.opened d.frames.current)) (store_of d.frames)
    → TookIn d x after rows m
took_in d m x after rows can there state frames = record {
  state = state;
  tracks = λ p is first tracks.
      subst (Tracks rows.batch (p + 1)) (sym frames)
      (tracks_next rows.batch p x (store_of d.frames) (samples_at rows) can.batch is (noted d.state after x.piece x.opened can.told.told) tracks (each_rebuilt rows p x is first there));
}

-- ---- the picture at a place

-- the state behind it is there
pub after_there : (st : State) (xs : List BatchPicture) (ss : List State) (n : ℕ) (x : BatchPicture) → AreTold st xs ss → slice_get xs n ≡ Some x → n < length ss
after_there st xs ss n x told is = omega (arith, told_long st xs ss told, slice_get_within xs n x is)

told_at : (st : State) (xs : List BatchPicture) (ss : List State) (n : ℕ) (x : BatchPicture) (a : State) → slice_get xs n ≡ Some x → n < length ss → AreTold st (drop n xs) (drop n ss)
    → IsTold st x (slice_index_or ss n a) × AreTold (slice_index_or ss n a) (drop (n + 1) xs) (drop (n + 1) ss)
told_at st xs ss n x a is lt told =
    subst (λ (l : List State). AreTold st (x ∷ drop (n + 1) xs) l) (drop_more ss n a lt) (subst (λ (l : List BatchPicture). AreTold st l (drop n ss)) (drop_at xs n x is) told)

-- its piece comes next
pub next_sound : (xs : List BatchPicture) (n : ℕ) (x : BatchPicture) (ps : List Piece) (d m : Decoding) → slice_get xs n ≡ Some x → CountsTo ps d (map piece_of (drop n xs)) m → ((high : ℕ) × (high ≤ 2 ^ 36) × AreInOrder d.pictures ps high)
    → (m.pictures ≤ x.piece.place) × IsSoundPiece x.piece
next_sound xs n x ps d m is counts order =
    let at = subst (λ (l : List BatchPicture). CountsTo ps d (map piece_of l) m) (drop_at xs n x is) counts order.0 order.2 in
    (at.0, at.1)

abbrev pub rows_from : Batch → ℕ → RowsFrom
rows_from b first = record { batch = b; first = first }

pub can_take : (d : Decoding) (b done : Batch) (ss : List State) (n first : ℕ) (x : BatchPicture) (a : State) (rows : RowsFrom) → rows ≡ rows_from done first → done ≡ b → first ≡ first_job (headers b) n → IsBatch b
    → slice_get b.pictures n ≡ Some x → n < length ss → AreTold d.state (drop n b.pictures) (drop n ss) → Tracks b n (store_of d.frames) → CanTakeIn d x (slice_index_or ss n a) rows
can_take d b done ss n first x a rows e of at h is lt told tracks =
    subst (CanTakeIn d x (slice_index_or ss n a)) (sym (e ∙ ap (λ (y : Batch). rows_from y first) of)) (record {
      p = n;
      batch = h;
      is = is;
      first = at;
      told = (told_at d.state b.pictures ss n x a is lt told).0;
      tracks = tracks;
    })

-- ---- a picture was decoded, and the frames due then written

pub puts_next : (xs : List BatchPicture) (n : ℕ) (x : BatchPicture) (ps : List Piece) (d m t z : Decoding) (h1 h2 h3 : Option (List ℕ)) → slice_get xs n ≡ Some x → PutsTo ps d h1 (map piece_of (drop n xs)) m h2
    → Onward m x.piece.place (whole_of x.piece) t → HasPut t z → Grows h2 (raw_of (due_of t)) h3 → PutsTo ps d h1 (map piece_of (drop (n + 1) xs)) z h3
puts_next xs n x ps d m t z h1 h2 h3 is puts a put grown =
    puts_more ps (map piece_of (drop (n + 1) xs)) x.piece d m z h1 h2 h3
    (subst (λ (l : List BatchPicture). PutsTo ps d h1 (map piece_of l) m h2) (drop_at xs n x is) puts)
    (put_one m t z x.piece h2 h3 a put grown)

pub counts_next : (xs : List BatchPicture) (n : ℕ) (x : BatchPicture) (ps : List Piece) (d m t z : Decoding) → slice_get xs n ≡ Some x → IsSoundPiece x.piece → CountsTo ps d (map piece_of (drop n xs)) m
    → Onward m x.piece.place (whole_of x.piece) t → HasPut t z → CountsTo ps d (map piece_of (drop (n + 1) xs)) z
counts_next xs n x ps d m t z is sound counts a put =
    counts_more ps (map piece_of (drop (n + 1) xs)) x.piece d m z
    (subst (λ (l : List BatchPicture). CountsTo ps d (map piece_of l) m) (drop_at xs n x is) counts)
    (counted_one m t z x.piece sound a put)

pub told_next : (xs : List BatchPicture) (ss : List State) (n : ℕ) (x : BatchPicture) (a : State) (d t z : Decoding) (rows : RowsFrom) → slice_get xs n ≡ Some x → n < length ss → AreTold d.state (drop n xs) (drop n ss)
    → TookIn d x (slice_index_or ss n a) rows t → HasPut t z → AreTold z.state (drop (n + 1) xs) (drop (n + 1) ss)
told_next xs ss n x a d t z rows is lt told took put =
    subst (λ (s : State). AreTold s (drop (n + 1) xs) (drop (n + 1) ss)) (sym (ap (λ (b : Between). b.state) put.between_is ∙ took.state))
    (are_told_same (slice_index_or ss n a) false (drop (n + 1) xs) (drop (n + 1) ss) (told_at d.state xs ss n x a is lt told).1)

-- what is told of pictures behind a batch, once the first n were taken in
abbrev pub TellsBy : State → List BatchPicture → List State → ℕ → State → Type 0
TellsBy st xs ss n now = (ys : List BatchPicture) (zs : List State) → AreTold st (xs ++ ys) (ss ++ zs) → AreTold now (drop n xs ++ ys) (drop n ss ++ zs)

pub behind_next : (st : State) (xs : List BatchPicture) (ss : List State) (n : ℕ) (x : BatchPicture) (a : State) (d t z : Decoding) (rows : RowsFrom) → slice_get xs n ≡ Some x → n < length ss → TellsBy st xs ss n d.state
    → TookIn d x (slice_index_or ss n a) rows t → HasPut t z → TellsBy st xs ss (n + 1) z.state
behind_next st xs ss n x a d t z rows is lt by took put = λ ys zs told.
    let here =
    subst (λ (l : List State). AreTold d.state (x ∷ (drop (n + 1) xs ++ ys)) (l ++ zs)) (drop_more ss n a lt)
    (subst (λ (l : List BatchPicture). AreTold d.state (l ++ ys) (drop n ss ++ zs)) (drop_at xs n x is) (by ys zs told)) in
    subst (λ (s : State). AreTold s (drop (n + 1) xs ++ ys) (drop (n + 1) ss ++ zs)) (sym (ap (λ (b : Between). b.state) put.between_is ∙ took.state))
    (are_told_same (slice_index_or ss n a) false (drop (n + 1) xs ++ ys) (drop (n + 1) ss ++ zs) here.1)

pub behind_done : (st : State) (xs : List BatchPicture) (ss : List State) (n : ℕ) (now : State) → AreTold st xs ss → length xs ≤ n → TellsBy st xs ss n now → TellsBehind st xs ss now
behind_done st xs ss n now all le by = λ ys zs told.
    subst (λ (l : List BatchPicture). AreTold now (l ++ ys) zs) (drop_all n xs le)
    (subst (λ (l : List State). AreTold now (drop n xs ++ ys) (l ++ zs)) (drop_all n ss (omega (arith, le, told_long st xs ss all))) (by ys zs told))

pub all_there : (b done : Batch) (rows : RowsFrom) (n : ℕ) → rows ≡ rows_from done 0 → done ≡ b → n ≡ jobs_of (headers b) → AreThere rows n → AreAllThere b
all_there b done rows n e of count there =
    subst (λ (k : ℕ). AreThere (rows_from b 0) k) count (subst (λ (r : RowsFrom). AreThere r n) (e ∙ ap (λ (y : Batch). rows_from y 0) of) there)

-- all rows are there, so those of a picture are
pub picture_there : (b done : Batch) (n first : ℕ) (x : BatchPicture) (rows : RowsFrom) → rows ≡ rows_from done first → done ≡ b → first ≡ first_job (headers b) n → IsBatch b → slice_get b.pictures n ≡ Some x → AreAllThere b → AreThere rows x.opened.rows
picture_there b done n first x rows e of at h is all =
    subst (λ (r : RowsFrom). AreThere r x.opened.rows) (sym (e ∙ ap (λ (y : Batch). rows_from y first) of))
    (λ r lt.
    let within : first + r < jobs_of (headers b) = omega (arith, lt, at, rows_within b n x h is) in
    let place : 0 + (first + r) ≡ first + r = omega arith in
    subst (λ (k : ℕ). (k < jobs_of (headers b)) × (value_of b k ≡ Rebuilt (or_none (row_of (value_of b k))))) place (all (first + r) within))

pub tracks_on : (b done : Batch) (n first : ℕ) (x : BatchPicture) (after : State) (d t z : Decoding) (rows : RowsFrom) → rows ≡ rows_from done first → done ≡ b → first ≡ first_job (headers b) n
    → slice_get b.pictures n ≡ Some x → Tracks b n (store_of d.frames) → TookIn d x after rows t → HasPut t z → Tracks b (n + 1) (store_of z.frames)
tracks_on b done n first x after d t z rows e of at is tracks took put =
    let own : TookIn d x after (rows_from b first) t = subst (λ (r : RowsFrom). TookIn d x after r t) (e ∙ ap (λ (y : Batch). rows_from y first) of) took in
    subst (Tracks b (n + 1)) (sym (ap (λ (y : Between). y.store) put.between_is)) (own.tracks n is at tracks)

-- ---- where it stops

pub refused_at : (failed : Type 0) (xs : List BatchPicture) (n : ℕ) (x : BatchPicture) (ps : List Piece) (d m : Decoding) (h1 h2 : Option (List ℕ)) (e : DecodeError) → slice_get xs n ≡ Some x → IsSoundPiece x.piece
    → PutsTo ps d h1 (map piece_of (drop n xs)) m h2 → Refuses m x.piece.place (whole_of x.piece) e → StopsBy failed ps d h1 h2 e
refused_at failed xs n x ps d m h1 h2 e is sound puts why =
    stops_behind failed failed ps (map piece_of (drop (n + 1) xs)) x.piece d m h1 h2 h2 e (λ f. f)
    (subst (λ (l : List BatchPicture). PutsTo ps d h1 (map piece_of l) m h2) (drop_at xs n x is) puts)
    (refused_one failed m x.piece h2 e sound why)

pub unwritten_at : (failed : Type 0) (xs : List BatchPicture) (n : ℕ) (x : BatchPicture) (ps : List Piece) (d m t : Decoding) (h1 : Option (List ℕ)) (out : Change) (e : DecodeError) → (out.Failed → failed) → slice_get xs n ≡ Some x
    → PutsTo ps d h1 (map piece_of (drop n xs)) m out.old → Onward m x.piece.place (whole_of x.piece) t → Cuts (raw_of (due_of t)) out e → StopsBy failed ps d h1 out.new e
unwritten_at failed xs n x ps d m t h1 out e rose is puts a cut =
    stops_behind failed failed ps (map piece_of (drop (n + 1) xs)) x.piece d m h1 out.old out.new e (λ f. f)
    (subst (λ (l : List BatchPicture). PutsTo ps d h1 (map piece_of l) m out.old) (drop_at xs n x is) puts)
    (unwritten_one failed m t x.piece out e rose a cut)

-- ---- all of them

pub puts_done : (xs : List BatchPicture) (n : ℕ) (ps : List Piece) (d m : Decoding) (h1 h2 : Option (List ℕ)) → length xs ≤ n → PutsTo ps d h1 (map piece_of (drop n xs)) m h2 → PutsAll ps d h1 m h2
puts_done xs n ps d m h1 h2 le puts = subst (λ (l : List BatchPicture). PutsTo ps d h1 (map piece_of l) m h2) (drop_all n xs le) puts

pub counts_done : (xs : List BatchPicture) (n : ℕ) (ps : List Piece) (d m : Decoding) → length xs ≤ n → CountsTo ps d (map piece_of (drop n xs)) m → CountsOn ps d m
counts_done xs n ps d m le counts = subst (λ (l : List BatchPicture). CountsTo ps d (map piece_of l) m) (drop_all n xs le) counts
