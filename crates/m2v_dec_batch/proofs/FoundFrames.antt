-- The references of a picture, as a cache has them.
use Rattle.std.proofs.Common.{◌≡◌, ℕ, ◌<◌, ◌≤◌, Bool, true, false, ◌&&◌, not, cond, nat_eq, List, length, Option, Some, None, refl, sym, ap, subst, ◌∙◌, arith, inl, inr}
use Rattle.std.specs.Prelude.{IsSome, IfSome, slice_get}
use Rattle.std.proofs.lemmas.Bool.{cond_both, eqb-true, cond-true, cond-false}
use Rattle.m2v_plane.specs.Samples.{Samples}
use Rattle.m2v_model.specs.States.{is_b}
use Rattle.m2v_model.specs.Samples.{References}
use Rattle.m2v_dec_rows.specs.m2v_dec_picture.declared.gallery.Reading.{Reading}
use Rattle.m2v_dec_rows.specs.m2v_dec_picture.Frames.{references_at, forward_top, forward_bottom, backward_frame, HasReferences}
use Rattle.m2v_dec_rows.proofs.m2v_dec_picture.FrameLaws.{references_are, both_shown}
use Rattle.m2v_dec_batch.specs.declared.picture.Header.{Header}
use Rattle.m2v_dec_batch.specs.declared.picture.FramePlace.{FramePlace}
use Rattle.m2v_dec_batch.specs.declared.picture.FramePlace.TheVariants.{Older, Newer, Waiting, Behind}
use Rattle.m2v_dec_batch.specs.declared.picture.Reads.{Reads}
use Rattle.m2v_dec_batch.specs.declared.pieces.DecodePiece.{DecodePiece}
use Rattle.m2v_dec_batch.specs.declared.pieces.DecodePiece.TheVariants.{After}
use Rattle.m2v_dec_batch.specs.Jobs.{Headers, header_at, frame_count, newer_before, older_before, first_field, read_by, needs_of, picture_of_job, row_of_job}
use Rattle.m2v_dec_batch.specs.Batches.{Batch, headers, Rows, no_rows, frame_at, reading_of, references, IsBatch}
use Rattle.m2v_dec_batch.specs.Below.{ComesBefore, newer_comes, older_comes, field_comes}
use Rattle.m2v_dec_batch.specs.Values.{value_of, decoded, rows_of, are_rebuilt, outcome_of}
use Rattle.m2v_dec_batch.specs.declared.cache.DecodeCache.{DecodeCache}
use Rattle.m2v_dec_batch.specs.Learned.{held_of, FitsCache}
use Rattle.m2v_dec_batch.specs.Works.{HasLearned, needs_rebuilt, rowless, frame_found, AreDecoded}
use Rattle.m2v_dec_batch.proofs.Decoded.{value_made}
use Rattle.m2v_dec_batch.proofs.Needs.{comes_by}
use Rattle.m2v_dec_batch.proofs.FrameSizes.{behind_size}
use Rattle.m2v_dec_batch.proofs.Ready.{ReadsAt, needs_same, found_is, held_fits, rowless_is}

-- ---- by tests

abbrev Frame : Type 0
Frame = Option Samples

-- a field of the forward reference: it may be the first field that a second one has before it
abbrev field_by : Bool → Bool → Bool → Bool → Frame → Frame → Frame → Frame
field_by intra b second is_first o n f = cond intra None (cond b o (cond (second && is_first) f n))

abbrev back_by : Bool → Bool → Frame → Frame
back_by intra b n = cond intra None (cond b n None)

abbrev reading_by : Header → Bool → Option Reading
reading_by h t = cond t None (Some (record { kind = h.kind; second_field = h.second; structure = h.structure }))

top_is : (h : Header) (t : Bool) (o n f : Frame) → forward_top (reading_by h t) o n f ≡ field_by t (is_b h.kind) h.second (not (nat_eq h.structure 1)) o n f
top_is h true o n f = refl
top_is h false o n f = refl

bottom_is : (h : Header) (t : Bool) (o n f : Frame) → forward_bottom (reading_by h t) o n f ≡ field_by t (is_b h.kind) h.second (nat_eq h.structure 1) o n f
bottom_is h true o n f = refl
bottom_is h false o n f = refl

back_is : (h : Header) (t : Bool) (n : Frame) → backward_frame (reading_by h t) n ≡ back_by t (is_b h.kind) n
back_is h true n = refl
back_is h false n = refl

-- frames that are the same where they are read
record Alike (intra b second : Bool) (o n f o2 n2 f2 : Frame) : Type 0 where
  older : intra ≡ false → b ≡ true → o ≡ o2
  newer : intra ≡ false → n ≡ n2
  first : intra ≡ false → b ≡ false → second ≡ true → f ≡ f2

field_alike : (intra b second is_first : Bool) (o n f o2 n2 f2 : Frame) → Alike intra b second o n f o2 n2 f2 → field_by intra b second is_first o n f ≡ field_by intra b second is_first o2 n2 f2
field_alike true b second is_first o n f o2 n2 f2 h = refl
field_alike false true second is_first o n f o2 n2 f2 h = h.older refl refl
field_alike false false true true o n f o2 n2 f2 h = h.first refl refl refl
field_alike false false true false o n f o2 n2 f2 h = h.newer refl
field_alike false false false is_first o n f o2 n2 f2 h = h.newer refl

back_alike : (intra b second : Bool) (o n f o2 n2 f2 : Frame) → Alike intra b second o n f o2 n2 f2 → back_by intra b n ≡ back_by intra b n2
back_alike true b second o n f o2 n2 f2 h = refl
back_alike false true second o n f o2 n2 f2 h = h.newer refl
back_alike false false second o n f o2 n2 f2 h = refl

-- frames that are there where others are
record AreThere (o n f o2 n2 f2 : Frame) : Type 0 where
  older : IsSome o → IsSome o2
  newer : IsSome n → IsSome n2
  first : IsSome f → IsSome f2

field_there : (intra b second is_first : Bool) (o n f o2 n2 f2 : Frame) → AreThere o n f o2 n2 f2 → IsSome (field_by intra b second is_first o n f) → IsSome (field_by intra b second is_first o2 n2 f2)
field_there true b second is_first o n f o2 n2 f2 h is = is
field_there false true second is_first o n f o2 n2 f2 h is = h.older is
field_there false false true true o n f o2 n2 f2 h is = h.first is
field_there false false true false o n f o2 n2 f2 h is = h.newer is
field_there false false false is_first o n f o2 n2 f2 h is = h.newer is

back_there : (intra b : Bool) (o n f o2 n2 f2 : Frame) → AreThere o n f o2 n2 f2 → IsSome (back_by intra b n) → IsSome (back_by intra b n2)
back_there true b o n f o2 n2 f2 h is = is
back_there false true o n f o2 n2 f2 h is = h.newer is
back_there false false o n f o2 n2 f2 h is = is

abbrev has : List Bool → Header → Frame → Frame → Frame → Type 0
has ds h o n f = HasReferences ds (record { older = o; newer = n; current = None; first_field = f; reading = reading_of h })

has_there : (ds : List Bool) (h : Header) (o n f o2 n2 f2 : Frame) → AreThere o n f o2 n2 f2 → has ds h o n f → has ds h o2 n2 f2
has_there ds h o n f o2 n2 f2 there is =
    let t = nat_eq h.kind 1 in
    let b = is_b h.kind in
    let top = nat_eq h.structure 1 in
    record {
      top = λ e. subst IsSome (sym (top_is h t o2 n2 f2)) (field_there t b h.second (not top) o n f o2 n2 f2 there (subst IsSome (top_is h t o n f) (is.top e)));
      bottom = λ e. subst IsSome (sym (bottom_is h t o2 n2 f2)) (field_there t b h.second top o n f o2 n2 f2 there (subst IsSome (bottom_is h t o n f) (is.bottom e)));
      back_top = λ e. subst IsSome (sym (back_is h t n2)) (back_there t b o n f o2 n2 f2 there (subst IsSome (back_is h t n) (is.back_top e)));
      back_bottom = λ e. subst IsSome (sym (back_is h t n2)) (back_there t b o n f o2 n2 f2 there (subst IsSome (back_is h t n) (is.back_bottom e)));
    }

top_same : (h : Header) (o n f o2 n2 f2 : Frame) → Alike (nat_eq h.kind 1) (is_b h.kind) h.second o n f o2 n2 f2 → forward_top (reading_of h) o n f ≡ forward_top (reading_of h) o2 n2 f2
top_same h o n f o2 n2 f2 a =
    let t = nat_eq h.kind 1 in top_is h t o n f ∙ field_alike t (is_b h.kind) h.second (not (nat_eq h.structure 1)) o n f o2 n2 f2 a ∙ sym (top_is h t o2 n2 f2)

bottom_same : (h : Header) (o n f o2 n2 f2 : Frame) → Alike (nat_eq h.kind 1) (is_b h.kind) h.second o n f o2 n2 f2 → forward_bottom (reading_of h) o n f ≡ forward_bottom (reading_of h) o2 n2 f2
bottom_same h o n f o2 n2 f2 a =
    let t = nat_eq h.kind 1 in bottom_is h t o n f ∙ field_alike t (is_b h.kind) h.second (nat_eq h.structure 1) o n f o2 n2 f2 a ∙ sym (bottom_is h t o2 n2 f2)

back_same : (h : Header) (o n f o2 n2 f2 : Frame) → Alike (nat_eq h.kind 1) (is_b h.kind) h.second o n f o2 n2 f2 → backward_frame (reading_of h) n ≡ backward_frame (reading_of h) n2
back_same h o n f o2 n2 f2 a =
    let t = nat_eq h.kind 1 in back_is h t n ∙ back_alike t (is_b h.kind) h.second o n f o2 n2 f2 a ∙ sym (back_is h t n2)

references_same : (h : Header) (o n f o2 n2 f2 : Frame) → Alike (nat_eq h.kind 1) (is_b h.kind) h.second o n f o2 n2 f2
    → references_at (reading_of h) o n f ≡ references_at (reading_of h) o2 n2 f2
references_same h o n f o2 n2 f2 a =
    references_are (reading_of h) o n f
    ∙ (λ i. both_shown (top_same h o n f o2 n2 f2 a i) (bottom_same h o n f o2 n2 f2 a i) (back_same h o n f o2 n2 f2 a i))
    ∙ sym (references_are (reading_of h) o2 n2 f2)

has_same : (ds : List Bool) (h : Header) (o n f o2 n2 f2 : Frame) → Alike (nat_eq h.kind 1) (is_b h.kind) h.second o n f o2 n2 f2 → has ds h o2 n2 f2 → has ds h o n f
has_same ds h o n f o2 n2 f2 a is = record {
  top = λ e. subst IsSome (sym (top_same h o n f o2 n2 f2 a)) (is.top e);
  bottom = λ e. subst IsSome (sym (bottom_same h o n f o2 n2 f2 a)) (is.bottom e);
  back_top = λ e. subst IsSome (sym (back_same h o n f o2 n2 f2 a)) (is.back_top e);
  back_bottom = λ e. subst IsSome (sym (back_same h o n f o2 n2 f2 a)) (is.back_bottom e);
}

-- ---- what is read

reads_of : Headers → ℕ → Bool → Bool → Bool → Reads
reads_of hs p intra b second =
    cond intra (record { forward = None; other = None })
    (cond b (record { forward = Some (older_before hs p); other = Some (newer_before hs p) }) (record { forward = Some (newer_before hs p); other = cond second (Some (first_field p)) None }))

reads_is : (hs : Headers) (p : ℕ) (intra b second : Bool) → nat_eq (header_at hs p).kind 1 ≡ intra → is_b (header_at hs p).kind ≡ b → (header_at hs p).second ≡ second → read_by hs p ≡ reads_of hs p intra b second
unfolding read_by reads_of
reads_is hs p intra b second ei eb es = λ i. reads_of hs p (ei i) (eb i) (es i)

reads_older : (hs : Headers) (p : ℕ) → nat_eq (header_at hs p).kind 1 ≡ false → is_b (header_at hs p).kind ≡ true → ReadsAt (read_by hs p) (older_before hs p)
unfolding reads_of
reads_older hs p ei eb = inl (ap (λ (r : Reads). r.forward) (reads_is hs p false true (header_at hs p).second ei eb refl))

reads_newer : (hs : Headers) (p : ℕ) (b : Bool) → nat_eq (header_at hs p).kind 1 ≡ false → is_b (header_at hs p).kind ≡ b → ReadsAt (read_by hs p) (newer_before hs p)
unfolding reads_of
reads_newer hs p true ei eb = inr (ap (λ (r : Reads). r.other) (reads_is hs p false true (header_at hs p).second ei eb refl))
reads_newer hs p false ei eb = inl (ap (λ (r : Reads). r.forward) (reads_is hs p false false (header_at hs p).second ei eb refl))

reads_first : (hs : Headers) (p : ℕ) → nat_eq (header_at hs p).kind 1 ≡ false → is_b (header_at hs p).kind ≡ false → (header_at hs p).second ≡ true → ReadsAt (read_by hs p) (first_field p)
unfolding reads_of
reads_first hs p ei eb es = inr (ap (λ (r : Reads). r.other) (reads_is hs p false false true ei eb es))

-- ---- the frames that are found

found_alike : (b : Batch) (j p : ℕ) (c : DecodeCache) → p ≡ picture_of_job (headers b) j → IsBatch b → HasLearned b j c → needs_rebuilt b j ≡ true → ComesBefore (length (headers b)) (older_before (headers b) p)
    → ComesBefore (length (headers b)) (newer_before (headers b) p) → ComesBefore (length (headers b)) (first_field p)
    → Alike (nat_eq (header_at (headers b) p).kind 1) (is_b (header_at (headers b) p).kind) (header_at (headers b) p).second
    (frame_found b c (older_before (headers b) p)) (frame_found b c (newer_before (headers b) p)) (frame_found b c (first_field p))
    (frame_at b (rows_of (decoded b j)) (older_before (headers b) p)) (frame_at b (rows_of (decoded b j)) (newer_before (headers b) p)) (frame_at b (rows_of (decoded b j)) (first_field p))
found_alike b j p c e h learned ready co cn cf =
    let hs = headers b in
    let at : (x : FramePlace) → ReadsAt (read_by hs p) x → ComesBefore (length hs) x → frame_found b c x ≡ frame_at b (rows_of (decoded b j)) x = λ x reads comes.
    found_is b j c x h learned ready (subst (λ (q : ℕ). ReadsAt (read_by hs q) x) e reads) comes in
    record {
      older = λ ei eb. at (older_before hs p) (reads_older hs p ei eb) co;
      newer = λ ei. at (newer_before hs p) (reads_newer hs p (is_b (header_at hs p).kind) ei refl) cn;
      first = λ ei eb es. at (first_field p) (reads_first hs p ei eb es) cf;
    }

any_there : (b : Batch) (at : Rows) (x : FramePlace) → IsSome (frame_at b no_rows x) → IsSome (frame_at b at x)
unfolding frame_at
any_there b at Older is = is
any_there b at Newer is = is
any_there b at Waiting is = is
any_there b at (Behind p) is = is

-- what a picture may read is found
found_decoded : (b : Batch) (j p : ℕ) (c : DecodeCache) → p ≡ picture_of_job (headers b) j → IsBatch b → HasLearned b j c → needs_rebuilt b j ≡ true → ComesBefore (length (headers b)) (older_before (headers b) p)
    → ComesBefore (length (headers b)) (newer_before (headers b) p) → ComesBefore (length (headers b)) (first_field p)
    → AreDecoded b p (frame_found b c (older_before (headers b) p)) (frame_found b c (newer_before (headers b) p)) (frame_found b c (first_field p))
found_decoded b j p c e h learned ready co cn cf x is =
    let hs = headers b in
    let at = rows_of (decoded b j) in
    let o = older_before hs p in
    let n = newer_before hs p in
    let f = first_field p in
    has_same x.opened.references (header_at hs p) (frame_found b c o) (frame_found b c n) (frame_found b c f) (frame_at b at o) (frame_at b at n) (frame_at b at f) (found_alike b j p c e h learned ready co cn cf)
    (has_there x.opened.references (header_at hs p) (frame_at b no_rows o) (frame_at b no_rows n) (frame_at b no_rows f) (frame_at b at o) (frame_at b at n) (frame_at b at f)
    (record { older = any_there b at o; newer = any_there b at n; first = any_there b at f }) (h.decoded p x is))

-- a row that is read by what is found is what comes of it
read_is : (b : Batch) (j p r : ℕ) (c : DecodeCache) → p ≡ picture_of_job (headers b) j → r ≡ row_of_job (headers b) j → IsBatch b → HasLearned b j c
    → needs_rebuilt b j ≡ true → ComesBefore (length (headers b)) (older_before (headers b) p)
    → ComesBefore (length (headers b)) (newer_before (headers b) p) → ComesBefore (length (headers b)) (first_field p)
    → outcome_of (slice_get b.pictures p) (references_at (reading_of (header_at (headers b) p)) (frame_found b c (older_before (headers b) p)) (frame_found b c (newer_before (headers b) p)) (frame_found b c (first_field p))) r
    ≡ value_of b j
read_is b j p r c ep er h learned ready co cn cf =
    let hs = headers b in
    let at = rows_of (decoded b j) in
    let refs = references_same (header_at hs p) _ _ _ _ _ _ (found_alike b j p c ep h learned ready co cn cf) in
    let is = sym (needs_same b j) ∙ ready in
    ap (λ (z : References). outcome_of (slice_get b.pictures p) z r) refs
    ∙ ap (λ (q : ℕ). outcome_of (slice_get b.pictures q) (references b at q) r) ep
    ∙ ap (λ (k : ℕ). outcome_of (slice_get b.pictures (picture_of_job hs j)) (references b at (picture_of_job hs j)) k) er
    ∙ sym (cond-true (are_rebuilt (decoded b j) (needs_of hs j)) (outcome_of (slice_get b.pictures (picture_of_job hs j)) (references b at (picture_of_job hs j)) (row_of_job hs j)) After is)
    ∙ sym (value_made b j)

-- a row whose needs aren't rebuilt
pub after_is : (b : Batch) (j : ℕ) → needs_rebuilt b j ≡ false → After ≡ value_of b j
after_is b j not_ready =
    let hs = headers b in
    let is = sym (needs_same b j) ∙ not_ready in
    sym (cond-false (are_rebuilt (decoded b j) (needs_of hs j)) (outcome_of (slice_get b.pictures (picture_of_job hs j)) (references b (rows_of (decoded b j)) (picture_of_job hs j)) (row_of_job hs j)) After is)
    ∙ sym (value_made b j)

-- ---- where frames stand

pub places_exist : (hs : Headers) (p : ℕ) → p < length hs → ComesBefore (length hs) (older_before hs p) × ComesBefore (length hs) (newer_before hs p) × ComesBefore (length hs) (first_field p)
places_exist hs p lt =
    let le : p ≤ length hs = omega (arith, lt) in
    (comes_by p (length hs) (older_before hs p) le (older_comes hs p), comes_by p (length hs) (newer_before hs p) le (newer_comes hs p), comes_by p (length hs) (first_field p) le (field_comes p))

place_size : (b : Batch) (c : DecodeCache) (x : FramePlace) → IsBatch b → ComesBefore (length (headers b)) x → FitsCache b c → IfSome (frame_found b c x) (λ f. f.dims ≡ b.dims)
unfolding frame_found ComesBefore
place_size b c Older h lt fits = h.older
place_size b c Newer h lt fits = h.newer
place_size b c Waiting h lt fits = h.waiting
place_size b c (Behind q) h lt fits =
    cond_both (nat_eq (frame_count (headers b) q) 0) (rowless b c q) (held_of c q).frame (λ (o : Option Samples). IfSome o (λ f. f.dims ≡ b.dims))
    (λ e. subst (λ (o : Option Samples). IfSome o (λ f. f.dims ≡ b.dims)) (sym (rowless_is b c q no_rows h lt fits (eqb-true (frame_count (headers b) q) 0 e))) (behind_size b no_rows q h))
    (λ e. (held_fits b c q fits).frame)

pub found_size : (b : Batch) (c : DecodeCache) (x : FramePlace) (frame : Option Samples) → IsBatch b → ComesBefore (length (headers b)) x → FitsCache b c → frame ≡ frame_found b c x → IfSome frame (λ f. f.dims ≡ b.dims)
found_size b c x frame h lt fits e = subst (λ (o : Option Samples). IfSome o (λ f. f.dims ≡ b.dims)) (sym e) (place_size b c x h lt fits)

-- ---- by what the code has

pub place_by : (hs : Headers) (x y : FramePlace) → x ≡ y → ComesBefore (length hs) y → ComesBefore (length hs) x
place_by hs x y e h = subst (ComesBefore (length hs)) (sym e) h

pub decoded_by : (b : Batch) (j p : ℕ) (c : DecodeCache) (older newer first : Option Samples) → p ≡ picture_of_job (headers b) j → p < length (headers b) → IsBatch b → HasLearned b j c → needs_rebuilt b j ≡ true
    → older ≡ frame_found b c (older_before (headers b) p) → newer ≡ frame_found b c (newer_before (headers b) p) → first ≡ frame_found b c (first_field p) → AreDecoded b p older newer first
decoded_by b j p c older newer first e lt h learned ready eo en ef =
    let hs = headers b in
    let places = places_exist hs p lt in
    subst (λ (o : Option Samples). AreDecoded b p o newer first) (sym eo)
    (subst (λ (n : Option Samples). AreDecoded b p (frame_found b c (older_before hs p)) n first) (sym en)
    (subst (λ (f : Option Samples). AreDecoded b p (frame_found b c (older_before hs p)) (frame_found b c (newer_before hs p)) f) (sym ef)
    (found_decoded b j p c e h learned ready places.0 places.1 places.2)))

pub value_by : (b : Batch) (j p r : ℕ) (c : DecodeCache) (older newer first : Option Samples) (result : DecodePiece) → p ≡ picture_of_job (headers b) j → p < length (headers b) → r ≡ row_of_job (headers b) j → IsBatch b → HasLearned b j c → needs_rebuilt b j ≡ true
    → older ≡ frame_found b c (older_before (headers b) p) → newer ≡ frame_found b c (newer_before (headers b) p) → first ≡ frame_found b c (first_field p)
    → result ≡ outcome_of (slice_get b.pictures p) (references_at (reading_of (header_at (headers b) p)) older newer first) r → result ≡ value_of b j
value_by b j p r c older newer first result e lt er h learned ready eo en ef is =
    let hs = headers b in
    let places = places_exist hs p lt in
    is
    ∙ (λ i. outcome_of (slice_get b.pictures p) (references_at (reading_of (header_at hs p)) (eo i) (en i) (ef i)) r)
    ∙ read_is b j p r c e er h learned ready places.0 places.1 places.2
