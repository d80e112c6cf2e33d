-- A batch with one picture more.
use Rattle.std.proofs.Common.{◌≡◌, ℕ, zero, suc, ◌+◌, ◌<◌, ◌≤◌, Bool, true, cond, List, [], ◌∷◌, ◌++◌, length, get_or, Option, Some, refl, sym, ap, subst, ◌∙◌, arith, inl, inr}
use Rattle.std.specs.Prelude.{slice_get, IsSome}
use Rattle.std.proofs.lemmas.Bool.{cases_lt, cases_eq}
use Rattle.std.proofs.lemmas.List.{length-append, map-append, get_or_append_left}
use Rattle.std.proofs.lemmas.List.Elements.{All-push}
use Rattle.std.proofs.lemmas.Option.{slice_get-get_or, get_or_from_slice_get, slice_get_within}
use Rattle.std.proofs.Math.Seq.{get_or-append_seam}
use Rattle.m2v_dec_rows.specs.m2v_dec_picture.declared.gallery.Reading.{Reading}
use Rattle.m2v_dec_rows.specs.m2v_dec_picture.Frames.{HasReferences}
use Rattle.m2v_dec_piece.specs.declared.answer.Piece.{Piece}
use Rattle.m2v_dec_rows.specs.declared.opened.Opened.{Opened}
use Rattle.m2v_dec_rows.specs.Opened.{IsOpened}
use Rattle.m2v_dec_batch.specs.declared.picture.BatchPicture.{BatchPicture}
use Rattle.m2v_dec_batch.specs.declared.picture.Header.{Header}
use Rattle.m2v_dec_batch.specs.declared.picture.FramePlace.{FramePlace}
use Rattle.m2v_dec_batch.specs.declared.picture.FramePlace.TheVariants.{Older, Newer, Waiting, Behind}
use Rattle.m2v_dec_batch.specs.Jobs.{Headers, no_header, header_at, ends_anchor, newer_before, older_before, first_field}
use Rattle.m2v_dec_batch.specs.Batches.{Batch, headers, header_of, reading_of, no_rows, frames_for, ArePair, IsBatch}
use Rattle.m2v_dec_batch.proofs.Sizes.{count_is, no_picture, at_picture}
use Rattle.m2v_dec_batch.specs.declared.at_hand.FramesThere.{FramesThere}
use Rattle.m2v_dec_batch.specs.Filled.{with_picture, is_there, at_hand, HasFields, Follows}
use Rattle.m2v_dec_batch.proofs.Presence.{references_by, fields_by}

abbrev pub more : Batch → BatchPicture → Batch
more b x = record b { pictures = b.pictures ++ x ∷ [] }

count_more : (b : Batch) (x : BatchPicture) → length (more b x).pictures ≡ length b.pictures + 1
count_more b x = length-append b.pictures (x ∷ [])

-- ---- headers

headers_more : (b : Batch) (x : BatchPicture) → headers (more b x) ≡ headers b ++ header_of x ∷ []
headers_more b x = map-append header_of b.pictures (x ∷ [])

header_before : (b : Batch) (x : BatchPicture) (p : ℕ) → p < length b.pictures → header_at (headers (more b x)) p ≡ header_at (headers b) p
header_before b x p lt =
    ap (λ (hs : Headers). header_at hs p) (headers_more b x) ∙ get_or_append_left (headers b) (header_of x ∷ []) no_header p (omega (arith, lt, count_is b))

header_last : (b : Batch) (x : BatchPicture) (p : ℕ) → p ≡ length b.pictures → header_at (headers (more b x)) p ≡ header_of x
header_last b x p e =
    ap (header_at (headers (more b x))) (e ∙ sym (count_is b))
    ∙ ap (λ (hs : Headers). header_at hs (length (headers b))) (headers_more b x)
    ∙ get_or-append_seam (headers b) (header_of x) [] no_header

header_past : (b : Batch) (x : BatchPicture) (p : ℕ) → length b.pictures < p → header_at (headers (more b x)) p ≡ no_header
header_past b x p lt = no_picture (more b x) p (omega (arith, lt, count_more b x))

-- ---- anchors

anchors_same : (hs ks : Headers) (n : ℕ) → ((p : ℕ) → p < n → header_at hs p ≡ header_at ks p) → (newer_before hs n ≡ newer_before ks n) × (older_before hs n ≡ older_before ks n)
unfolding newer_before older_before
anchors_same hs ks zero same = (refl, refl)
anchors_same hs ks (suc n) same =
    let here = same n (omega arith) in
    let before = anchors_same hs ks n (λ p lt. same p (omega (arith, lt))) in
    (λ i. cond (ends_anchor (here i)) (Behind n) (before.0 i), λ i. cond (ends_anchor (here i)) (before.0 i) (before.1 i))

there_same : (b : Batch) (x : BatchPicture) (place : FramePlace) → is_there (more b x) place ≡ is_there b place
unfolding is_there
there_same b x Older = refl
there_same b x Newer = refl
there_same b x Waiting = refl
there_same b x (Behind p) = refl

-- the frames before a picture don't change
at_same : (b : Batch) (x : BatchPicture) (p : ℕ) → p ≤ length b.pictures → at_hand (more b x) p ≡ at_hand b p
at_same b x p le =
    let same = anchors_same (headers (more b x)) (headers b) p (λ (q : ℕ) (lt : q < p). header_before b x q (omega (arith, lt, le))) in
    let older = there_same b x (older_before (headers (more b x)) p) ∙ ap (is_there b) same.1 in
    let newer = there_same b x (newer_before (headers (more b x)) p) ∙ ap (is_there b) same.0 in
    let first = there_same b x (first_field p) in
    λ i. record { older = older i; newer = newer i; first = first i }

-- ---- the conditions of a batch

field_more : (b : Batch) (x : BatchPicture) → IsBatch b → Follows b (header_of x) → (p : ℕ) → (header_at (headers (more b x)) p).second ≡ true → (header_at (headers (more b x)) p).structure ≤ 2
field_more b x h f p = elim (cases_lt p (length b.pictures)) [
  | inl lt ↦ subst (λ (k : Header). k.second ≡ true → k.structure ≤ 2) (sym (header_before b x p lt)) (h.field p)
  | inr le ↦ elim (cases_eq p (length b.pictures)) [
    | inl e ↦ subst (λ (k : Header). k.second ≡ true → k.structure ≤ 2) (sym (header_last b x p e)) f.field
    | inr other ↦ subst (λ (k : Header). k.second ≡ true → k.structure ≤ 2) (sym (header_past b x p (omega (arith, le, other)))) (λ t. absurd (cc t))
  ]
]

first_more : (b : Batch) (x : BatchPicture) → IsBatch b → Follows b (header_of x) → (header_at (headers (more b x)) 0).second ≡ true → IsSome b.waiting
first_more b x h f = elim (cases_eq 0 (length b.pictures)) [
  | inl e ↦ subst (λ (k : Header). k.second ≡ true → IsSome b.waiting) (sym (header_last b x 0 e)) (λ t. f.waits t (sym e))
  | inr other ↦ subst (λ (k : Header). k.second ≡ true → IsSome b.waiting) (sym (header_before b x 0 (omega (arith, other)))) h.first
]

abbrev Pairs : Header → Header → Type 0
Pairs k l = l.second ≡ true → ArePair k l

pairs_more : (b : Batch) (x : BatchPicture) → IsBatch b → Follows b (header_of x) → (p : ℕ) → Pairs (header_at (headers (more b x)) p) (header_at (headers (more b x)) (suc p))
pairs_more b x h f p = elim (cases_lt (suc p) (length b.pictures)) [
  | inl lt ↦
      subst (λ (k : Header). Pairs k (header_at (headers (more b x)) (suc p))) (sym (header_before b x p (omega (arith, lt))))
      (subst (Pairs (header_at (headers b) p)) (sym (header_before b x (suc p) lt)) (h.pairs p))
  | inr le ↦ elim (cases_eq (suc p) (length b.pictures)) [
    | inl e ↦
        subst (λ (k : Header). Pairs k (header_at (headers (more b x)) (suc p))) (sym (header_before b x p (omega (arith, e))))
        (subst (Pairs (header_at (headers b) p)) (sym (header_last b x (suc p) e)) (λ t. f.pair t p (sym e)))
    | inr other ↦ subst (Pairs (header_at (headers (more b x)) p)) (sym (header_past b x (suc p) (omega (arith, le, other)))) (λ t. absurd (cc t))
  ]
]

picture_before : (b : Batch) (x y : BatchPicture) (p : ℕ) → p < length b.pictures → slice_get (more b x).pictures p ≡ Some y → slice_get b.pictures p ≡ Some y
picture_before b x y p lt e =
    slice_get-get_or b.pictures p y lt
    ∙ ap (λ (z : BatchPicture). Some z) (sym (get_or_append_left b.pictures (x ∷ []) y p lt) ∙ get_or_from_slice_get (more b x).pictures p y y e)

picture_last : (b : Batch) (x y : BatchPicture) (p : ℕ) → length b.pictures ≤ p → slice_get (more b x).pictures p ≡ Some y → (p ≡ length b.pictures) × (x ≡ y)
picture_last b x y p le e =
    let at : p ≡ length b.pictures = omega (arith, le, slice_get_within (more b x).pictures p y e, count_more b x) in
    (at, sym (get_or-append_seam b.pictures x [] y) ∙ ap (λ (k : ℕ). get_or (more b x).pictures k y) (sym at) ∙ get_or_from_slice_get (more b x).pictures p y y e)

-- what is known of the fields of picture p, by its header and the frames there
abbrev Reads : List Bool → Header → FramesThere → Type 0
Reads decoded k at = HasFields decoded (reading_of k) at

decoded_more : (b : Batch) (x : BatchPicture) → IsBatch b → HasFields x.opened.references (reading_of (header_of x)) (at_hand b (length b.pictures))
    → (p : ℕ) (y : BatchPicture) → slice_get (more b x).pictures p ≡ Some y → HasReferences y.opened.references (frames_for (more b x) no_rows p)
decoded_more b x h f p y e = elim (cases_lt p (length b.pictures)) [
  | inl lt ↦
      let known : Reads y.opened.references (header_at (headers b) p) (at_hand b p) = fields_by b p y.opened.references (h.decoded p y (picture_before b x y p lt e)) in
      references_by (more b x) p y.opened.references
      (subst (Reads y.opened.references (header_at (headers (more b x)) p)) (sym (at_same b x p (omega (arith, lt))))
      (subst (λ (k : Header). Reads y.opened.references k (at_hand b p)) (sym (header_before b x p lt)) known))
  | inr le ↦
      let last = picture_last b x y p le e in
      let here : Reads y.opened.references (header_of x) (at_hand b (length b.pictures)) =
      subst (λ (z : BatchPicture). Reads z.opened.references (header_of x) (at_hand b (length b.pictures))) last.1 f in
      references_by (more b x) p y.opened.references
      (subst (Reads y.opened.references (header_at (headers (more b x)) p)) (sym (at_same b x p (omega (arith, last.0)) ∙ ap (at_hand b) last.0))
      (subst (λ (k : Header). Reads y.opened.references k (at_hand b (length b.pictures))) (sym (header_last b x p last.0)) here))
]

-- a batch with a picture more that fits is a batch
pub appended : (b : Batch) (x : BatchPicture) → IsBatch b → length b.pictures < 16 → IsOpened x.piece x.opened → x.opened.dims ≡ b.dims → Follows b (header_of x)
    → HasFields x.opened.references (reading_of (header_of x)) (at_hand b (length b.pictures)) → IsBatch (more b x)
appended b x h few opened size f fields = record {
  pictures_are = record {
    size = h.size;
    few = omega (arith, few, count_more b x);
    opened = All-push (λ (y : BatchPicture). IsOpened y.piece y.opened) b.pictures x h.opened opened;
    sizes = All-push (λ (y : BatchPicture). y.opened.dims ≡ b.dims) b.pictures x h.sizes size;
    field = field_more b x h f;
    pairs = pairs_more b x h f;
  };
  frames_fit = h.frames_fit;
  first = first_more b x h f;
  decoded = decoded_more b x h fields;
}

-- a picture that is taken
pub taken : (b : Batch) (p : Piece) (o : Opened) (h : Header) (r : Option Reading) (at : FramesThere) → IsBatch b → length b.pictures < 16 → o.dims ≡ b.dims
    → h ≡ header_of (record { piece = p; opened = o }) → r ≡ reading_of h → at ≡ at_hand b (length b.pictures) → Follows b h → HasFields o.references r at → IsOpened p o
    → IsBatch (with_picture b p o)
taken b p o h r at batch few size e is there follows fields opened =
    let x : BatchPicture = record { piece = p; opened = o } in
    let here : HasFields o.references (reading_of (header_of x)) (at_hand b (length b.pictures)) =
    subst (λ (k : Header). HasFields o.references (reading_of k) (at_hand b (length b.pictures))) e
    (subst (HasFields o.references (reading_of h)) there (subst (λ (s : Option Reading). HasFields o.references s at) is fields)) in
    appended b x batch few opened size (subst (Follows b) e follows) here

last_there : (b : Batch) (x : BatchPicture) → slice_get (more b x).pictures (length b.pictures) ≡ Some x
last_there b x =
    slice_get-get_or (more b x).pictures (length b.pictures) x (omega (arith, count_more b x)) ∙ ap (λ (y : BatchPicture). Some y) (get_or-append_seam b.pictures x [] x)

-- a picture that makes a batch has room, and the size of the others
pub room_by : (b : Batch) (p : Piece) (o : Opened) → IsBatch (with_picture b p o) → length b.pictures < 16
room_by b p o h = omega (arith, h.few, count_more b (record { piece = p; opened = o }))

pub size_by : (b : Batch) (p : Piece) (o : Opened) → IsBatch (with_picture b p o) → o.dims ≡ b.dims
size_by b p o h =
    let x : BatchPicture = record { piece = p; opened = o } in
    at_picture (λ (y : BatchPicture). y.opened.dims ≡ b.dims) (more b x) (length b.pictures) x h.sizes (last_there b x)

-- it follows its first field
pub follows_by : (b : Batch) (p : Piece) (o : Opened) (h : Header) → h ≡ header_of (record { piece = p; opened = o }) → IsBatch (with_picture b p o) → Follows b h
follows_by b p o h is batch =
    let x : BatchPicture = record { piece = p; opened = o } in
    let n = length b.pictures in
    subst (Follows b) (sym is)
    (record {
      field = subst (λ (k : Header). k.second ≡ true → k.structure ≤ 2) (header_last b x n refl) (batch.field n);
      waits = λ t e. subst (λ (k : Header). k.second ≡ true → IsSome b.waiting) (header_last b x 0 (sym e)) batch.first t;
      pair = λ t q e.
          subst (λ (k : Header). ArePair k (header_of x)) (header_before b x q (omega (arith, e)))
          (subst (Pairs (header_at (headers (more b x)) q)) (header_last b x (suc q) (sym e)) (batch.pairs q) t);
    })

-- its references are there
pub fields_from : (b : Batch) (p : Piece) (o : Opened) (h : Header) (r : Option Reading) (at : FramesThere) → h ≡ header_of (record { piece = p; opened = o }) → r ≡ reading_of h
    → at ≡ at_hand b (length b.pictures) → IsBatch (with_picture b p o) → HasFields o.references r at
fields_from b p o h r at is reads there batch =
    let x : BatchPicture = record { piece = p; opened = o } in
    let n = length b.pictures in
    let known : Reads o.references (header_at (headers (more b x)) n) (at_hand (more b x) n) = fields_by (more b x) n o.references (batch.decoded n x (last_there b x)) in
    let here : Reads o.references h at =
    subst (λ (k : Header). Reads o.references k at) (header_last b x n refl ∙ sym is) (subst (Reads o.references (header_at (headers (more b x)) n)) (at_same b x n (omega arith) ∙ sym there) known) in
    subst (λ (s : Option Reading). HasFields o.references s at) (sym reads) here
