-- The last anchor of a group, and the frames that are shown.
use Rattle.std.proofs.Common.{◌≡◌, ℕ, zero, suc, ◌+◌, ◌*◌, ◌<◌, inl, inr, Bool, cond, List, [], ◌∷◌, ◌++◌, length, map, drop, Option, Some, None, refl, sym, ap, ◌∙◌, arith, append_assoc}
use Rattle.std.specs.Prelude.{nat_eq, nat_lt}
use Rattle.std.specs.List.{range_with_len}
use Rattle.std.proofs.lemmas.Bool.{cond-true, cond-false, cases_lt, cases_eq, lt-ltb, le-ltb}
use Rattle.std.proofs.lemmas.List.{append-nil, length-append}
use Rattle.std.proofs.Math.Nat.{mul_comm}
use Rattle.std.proofs.Math.Seq.{drop-cons, drop-length}
use Rattle.std.proofs.lemmas.List.Concat.{flat_map-append}
use Rattle.std.proofs.lemmas.List.FromFn.{map-range_with_len_more}
use Rattle.m2v_plane.specs.Samples.{Samples}
use Rattle.m2v_plane.specs.Raw.{raw, crop, shown, frame_bytes, chroma_height, chroma_width}
use Rattle.m2v_plane.proofs.RawVideo.{length-shown}
use Rattle.m2v_set.specs.Numbers.{dims_of}
use Rattle.m2v_slice.specs.Books.{Book, job_at, no_job}
use Rattle.m2v_slice.specs.Conditions.{IsBook}
use Rattle.m2v_law_shown.specs.m2v_enc_stream.Streams.{frame_of, frame_or, anchor_frame}
use Rattle.m2v_encode.specs.Groups.{all_coded, frames_shown, group_shown, anchor_behind}
use Rattle.m2v_law_shown.proofs.m2v_enc_stream.Anchors.{anchor_is}

-- ---- the last anchor

pub anchor_more : (b : Book) (p : ℕ) (last : Option ℕ) → p < length b.pictures
    → anchor_frame last (drop p b.pictures) ≡ anchor_frame (cond (nat_eq (job_at b p).kind 3) last (Some (job_at b p).frame)) (drop (p + 1) b.pictures)
unfolding anchor_frame
anchor_more b p last lt =
    let e : suc p ≡ p + 1 = omega arith in
    ap (anchor_frame last) (drop-cons b.pictures p no_job lt)
    ∙ ap (λ (n : ℕ). anchor_frame (cond (nat_eq (job_at b p).kind 3) last (Some (job_at b p).frame)) (drop n b.pictures)) e

pub anchor_end : (b : Book) (p : ℕ) (last : Option ℕ) → p ≡ length b.pictures → anchor_frame last (drop p b.pictures) ≡ last
unfolding anchor_frame
anchor_end b p last e = ap (λ (n : ℕ). anchor_frame last (drop n b.pictures)) e ∙ ap (anchor_frame last) (drop-length b.pictures)

-- ---- frames

-- the reconstruction of the anchor once the first n frames are there
pub kept : Book → Option ℕ → ℕ → Option Samples
kept b None n = None
kept b (Some a) n = cond (nat_lt a n) (Some (frame_of b (all_coded b) a)) None

pub kept_none : (b : Book) (o : Option ℕ) → kept b o 0 ≡ None
unfolding kept
kept_none b None = refl
kept_none b (Some a) = cond-false (nat_lt a 0) _ _ (le-ltb a 0 (omega arith))

pub kept_here : (b : Book) (o : Option ℕ) (k : ℕ) (f : Samples) → o ≡ Some k → f ≡ frame_of b (all_coded b) k → Some f ≡ kept b o (k + 1)
unfolding kept
kept_here b o k f is same =
    ap Some same ∙ sym (cond-true (nat_lt k (k + 1)) _ _ (lt-ltb k (k + 1) (omega arith))) ∙ ap (λ (x : Option ℕ). kept b x (k + 1)) (sym is)

kept_past : (b : Book) (a k : ℕ) → (a ≡ k → ⊥) → kept b (Some a) k ≡ kept b (Some a) (k + 1)
unfolding kept
kept_past b a k other = ap (λ (t : Bool). cond t (Some (frame_of b (all_coded b) a)) None) (same_test a k other)
  where
    same_test : (a k : ℕ) → (a ≡ k → ⊥) → nat_lt a k ≡ nat_lt a (k + 1)
    same_test a k other = elim (cases_lt a k) [
      | inl lt ↦ lt-ltb a k lt ∙ sym (lt-ltb a (k + 1) (omega (arith, lt)))
      | inr le ↦ elim (cases_lt a (k + 1)) [
        | inl next ↦ absurd (other (omega (arith, le, next)))
        | inr past ↦ le-ltb a k le ∙ sym (le-ltb a (k + 1) past)
      ]
    ]

pub kept_more : (b : Book) (o : Option ℕ) (k : ℕ) → (o ≡ Some k → ⊥) → kept b o k ≡ kept b o (k + 1)
unfolding kept
kept_more b None k other = refl
kept_more b (Some a) k other = kept_past b a k (λ e. other (ap Some e))

-- one frame more
pub kept_next : (b : Book) (o : Option ℕ) (k : ℕ) (f : Samples) (anchor next : Option Samples) → anchor ≡ kept b o k → f ≡ frame_of b (all_coded b) k
    → (o ≡ Some k → next ≡ Some f) → ((o ≡ Some k → ⊥) → next ≡ anchor) → next ≡ kept b o (k + 1)
kept_next b None k f anchor next before same here past = past none_some ∙ before ∙ kept_more b None k none_some
  where
    none_some : None ≡ Some k → ⊥
    none_some e = absurd cc
kept_next b (Some a) k f anchor next before same here past = elim (cases_eq a k) [
  | inl e ↦ here (ap Some e) ∙ kept_here b (Some a) k f (ap Some e) same
  | inr other ↦
      let not_here : Some a ≡ Some k → ⊥ = λ e. other (some_is a k e) in
      past not_here ∙ before ∙ kept_more b (Some a) k not_here
]
  where
    some_is : (a k : ℕ) → Some a ≡ Some k → a ≡ k
    some_is a k e = cc

pub kept_all : (b : Book) → IsBook b → (o : Option ℕ) (n : ℕ) → o ≡ anchor_frame None b.pictures → n ≡ length b.frames → kept b o n ≡ anchor_behind b
unfolding frame_or kept
kept_all b h o n is all =
    let there = anchor_is b h in
    ap (λ (x : Option ℕ). kept b x n) (is ∙ there.is)
    ∙ cond-true (nat_lt there.frame n) _ _ (lt-ltb there.frame n (omega (arith, there.below, all)))
    ∙ ap (frame_or b.before b (all_coded b)) (sym there.is)

-- the last anchor's frame is one of the group
pub anchor_below : (b : Book) → IsBook b → (o : Option ℕ) (k : ℕ) → o ≡ anchor_frame None b.pictures → o ≡ Some k → k < length b.frames
anchor_below b h o k is here =
    let there = anchor_is b h in
    let same : k ≡ there.frame = some_is k there.frame (sym here ∙ is ∙ there.is) in
    omega (arith, same, there.below)
  where
    some_is : (k n : ℕ) → Some k ≡ Some n → k ≡ n
    some_is k n e = cc

-- which is there
pub anchor_there : (b : Book) → IsBook b → (o : Option ℕ) → o ≡ anchor_frame None b.pictures → o ≡ None → ⊥
anchor_there b h o is none = never (anchor_is b h).frame (sym none ∙ is ∙ (anchor_is b h).is)
  where
    never : (k : ℕ) → None ≡ Some k → ⊥
    never k e = absurd cc

pub anchor_made : (b : Book) (o : Option ℕ) (k : ℕ) (f : Samples) → o ≡ anchor_frame None b.pictures → o ≡ Some k → f ≡ frame_of b (all_coded b) k → Some f ≡ anchor_behind b
unfolding frame_or
anchor_made b o k f is here made = ap Some made ∙ ap (frame_or b.before b (all_coded b)) (sym here ∙ is)

-- ---- raw frames

pub shown_more : (b : Book) (n : ℕ) → raw (frames_shown b (n + 1)) ≡ raw (frames_shown b n) ++ crop (frame_of b (all_coded b) n)
shown_more b n =
    let f = λ (k : ℕ). crop (frame_of b (all_coded b) k) in
    ap raw (map-range_with_len_more f 0 n n (omega arith))
    ∙ flat_map-append (λ (x : List ℕ). x) (map f (range_with_len 0 n)) (f n ∷ [])
    ∙ ap (λ (t : List ℕ). raw (frames_shown b n) ++ t) (append-nil (f n))

pub shown_split : (b : Book) (n k : ℕ) → n + 1 + k ≡ length b.frames
    → (rest : List ℕ) × (raw (group_shown b) ≡ raw (frames_shown b n) ++ (crop (frame_of b (all_coded b) n) ++ rest))
shown_split b n zero is =
    let e : length b.frames ≡ n + 1 = omega (arith, is) in (
      [],
      ap (λ (m : ℕ). raw (frames_shown b m)) e ∙ shown_more b n
          ∙ ap (λ (t : List ℕ). raw (frames_shown b n) ++ t) (sym (append-nil (crop (frame_of b (all_coded b) n)))),
    )
shown_split b n (suc k) is =
    let next = shown_split b (n + 1) k (omega (arith, is)) in
    let one = crop (frame_of b (all_coded b) n) in
    let two = crop (frame_of b (all_coded b) (n + 1)) in (
      two ++ next.0,
      next.1 ∙ ap (λ (t : List ℕ). t ++ (two ++ next.0)) (shown_more b n) ∙ append_assoc (raw (frames_shown b n)) one (two ++ next.0),
    )

pub shown_size : (b : Book) (k : ℕ) → length (crop (frame_of b (all_coded b) k)) ≡ frame_bytes (dims_of b.settings)
unfolding frame_of
shown_size b k = crop_size (frame_of b (all_coded b) k)
  where
    crop_size : (s : Samples) → length (crop s) ≡ frame_bytes s.dims
    crop_size s =
        let y = shown (16 * s.dims.mb_width) s.dims.height s.dims.width s.luma in
        let u = shown (8 * s.dims.mb_width) (chroma_height s.dims) (chroma_width s.dims) s.cb in
        let v = shown (8 * s.dims.mb_width) (chroma_height s.dims) (chroma_width s.dims) s.cr in
        omega (
          arith,
          length-append y (u ++ v),
          length-append u v,
          length-shown (16 * s.dims.mb_width) s.dims.height s.dims.width s.luma,
          length-shown (8 * s.dims.mb_width) (chroma_height s.dims) (chroma_width s.dims) s.cb,
          length-shown (8 * s.dims.mb_width) (chroma_height s.dims) (chroma_width s.dims) s.cr,
          mul_comm s.dims.height s.dims.width,
          mul_comm (chroma_height s.dims) (chroma_width s.dims),
        )
