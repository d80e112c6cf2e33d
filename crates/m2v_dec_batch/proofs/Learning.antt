-- What learning a row makes of a cache.
use Rattle.std.proofs.Common.{◌≡◌, ℕ, zero, suc, ◌+◌, ◌*◌, ◌<◌, ◌≤◌, Bool, true, false, cond, ◌&&◌, ◌||◌, not, [], ◌∷◌, length, Option, Some, None, refl, sym, ap, subst, ◌∙◌, arith, inl, inr}
use Rattle.std.specs.Prelude.{IfSome, IsSome, is_some, nat_eq}
use Rattle.std.specs.List.{list_all, range_with_len}
use Rattle.std.specs.Option.{option_map}
use Rattle.std.proofs.lemmas.Bool.{cases_Bool, cond_both, cond-true, cond-false, eq-eqb, eqb-true, ne_eqb, cases_eq, and_parts}
use Rattle.std.proofs.lemmas.List.Folds.{list_all-append}
use Rattle.std.proofs.lemmas.List.FromFn.{length-range_with_len}
use Rattle.m2v_plane.specs.declared.dims.Dims.{Dims}
use Rattle.m2v_plane.specs.Sizes.{part_of}
use Rattle.m2v_plane.specs.Samples.{Samples}
use Rattle.m2v_pred.specs.Motion.{own_lines}
use Rattle.m2v_dec_batch.specs.declared.cache.HeldFrame.{HeldFrame}
use Rattle.m2v_dec_batch.specs.declared.cache.DecodeCache.{DecodeCache}
use Rattle.m2v_dec_batch.specs.declared.picture.Header.{Header}
use Rattle.m2v_dec_batch.specs.declared.picture.FramePlace.{FramePlace}
use Rattle.m2v_dec_batch.specs.declared.picture.FramePlace.TheVariants.{Older, Newer, Waiting, Behind}
use Rattle.m2v_dec_batch.specs.declared.pieces.DecodePiece.{DecodePiece}
use Rattle.m2v_dec_batch.specs.declared.pieces.DecodePiece.TheVariants as piece
use Rattle.m2v_dec_batch.specs.Jobs.{Headers, header_at, jobs_at, frame_from, frame_count, picture_of_job, row_of_job}
use Rattle.m2v_dec_batch.specs.Batches.{Batch, headers, no_rows, with_own, frame_behind, IsBatch}
use Rattle.m2v_dec_batch.specs.Below.{ComesBefore, MayBe}
use Rattle.m2v_dec_batch.specs.Pieces.{row_of, is_rebuilt}
use Rattle.m2v_dec_batch.specs.Values.{value_of}
use Rattle.m2v_dec_batch.specs.Learned.{is_of, behind_of, stands_at, in_second, held_of, samples_in, begun_over, begun_held, held_for, with_job, row_learned, learned_behind, learned_at, frame_over, first_rebuilt, IsOver, HoldsRows, FitsHeld, FitsCache}
use Rattle.m2v_dec_batch.proofs.FrameSizes.{behind_size, row_fits}
use Rattle.m2v_dec_batch.proofs.Ranges.{range_more}

-- ---- which frame is held

self_eq : (q : ℕ) → nat_eq q q ≡ true
self_eq q = eq-eqb q q refl

pub some_is : (o : Option ℕ) (q : ℕ) → is_of o q ≡ true → o ≡ Some q
some_is None q e = absurd (cc e)
some_is (Some p) q e = ap (λ (k : ℕ). Some k) (eqb-true p q e)

abbrev or_zero : Option ℕ → ℕ
or_zero (Some x) = x
or_zero None = 0

some_same : (x y : ℕ) → Some x ≡ Some y → x ≡ y
some_same x y e = ap or_zero e

-- the frame that learns a row of the frame behind picture q
abbrev chosen : DecodeCache → ℕ → Option FramePlace → HeldFrame
chosen c q keep = cond (in_second c q keep) c.two c.one

second_is : (c : DecodeCache) (q : ℕ) (keep : Option FramePlace) (t u : Bool) → is_of c.one.picture q ≡ t → is_of c.two.picture q ≡ u → in_second c q keep ≡ (not t && (u || stands_at c.one.picture keep))
unfolding in_second
second_is c q keep t u et eu = λ i. not (et i) && (eu i || stands_at c.one.picture keep)

held_first : (c : DecodeCache) (q : ℕ) → is_of c.one.picture q ≡ true → held_of c q ≡ c.one
unfolding held_of
held_first c q e = cond-true (is_of c.one.picture q) c.one c.two e

held_second : (c : DecodeCache) (q : ℕ) → is_of c.one.picture q ≡ false → held_of c q ≡ c.two
unfolding held_of
held_second c q e = cond-false (is_of c.one.picture q) c.one c.two e

-- the frame behind a picture that is held learns its rows
pub held_chosen : (c : DecodeCache) (q : ℕ) (keep : Option FramePlace) → is_of (held_of c q).picture q ≡ true → chosen c q keep ≡ held_of c q
held_chosen c q keep is = elim (cases_Bool (is_of c.one.picture q)) [
  | inl e ↦ cond-false (in_second c q keep) c.two c.one (second_is c q keep true (is_of c.two.picture q) e refl) ∙ sym (held_first c q e)
  | inr e ↦
      let two : is_of c.two.picture q ≡ true = ap (λ (h : HeldFrame). is_of h.picture q) (sym (held_second c q e)) ∙ is in
      cond-true (in_second c q keep) c.two c.one (second_is c q keep false true e two) ∙ sym (held_second c q e)
]

learned_picture : (hs : Headers) (q k : ℕ) (row : Option Samples) (h : HeldFrame) → (row_learned hs q k row h).picture ≡ h.picture
unfolding row_learned
learned_picture hs q k row h = cond_both (nat_eq h.count k) _ h (λ (g : HeldFrame). g.picture ≡ h.picture) (λ e. refl) (λ e. refl)

for_picture : (b : Batch) (q : ℕ) (h : HeldFrame) → is_of (held_for b q h).picture q ≡ true
unfolding begun_held
for_picture b q h = cond_both (is_of h.picture q) h (begun_held b q h) (λ (g : HeldFrame). is_of g.picture q ≡ true) (λ e. e) (λ e. self_eq q)

abbrev learned : Batch → ℕ → ℕ → Option Samples → HeldFrame → HeldFrame
learned b q k row h = row_learned (headers b) q k row (held_for b q h)

learned_for : (b : Batch) (q k : ℕ) (row : Option Samples) (h : HeldFrame) → is_of (learned b q k row h).picture q ≡ true
learned_for b q k row h = ap (λ (o : Option ℕ). is_of o q) (learned_picture (headers b) q k row (held_for b q h)) ∙ for_picture b q h

behind_by : (b : Batch) (q k : ℕ) (keep : Option FramePlace) (row : Option Samples) (c : DecodeCache) (t : Bool) → in_second c q keep ≡ t
    → learned_behind b q keep k row c ≡ cond t (record c { two = learned b q k row c.two }) (record c { one = learned b q k row c.one })
unfolding learned_behind
behind_by b q k keep row c t e = ap (λ (u : Bool). cond u (record c { two = learned b q k row c.two }) (record c { one = learned b q k row c.one })) e

pub into_second : (b : Batch) (q k : ℕ) (keep : Option FramePlace) (row : Option Samples) (c : DecodeCache) → in_second c q keep ≡ true → learned_behind b q keep k row c ≡ record c { two = learned b q k row c.two }
into_second b q k keep row c e = behind_by b q k keep row c true e

pub into_first : (b : Batch) (q k : ℕ) (keep : Option FramePlace) (row : Option Samples) (c : DecodeCache) → in_second c q keep ≡ false → learned_behind b q keep k row c ≡ record c { one = learned b q k row c.one }
into_first b q k keep row c e = behind_by b q k keep row c false e

not_first : (c : DecodeCache) (q : ℕ) (keep : Option FramePlace) → in_second c q keep ≡ true → is_of c.one.picture q ≡ false
not_first c q keep e = elim (cases_Bool (is_of c.one.picture q)) [
  | inl first ↦ absurd (cc (sym e ∙ second_is c q keep true (is_of c.two.picture q) first refl))
  | inr other ↦ other
]

-- then it is held
pub held_learned : (b : Batch) (q k : ℕ) (keep : Option FramePlace) (row : Option Samples) (c : DecodeCache) → held_of (learned_behind b q keep k row c) q ≡ learned b q k row (chosen c q keep)
held_learned b q k keep row c = elim (cases_Bool (in_second c q keep)) [
  | inl e ↦
      ap (λ (d : DecodeCache). held_of d q) (into_second b q k keep row c e)
      ∙ held_second (record c { two = learned b q k row c.two }) q (not_first c q keep e)
      ∙ ap (learned b q k row) (sym (cond-true (in_second c q keep) c.two c.one e))
  | inr e ↦
      ap (λ (d : DecodeCache). held_of d q) (into_first b q k keep row c e)
      ∙ held_first (record c { one = learned b q k row c.one }) q (learned_for b q k row c.one)
      ∙ ap (learned b q k row) (sym (cond-false (in_second c q keep) c.two c.one e))
]

-- ---- the frame that is kept

other_of : (o : Option ℕ) (p q : ℕ) → is_of o p ≡ true → (p ≡ q → ⊥) → is_of o q ≡ false
other_of None p q e other = absurd (cc e)
other_of (Some r) p q e other = ne_eqb r q (λ f. other (sym (eqb-true r p e) ∙ f))

-- another frame that is held stays as it is
other_kept : (b : Batch) (p q k : ℕ) (row : Option Samples) (c : DecodeCache) → is_of (held_of c p).picture p ≡ true → (p ≡ q → ⊥) → held_of (learned_behind b q (Some (Behind p)) k row c) p ≡ held_of c p
other_kept b p q k row c is other = elim (cases_Bool (is_of c.one.picture p)) [
  | inl e ↦
      let second = second_is c q (Some (Behind p)) false (is_of c.two.picture q) (other_of c.one.picture p q e other) refl ∙ ap (λ (t : Bool). is_of c.two.picture q || t) e ∙ or_true (is_of c.two.picture q) in
      ap (λ (d : DecodeCache). held_of d p) (into_second b q k (Some (Behind p)) row c second)
      ∙ held_first (record c { two = learned b q k row c.two }) p e
      ∙ sym (held_first c p e)
  | inr e ↦
      let two : is_of c.two.picture p ≡ true = ap (λ (h : HeldFrame). is_of h.picture p) (sym (held_second c p e)) ∙ is in
      let first = second_is c q (Some (Behind p)) (is_of c.one.picture q) false refl (other_of c.two.picture p q two other) ∙ ap (λ (t : Bool). not (is_of c.one.picture q) && t) e ∙ and_false (not (is_of c.one.picture q)) in
      let q_there = some_is (learned b q k row c.one).picture q (learned_for b q k row c.one) in
      let gone : is_of (learned b q k row c.one).picture p ≡ false = ap (λ (o : Option ℕ). is_of o p) q_there ∙ ne_eqb q p (λ f. other (sym f)) in
      ap (λ (d : DecodeCache). held_of d p) (into_first b q k (Some (Behind p)) row c first)
      ∙ held_second (record c { one = learned b q k row c.one }) p gone
      ∙ sym (held_second c p e)
]
  where
    or_true : (t : Bool) → (t || true) ≡ true
    or_true true = refl
    or_true false = refl

    and_false : (t : Bool) → (t && false) ≡ false
    and_false true = refl
    and_false false = refl

-- ---- how many rows are learned

-- at least so many of the frame behind a picture
pub record HasSome (c : DecodeCache) (q n : ℕ) : Type 0 where
  pub held : is_of (held_of c q).picture q ≡ true
  pub some : n ≤ (held_of c q).count

-- the frame that learns, if it is held, or is begun
pub for_held : (b : Batch) (q : ℕ) (h : HeldFrame) → is_of h.picture q ≡ true → held_for b q h ≡ h
for_held b q h e = cond-true (is_of h.picture q) h (begun_held b q h) e

pub for_begun : (b : Batch) (q : ℕ) (h : HeldFrame) → is_of h.picture q ≡ false → held_for b q h ≡ begun_held b q h
for_begun b q h e = cond-false (is_of h.picture q) h (begun_held b q h) e

count_more : (hs : Headers) (q k : ℕ) (row : Option Samples) (h : HeldFrame) → k ≤ h.count → k + 1 ≤ (row_learned hs q k row h).count
unfolding row_learned
count_more hs q k row h le =
    cond_both (nat_eq h.count k) _ h (λ (g : HeldFrame). k + 1 ≤ g.count) (λ e. omega (arith, le)) (λ e. omega (arith, le, differs e))
  where
    differs : nat_eq h.count k ≡ false → h.count ≡ k → ⊥
    differs e f = absurd (cc (sym e ∙ eq-eqb h.count k f))

-- one more is learned
pub some_more : (b : Batch) (q k : ℕ) (keep : Option FramePlace) (row : Option Samples) (c : DecodeCache) → (0 < k → HasSome c q k) → HasSome (learned_behind b q keep k row c) q (k + 1)
some_more b q k keep row c before = record {
  held = ap (λ (h : HeldFrame). is_of h.picture q) (held_learned b q k keep row c) ∙ learned_for b q k row (chosen c q keep);
  some = subst (λ (h : HeldFrame). k + 1 ≤ h.count) (sym (held_learned b q k keep row c)) (count_more (headers b) q k row (held_for b q (chosen c q keep)) (so_far k before));
}
  where
    so_far : (n : ℕ) → (0 < n → HasSome c q n) → n ≤ (held_for b q (chosen c q keep)).count
    so_far zero h = omega arith
    so_far (suc n) h =
        let has = h (omega arith) in
        let same = held_chosen c q keep has.held in
        subst (λ (g : HeldFrame). suc n ≤ (held_for b q g).count) (sym same) (subst (λ (g : HeldFrame). suc n ≤ g.count) (sym (for_held b q (held_of c q) has.held)) has.some)

-- a row that isn't the next one is learned already
pub other_row : (hs : Headers) (q k : ℕ) (row : Option Samples) (h : HeldFrame) → (h.count ≡ k → ⊥) → h ≡ row_learned hs q k row h
unfolding row_learned
other_row hs q k row h other = sym (cond-false (nat_eq h.count k) _ h (ne_eqb h.count k other))

count_same : (hs : Headers) (q k : ℕ) (row : Option Samples) (h : HeldFrame) → k < h.count → row_learned hs q k row h ≡ h
unfolding row_learned
count_same hs q k row h lt = cond-false (nat_eq h.count k) _ h (ne_eqb h.count k (λ e. omega (arith, e, lt)))

-- all rows of the frame that is kept stay learned
pub all_kept : (b : Batch) (p q k : ℕ) (row : Option Samples) (c : DecodeCache) → k < frame_count (headers b) q → HasSome c p (frame_count (headers b) p) → HasSome (learned_behind b q (Some (Behind p)) k row c) p (frame_count (headers b) p)
all_kept b p q k row c lt has = elim (cases_eq p q) [
  | inl e ↦
      let same = held_chosen c p (Some (Behind p)) has.held in
      let held : held_for b p (chosen c p (Some (Behind p))) ≡ held_of c p = ap (held_for b p) same ∙ for_held b p (held_of c p) has.held in
      let small : k < (held_of c p).count = omega (arith, has.some, lt, ap (frame_count (headers b)) e) in
      let stays : held_of (learned_behind b p (Some (Behind p)) k row c) p ≡ held_of c p =
      held_learned b p k (Some (Behind p)) row c ∙ ap (row_learned (headers b) p k row) held ∙ count_same (headers b) p k row (held_of c p) small in
      subst (λ (r : ℕ). HasSome (learned_behind b r (Some (Behind p)) k row c) p (frame_count (headers b) p)) e (as_before (learned_behind b p (Some (Behind p)) k row c) stays)
  | inr other ↦ as_before (learned_behind b q (Some (Behind p)) k row c) (other_kept b p q k row c has.held other)
]
  where
    as_before : (d : DecodeCache) → held_of d p ≡ held_of c p → HasSome d p (frame_count (headers b) p)
    as_before d e = record { held = ap (λ (h : HeldFrame). is_of h.picture p) e ∙ has.held; some = subst (λ (h : HeldFrame). frame_count (headers b) p ≤ h.count) (sym e) has.some }

-- ---- what fits

over_size : (b : Batch) (q : ℕ) (old : Samples) → IsBatch b → old.dims ≡ b.dims → (begun_over b q old).dims ≡ b.dims
over_size b q old h e =
    cond_both (nat_eq (header_at (headers b) q).structure 3) old (frame_behind b no_rows q) (λ (f : Samples). f.dims ≡ b.dims) (λ t. e) (λ t. behind_size b no_rows q h)

none_learned : (b : Batch) (q : ℕ) (frame : Samples) → frame ≡ frame_over b q 0 frame
unfolding frame_over
none_learned b q frame = refl

-- a frame that is there, or of samples 0, has the batch's size
pub samples_size : (b : Batch) (room : Option Dims) (frame : Option Samples) → IfSome room (λ d. d ≡ b.dims) → IfSome frame (λ f. f.dims ≡ b.dims) → IfSome (samples_in room frame) (λ f. f.dims ≡ b.dims)
samples_size b (Some d) frame hr hf = hr
samples_size b None frame hr hf = hf

begun_fits : (b : Batch) (q : ℕ) (h : HeldFrame) (o : Option Samples) → IsBatch b → q < length (headers b) → samples_in h.room h.frame ≡ o → IsSome o → IfSome o (λ f. f.dims ≡ b.dims) → FitsHeld b (begun_held b q h)
unfolding begun_held
begun_fits b q h None batch lt e there size = absurd (cc there)
begun_fits b q h (Some old) batch lt e there size =
    let over = begun_over b q old in
    let is : option_map (begun_over b q) (samples_in h.room h.frame) ≡ Some over = ap (option_map (begun_over b q)) e in
    record {
      there = ap is_some is;
      frame = subst (λ (o : Option Samples). IfSome o (λ f. f.dims ≡ b.dims)) (sym is) (over_size b q old batch size);
      room = tt;
      rows = λ p f. subst (λ (k : ℕ). HoldsRows b (begun_held b q h) k) (some_same q p f) (record {
        picture = lt;
        room = refl;
        most = omega arith;
        whole = refl;
        frame = λ t. record {
          base = over;
          size = over_size b q old batch size;
          begun = λ u. cond-false (nat_eq (header_at (headers b) q).structure 3) old (frame_behind b no_rows q) u;
          is = is ∙ ap (λ (g : Samples). Some g) (none_learned b q over);
        };
      });
    }

pub for_fits : (b : Batch) (q : ℕ) (h : HeldFrame) → IsBatch b → q < length (headers b) → FitsHeld b h → FitsHeld b (held_for b q h)
for_fits b q h batch lt fits =
    cond_both (is_of h.picture q) h (begun_held b q h) (FitsHeld b) (λ e. fits) (λ e. begun_fits b q h (samples_in h.room h.frame) batch lt refl fits.there (samples_size b h.room h.frame fits.room fits.frame))

set_rebuilt : (p : DecodePiece) → is_some (row_of p) ≡ is_rebuilt p
set_rebuilt (piece.Unread r) = refl
set_rebuilt piece.After = refl
set_rebuilt (piece.Faulty f) = refl
set_rebuilt (piece.Rebuilt xs) = refl

job_size : (hs : Headers) (i : ℕ) (row : Option Samples) (f : Samples) → (with_job hs i row f).dims ≡ f.dims
job_size hs i None f = refl
job_size hs i (Some xs) f = refl

mapped_there : (o : Option Samples) (g : Samples → Samples) → IsSome o → IsSome (option_map g o)
mapped_there None g h = h
mapped_there (Some f) g h = refl

mapped_size : (o : Option Samples) (g : Samples → Samples) (d : Dims) → ((f : Samples) → (g f).dims ≡ f.dims) → IfSome o (λ f. f.dims ≡ d) → IfSome (option_map g o) (λ f. f.dims ≡ d)
mapped_size None g d same h = tt
mapped_size (Some f) g d same h = same f ∙ h

room_none : (b : Batch) (h : HeldFrame) (q : ℕ) → HoldsRows b h q → samples_in h.room h.frame ≡ h.frame
room_none b h q rows = ap (λ (o : Option Dims). samples_in o h.frame) rows.room

rebuilt_more : (b : Batch) (q k : ℕ) → (first_rebuilt b q k && is_some (row_of (value_of b (frame_from (headers b) q + k)))) ≡ first_rebuilt b q (k + 1)
rebuilt_more b q k =
    let test = λ (i : ℕ). is_rebuilt (value_of b i) in
    let from = frame_from (headers b) q in
    let next : suc k ≡ k + 1 = omega arith in
    ap (λ (t : Bool). first_rebuilt b q k && t) (set_rebuilt (value_of b (from + k)) ∙ sym (and_true (test (from + k))))
    ∙ sym (list_all-append test (range_with_len from k) ((from + k) ∷ []))
    ∙ ap (list_all test) (sym (range_more from k))
    ∙ ap (first_rebuilt b q) next
  where
    and_true : (t : Bool) → (t && true) ≡ t
    and_true true = refl
    and_true false = refl

over_more : (b : Batch) (q k : ℕ) (base : Samples) → with_job (headers b) (frame_from (headers b) q + k) (row_of (value_of b (frame_from (headers b) q + k))) (frame_over b q k base) ≡ frame_over b q (k + 1) base
unfolding frame_over
over_more b q k base = let next : suc k ≡ k + 1 = omega arith in ap (λ (n : ℕ). frame_over b q n base) next

-- the next row
next_fits : (b : Batch) (q k : ℕ) (h : HeldFrame) → k < frame_count (headers b) q → h.picture ≡ Some q → h.count ≡ k → FitsHeld b h
    → FitsHeld b (record h {
      frame = option_map (with_job (headers b) (frame_from (headers b) q + k) (row_of (value_of b (frame_from (headers b) q + k)))) h.frame;
      count = h.count + 1;
      whole = h.whole && is_some (row_of (value_of b (frame_from (headers b) q + k)));
    })
next_fits b q k h lt of at fits =
    let hs = headers b in
    let row = row_of (value_of b (frame_from hs q + k)) in
    let set = with_job hs (frame_from hs q + k) row in
    let rows = fits.rows q of in
    let none = room_none b h q rows in
    let now = record h { frame = option_map set h.frame; count = h.count + 1; whole = h.whole && is_some row } in
    let none_now : samples_in h.room (option_map set h.frame) ≡ option_map set h.frame = ap (λ (o : Option Dims). samples_in o (option_map set h.frame)) rows.room in
    record {
      there = subst IsSome (sym none_now) (mapped_there h.frame set (subst IsSome none fits.there));
      frame = mapped_size h.frame set b.dims (job_size hs (frame_from hs q + k) row) fits.frame;
      room = fits.room;
      rows = λ p e. subst (HoldsRows b now) (some_same q p (sym of ∙ e)) (record {
        picture = rows.picture;
        room = rows.room;
        most = omega (arith, at, lt);
        whole = ap (λ (t : Bool). t && is_some row) (rows.whole ∙ ap (first_rebuilt b q) at) ∙ rebuilt_more b q k ∙ ap (λ (n : ℕ). first_rebuilt b q (n + 1)) (sym at);
        frame = λ t. over rows (and_parts h.whole (is_some row) t).0;
      });
    }
  where
    over : HoldsRows b h q → h.whole ≡ true
        → IsOver b q (h.count + 1) (option_map (with_job (headers b) (frame_from (headers b) q + k) (row_of (value_of b (frame_from (headers b) q + k)))) h.frame)
    over rows t =
        let before = rows.frame t in
        let hs = headers b in
        let set = with_job hs (frame_from hs q + k) (row_of (value_of b (frame_from hs q + k))) in
        record {
          base = before.base;
          size = before.size;
          begun = before.begun;
          is = ap (option_map set) (before.is ∙ ap (λ (n : ℕ). Some (frame_over b q n before.base)) at)
              ∙ ap (λ (f : Samples). Some f) (over_more b q k before.base)
              ∙ ap (λ (n : ℕ). Some (frame_over b q (n + 1) before.base)) (sym at);
        }

row_fits_held : (b : Batch) (q k : ℕ) (h : HeldFrame) → k < frame_count (headers b) q → h.picture ≡ Some q → FitsHeld b h → FitsHeld b (row_learned (headers b) q k (row_of (value_of b (frame_from (headers b) q + k))) h)
unfolding row_learned
row_fits_held b q k h lt of fits =
    cond_both (nat_eq h.count k) _ h (FitsHeld b) (λ e. next_fits b q k h lt of (eqb-true h.count k e) fits) (λ e. fits)

-- what is learned fits
pub learned_fits : (b : Batch) (q k : ℕ) (keep : Option FramePlace) (c : DecodeCache) → IsBatch b → q < length (headers b) → k < frame_count (headers b) q → FitsCache b c
    → FitsCache b (learned_behind b q keep k (row_of (value_of b (frame_from (headers b) q + k))) c)
learned_fits b q k keep c batch there lt fits =
    let row = row_of (value_of b (frame_from (headers b) q + k)) in
    let each = λ (h : HeldFrame) (f : FitsHeld b h). row_fits_held b q k (held_for b q h) lt (some_is (held_for b q h).picture q (for_picture b q h)) (for_fits b q h batch there f) in
    elim (cases_Bool (in_second c q keep)) [
      | inl e ↦ subst (FitsCache b) (sym (into_second b q k keep row c e)) (record { one = fits.one; two = each c.two fits.two; blank = fits.blank })
      | inr e ↦ subst (FitsCache b) (sym (into_first b q k keep row c e)) (record { one = each c.one fits.one; two = fits.two; blank = fits.blank })
    ]

-- ---- a cache that has learned nothing yet

pub room_fits : (b : Batch) (h : HeldFrame) (d : Dims) → h.room ≡ Some d → h.frame ≡ None → h.picture ≡ None → d ≡ b.dims → FitsHeld b h
room_fits b h d room frame picture size = record {
  there = ap (λ (o : Option Dims). is_some (samples_in o h.frame)) room;
  frame = subst (λ (o : Option Samples). IfSome o (λ f. f.dims ≡ b.dims)) (sym frame) tt;
  room = subst (λ (o : Option Dims). IfSome o (λ e. e ≡ b.dims)) (sym room) size;
  rows = λ q e. absurd (cc (sym picture ∙ e));
}

-- ---- what the code does

pub behind_is : (x : Option FramePlace) (q : ℕ) → behind_of x ≡ Some q → x ≡ Some (Behind q)
behind_is None q e = absurd (cc e)
behind_is (Some Older) q e = absurd (cc e)
behind_is (Some Newer) q e = absurd (cc e)
behind_is (Some Waiting) q e = absurd (cc e)
behind_is (Some (Behind p)) q e = ap (λ (k : ℕ). Some (Behind k)) (some_same p q e)

pub behind_there : (n : ℕ) (x : Option FramePlace) (q : ℕ) → x ≡ Some (Behind q) → MayBe (ComesBefore n) x → q < n
unfolding MayBe ComesBefore
behind_there n x q e h = subst (MayBe (ComesBefore n)) e h

pub behind_none : (b : Batch) (x keep : Option FramePlace) (k : ℕ) (row : Option Samples) (c : DecodeCache) → behind_of x ≡ None → c ≡ learned_at b x keep k row c
behind_none b None keep k row c e = refl
behind_none b (Some Older) keep k row c e = refl
behind_none b (Some Newer) keep k row c e = refl
behind_none b (Some Waiting) keep k row c e = refl
behind_none b (Some (Behind p)) keep k row c e = absurd (cc e)

pub begun_by : (b : Batch) (q : ℕ) (h m : HeldFrame) → m.room ≡ None → m.frame ≡ option_map (begun_over b q) (samples_in h.room h.frame)
    → record { room = m.room; frame = m.frame; picture = Some q; count = 0; whole = true } ≡ begun_held b q h
unfolding begun_held
begun_by b q h m er ef = λ i. record { room = er i; frame = ef i; picture = Some q; count = 0; whole = true }

pub row_small : (hs : Headers) (x : Option FramePlace) (q k : ℕ) → x ≡ Some (Behind q) → k < length (jobs_at hs x) → k < frame_count hs q
unfolding jobs_at
row_small hs x q k e lt = omega (arith, lt, ap (λ (y : Option FramePlace). length (jobs_at hs y)) e, length-range_with_len (frame_from hs q) (frame_count hs q))

pub next_learned : (hs : Headers) (q k i p r : ℕ) (x : Header) (row : Option Samples) (h d : HeldFrame) → h.count ≡ k → i ≡ frame_from hs q + k → p ≡ picture_of_job hs i → x ≡ header_at hs p → r ≡ row_of_job hs i
    → d ≡ record h { frame = option_map (with_own x r row) h.frame; count = h.count + 1; whole = h.whole && is_some row } → d ≡ row_learned hs q k row h
unfolding row_learned
next_learned hs q k i p r x row h d at ei ep ex er is =
    is
    ∙ (λ j. record h { frame = option_map (with_own (header_is j) (row_is j) row) h.frame; count = h.count + 1; whole = h.whole && is_some row })
    ∙ sym (cond-true (nat_eq h.count k) _ h (eq-eqb h.count k at))
  where
    header_is : x ≡ header_at hs (picture_of_job hs (frame_from hs q + k))
    header_is = ex ∙ ap (header_at hs) (ep ∙ ap (picture_of_job hs) ei)

    row_is : r ≡ row_of_job hs (frame_from hs q + k)
    row_is = er ∙ ap (row_of_job hs) ei

pub row_there : (b : Batch) (o : Option Samples) (p j r : ℕ) (x : Header) → IsBatch b → IfSome o (λ f. f.dims ≡ b.dims) → x ≡ header_at (headers b) p → p ≡ picture_of_job (headers b) j
    → r < (header_at (headers b) (picture_of_job (headers b) j)).rows → IfSome o (λ f. 16 * r + 16 ≤ part_of (own_lines x.structure) (16 * f.dims.mb_rows))
row_there b None p j r x h size ex ep lt = tt
row_there b (Some f) p j r x h size ex ep lt =
    subst (λ (y : Header). 16 * r + 16 ≤ part_of (own_lines y.structure) (16 * f.dims.mb_rows)) (sym (ex ∙ ap (header_at (headers b)) ep))
    (subst (λ (d : Dims). 16 * r + 16 ≤ part_of (own_lines (header_at (headers b) (picture_of_job (headers b) j)).structure) (16 * d.mb_rows)) (sym size) (row_fits b (picture_of_job (headers b) j) r h lt))
