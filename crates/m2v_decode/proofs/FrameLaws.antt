-- The headers in force and the frames at hand: that they agree behind each part.
use Rattle.std.proofs.Common.{◌≡◌, ◌⊎◌, ℕ, ◌+◌, ◌≤◌, ◌^◌, Bool, true, false, Option, Some, None, is_some, inl, inr, refl, sym, ap, subst, ◌∙◌, arith}
use Rattle.std.specs.Prelude.{nat_eq, nat_le, nat_lt, not, ◌&&◌, ◌||◌, if◌then◌else◌, IsSome}
use Rattle.std.proofs.lemmas.Bool.{cases_Bool, and_parts, eqb-true, eqb-false, leb-true, ltb-false, not-true, or_parts}
use Rattle.m2v_plane.specs.declared.dims.Dims.{Dims}
use Rattle.m2v_plane.specs.Sizes.{IsSize}
use Rattle.m2v_plane.specs.Samples.{Samples, blank}
use Rattle.m2v_head.specs.declared.group.GroupInfo.{GroupInfo}
use Rattle.m2v_head.specs.declared.picture.PictureInfo.{PictureInfo}
use Rattle.m2v_head.specs.declared.picture.PictureExtension.{PictureExtension}
use Rattle.m2v_head.specs.declared.matrix.MatrixInfo.{MatrixInfo}
use Rattle.m2v_head.specs.Fits.{PictureFits}
use Rattle.m2v_model.specs.declared.state.Sequence.{Sequence}
use Rattle.m2v_model.specs.declared.state.Open.{Open}
use Rattle.m2v_model.specs.declared.state.FirstField.{FirstField}
use Rattle.m2v_model.specs.declared.state.State.{State}
use Rattle.m2v_model.specs.States.{dims_of, is_b, is_frame, is_frame_end, drops, has_forward, opened, crowded_by, after_sequence, after_group, after_picture, after_matrices, after_end, after_slice, with_slice, with_unread_slice, first_or, one_anchor_more, none_waits, may_follow, is_same_sequence, is_second_field_due}
use Rattle.m2v_model.specs.Pictures.{Store, picture_ended, picture_begun, fresh, references_of}
use Rattle.m2v_dec_rows.specs.m2v_dec_unit.Reads.{IsReadPicture}
use Rattle.m2v_dec_rows.specs.m2v_dec_unit.Among.{AreMatrices}
use Rattle.m2v_dec_rows.specs.m2v_dec_picture.declared.gallery.Reading.{Reading}
use Rattle.m2v_dec_rows.specs.m2v_dec_picture.Frames.{Frames, none_at_hand, store_of, reading_of, forward_top, forward_bottom, backward_frame, HasReferences, HaveSize}
use Rattle.m2v_dec_rows.proofs.StateLaws.{same_dims}
use Rattle.m2v_decode.specs.Course.{IsOpen, HasFrame, FitsOpen, HaveSizes, HasFirstField, HasAnchors, AreSound}

-- ---- the first field that waits

-- which first field is dropped stays as it was
pub field_same : (st z : State) (w : Option FirstField) (c : Option Samples) → ((k : ℕ) → drops z k ≡ drops st k) → HasFirstField st w c → HasFirstField z w c
field_same st z None c e h = tt
field_same st z (Some w) c e h = λ off. h (sym (e w.kind) ∙ off)

pub no_field : (z : State) (w : Option FirstField) (c : Option Samples) → none_waits w ≡ true → HasFirstField z w c
no_field z None c e = tt
no_field z (Some w) c e = absurd cc

some_field : (z : State) (w : Option FirstField) (c : Option Samples) → IsSome c → HasFirstField z w c
some_field z None c h = tt
some_field z (Some w) c h = λ off. h

-- the first field of a second field that isn't dropped isn't dropped
kept_first : (st : State) (w kind : ℕ) → may_follow w kind ≡ true → drops st kind ≡ false → drops st w ≡ false
kept_first st w kind follows off = elim (cases_Bool (nat_eq kind w)) [
  | inl e ↦ subst (λ (k : ℕ). drops st k ≡ false) (eqb-true kind w e) off
  | inr e ↦
      let f = rw e at follows in
      let one : w ≡ 1 = eqb-true w 1 (and_parts (nat_eq w 1) (nat_eq kind 2) f).0 in
      rw one refl
]

pub waiting_there : (st : State) (w : Option FirstField) (info : PictureInfo) (extension : PictureExtension) (c : Option Samples) → is_second_field_due w info extension ≡ true → HasFirstField st w c → drops st info.kind ≡ false → is_some w ≡ true → IsSome c
waiting_there st None info extension c due h off some = absurd cc
waiting_there st (Some w) info extension c due h off some =
    let rest = (and_parts (not (is_frame extension)) (not (nat_eq extension.structure w.structure) && may_follow w.kind info.kind) due).1 in
    h (kept_first st w.kind info.kind (and_parts (not (nat_eq extension.structure w.structure)) (may_follow w.kind info.kind) rest).1 off)

-- ---- no picture is open

pub rest_same : (st : State) → st.picture ≡ None → st ≡ after_end st
rest_same st e = λ i. record st { picture = e i }

-- what stands behind a part that leaves no picture open, and the frames as they are
rests : (st z : State) (f : Frames) → AreSound st f → st.picture ≡ None → z.anchors ≡ st.anchors → HasFirstField z z.waiting f.current → HasAnchors z (store_of f)
rests st z f h none anchors field =
    let a = subst (λ (o : Option Open). HasAnchors st (picture_ended o (store_of f))) none h.anchors in
    record {
      newer = λ le. a.newer (omega (arith, anchors, le));
      older = λ le. a.older (omega (arith, anchors, le));
      first_field = field;
    }

pub waits : (st : State) (f : Frames) → AreSound st f → st.picture ≡ None → HasFirstField st st.waiting f.current
waits st f h none = (subst (λ (o : Option Open). HasAnchors st (picture_ended o (store_of f))) none h.anchors).first_field

pub reads_none : (st : State) (f : Frames) → AreSound st f → st.picture ≡ None → f.reading ≡ None
reads_none st f h none = subst (λ (o : Option Open). FitsOpen o st.sequence f) none h.fits

-- the frame of the first field is there, where a second field's slices are read
pub first_at_hand : (st : State) (info : PictureInfo) (extension : PictureExtension) (f : Frames) → AreSound st f → st.picture ≡ None → is_second_field_due st.waiting info extension ≡ true
    → (opened st info extension).second_field ≡ true → (opened st info extension).slices_unread ≡ false → IsSome f.current
first_at_hand st info extension f h none due second read = waiting_there st st.waiting info extension f.current due (waits st f h none) (or_parts st.headers_only (drops st info.kind) read).1 second

-- ---- a picture ends

sizes_ended : (first s : Option Sequence) (p : Open) (f g : Frames) → FitsOpen (Some p) s f → ((d : Dims) → HaveSize d f → HaveSize d g) → HaveSizes first s f → HaveSizes first s g
sizes_ended (Some first) (Some s) p f g fits kept h = (h.0, h.1, kept (dims_of s) h.2)
sizes_ended None (Some s) p f g fits kept h = absurd h
sizes_ended first None p f g fits kept h = absurd fits

pub ended : (st : State) (p : Open) (f g : Frames) → AreSound st f → st.picture ≡ Some p → store_of g ≡ picture_ended (Some p) (store_of f) → g.reading ≡ None → ((d : Dims) → HaveSize d f → HaveSize d g) → AreSound (after_end st) g
ended st p f g h is store reading kept =
    let a = subst (λ (o : Option Open). HasAnchors st (picture_ended o (store_of f))) is h.anchors in
    let b = subst (HasAnchors st) (sym store) a in
    record {
      headers_only = h.headers_only;
      matrices = h.matrices;
      sizes = sizes_ended st.first st.sequence p f g (subst (λ (o : Option Open). FitsOpen o st.sequence f) is h.fits) kept h.sizes;
      fits = reading;
      anchors = record { newer = b.newer; older = b.older; first_field = field_same st (after_end st) st.waiting g.current (λ k. refl) b.first_field };
    }

pub ended_none : (st : State) (f : Frames) → AreSound st f → st.picture ≡ None → AreSound (after_end st) f
ended_none st f h none = subst (λ (z : State). AreSound z f) (rest_same st none) h

-- ---- headers

none_sized : (d : Dims) → HaveSize d none_at_hand
none_sized d = record { older = tt; newer = tt; current = tt; first_field = tt; whole = tt }

pub sizes_next : (first z : Option Sequence) (s : Sequence) (f : Frames) → HaveSizes first z f → IsSize (dims_of s) → is_same_sequence first s ≡ true → HaveSizes (Some (first_or first s)) (Some s) f
sizes_next (Some first) (Some z) s f h size same =
    let e = same_dims first s same in
    (size, e, subst (λ (d : Dims). HaveSize d f) (sym h.1 ∙ e) h.2)
sizes_next None None s f h size same = (size, refl, subst (λ (g : Frames). HaveSize (dims_of s) g) (sym h) (none_sized (dims_of s)))
sizes_next (Some first) None s f h size same = absurd h
sizes_next None (Some z) s f h size same = absurd h

pub sequenced : (st : State) (s : Sequence) (f : Frames) → AreSound st f → st.picture ≡ None → IsSize (dims_of s) → is_same_sequence st.first s ≡ true → AreMatrices (after_sequence st s) → AreSound (after_sequence st s) f
sequenced st s f h none size same matrices =
    let z = after_sequence st s in
    let a = rests st z f h none refl (field_same st z st.waiting f.current (λ k. refl) (waits st f h none)) in
    record {
      headers_only = h.headers_only;
      matrices = matrices;
      sizes = sizes_next st.first st.sequence s f h.sizes size same;
      fits = reads_none st f h none;
      anchors = record { newer = a.newer; older = a.older; first_field = a.first_field };
    }

pub grouped : (st : State) (g : GroupInfo) (f : Frames) → AreSound st f → st.picture ≡ None → none_waits st.waiting ≡ true → AreSound (after_group st g) f
grouped st g f h none waiting =
    let a = rests st (after_group st g) f h none refl (no_field (after_group st g) st.waiting f.current waiting) in
    record {
      headers_only = h.headers_only;
      matrices = h.matrices;
      sizes = h.sizes;
      fits = reads_none st f h none;
      anchors = record { newer = a.newer; older = a.older; first_field = a.first_field };
    }

pub loaded : (st : State) (m : MatrixInfo) (f : Frames) → AreSound st f → AreMatrices (after_matrices st m) → AreSound (after_matrices st m) f
loaded st m f h matrices =
    let a = h.anchors in
    record {
      headers_only = h.headers_only;
      matrices = matrices;
      sizes = h.sizes;
      fits = h.fits;
      anchors = record { newer = a.newer; older = a.older; first_field = field_same st (after_matrices st m) st.waiting _ (λ k. refl) a.first_field };
    }

-- ---- a picture begins

-- the frames that a picture leaves, which ends its frame or not, and is a B picture or not
unfoldable pub left_by : Bool → Bool → Store → Store
left_by ends b store = if ends then (if b then record store { current = None } else record store { older = store.newer; newer = store.current; current = None }) else store

one_more : (a : ℕ) → 2 ≤ one_anchor_more a → 1 ≤ a
one_more a le = elim (cases_Bool (nat_lt a 2)) [
  | inl e ↦ let l = rw e at le in omega (arith, l)
  | inr e ↦ let l = ltb-false a 2 e in omega (arith, l)
]

pub begun_anchors : (ends b : Bool) (z : State) (anchors kind structure : ℕ) (f g : Store)
    → z.anchors ≡ (if ends && not b then one_anchor_more anchors else anchors) → z.waiting ≡ (if ends then None else Some (record { kind = kind; structure = structure }))
    → g.older ≡ f.older → g.newer ≡ f.newer → (drops z kind ≡ false → IsSome g.current) → (b ≡ false → IsSome g.current)
    → (1 ≤ anchors → IsSome f.newer) → (2 ≤ anchors → IsSome f.older) → HasAnchors z (left_by ends b g)
unfolding left_by
begun_anchors true true z anchors kind structure f g count waiting older newer field current one two = record {
  newer = λ le. subst IsSome (sym newer) (one (omega (arith, count, le)));
  older = λ le. subst IsSome (sym older) (two (omega (arith, count, le)));
  first_field = subst (λ (w : Option FirstField). HasFirstField z w None) (sym waiting) tt;
}
begun_anchors true false z anchors kind structure f g count waiting older newer field current one two = record {
  newer = λ le. current refl;
  older = λ le. subst IsSome (sym newer) (one (one_more anchors (subst (λ (n : ℕ). 2 ≤ n) count le)));
  first_field = subst (λ (w : Option FirstField). HasFirstField z w None) (sym waiting) tt;
}
begun_anchors false b z anchors kind structure f g count waiting older newer field current one two = record {
  newer = λ le. subst IsSome (sym newer) (one (omega (arith, count, le)));
  older = λ le. subst IsSome (sym older) (two (omega (arith, count, le)));
  first_field = subst (λ (w : Option FirstField). HasFirstField z w g.current) (sym waiting) field;
}

only : (x y : Bool) → ((x && (y || false)) || false) ≡ true → y ≡ true
only true true e = refl
only true false e = absurd cc
only false y e = absurd cc

-- the frame of a field of the forward reference is there, where it was decoded; the field stands in the frame of the first
-- field, or in an anchor
forward_there : (b c : Bool) (kind anchors : ℕ) (own : Bool) (older newer first : Option Samples) → is_b kind ≡ b → own ≡ c
    → (2 ≤ anchors → IsSome older) → (1 ≤ anchors → IsSome newer) → (own ≡ true → IsSome first)
    → ((nat_eq kind 2 && (nat_le 1 anchors || own)) || (is_b kind && nat_le 2 anchors)) ≡ true
    → IsSome (if is_b kind then older else if own then first else newer)
forward_there true c kind anchors own older newer first is other two one some h =
    let three : kind ≡ 3 = eqb-true kind 3 is in
    let le : nat_le 2 anchors ≡ true = rw three at h in
    rw is (two (leb-true 2 anchors le))
forward_there false true kind anchors own older newer first is other two one some h =
    rw (is, other) (some other)
forward_there false false kind anchors own older newer first is other two one some h =
    let g = rw (other, is) at h in
    let le : nat_le 1 anchors ≡ true = only (nat_eq kind 2) (nat_le 1 anchors) g in
    rw (is, other) (one (leb-true 1 anchors le))

-- the second field of a frame is its top or its bottom field
other_parity : (second : Bool) (structure : ℕ) → (second ≡ true → (structure ≡ 1) ⊎ (structure ≡ 2)) → (second && nat_eq structure 1) ≡ (second && not (nat_eq structure 2))
other_parity false structure h = refl
other_parity true structure h = elim (h refl) [ inl e ↦ rw e refl | inr e ↦ rw e refl ]

backward_there : (b : Bool) (kind anchors : ℕ) (newer : Option Samples) → is_b kind ≡ b → (1 ≤ anchors → IsSome newer) → (is_b kind && nat_le 1 anchors) ≡ true → IsSome (if is_b kind then newer else None)
backward_there true kind anchors newer is one h = rw is (one (leb-true 1 anchors (and_parts (is_b kind) (nat_le 1 anchors) h).1))
backward_there false kind anchors newer is one h =
    let f = rw is at h in
    absurd cc

fresh_there : (w : Option FirstField) (current : Option Samples) (frame : Samples) → (is_some w ≡ true → IsSome current) → IsSome (if is_some w then current else Some frame)
fresh_there None current frame h = refl
fresh_there (Some w) current frame h = h refl

field_structure : (n : ℕ) → (1 ≤ n) × (n ≤ 3) → nat_eq n 3 ≡ false → (n ≡ 1) ⊎ (n ≡ 2)
field_structure n range off = elim (cases_Bool (nat_eq n 1)) [
  | inl e ↦ inl (eqb-true n 1 e)
  | inr e ↦
      let one : (n ≡ 1) → ⊥ = eqb-false n 1 e in
      let three : (n ≡ 3) → ⊥ = eqb-false n 3 off in
      inr (grind (arith))
]

due_field : (w : Option FirstField) (info : PictureInfo) (extension : PictureExtension) → is_second_field_due w info extension ≡ true → is_some w ≡ true → is_frame extension ≡ false
due_field None info extension due some = absurd cc
due_field (Some w) info extension due some = not-true (is_frame extension) (and_parts (not (is_frame extension)) (not (nat_eq extension.structure w.structure) && may_follow w.kind info.kind) due).0

pick_true : {A : Type 0} (b : Bool) (x y : A) → b ≡ true → (if b then x else y) ≡ x
pick_true true x y e = refl
pick_true false x y e = absurd cc

pick_false : {A : Type 0} (b : Bool) (x y : A) → b ≡ false → (if b then x else y) ≡ y
pick_false true x y e = absurd cc
pick_false false x y e = refl

same_count : (ends b : Bool) (x y : ℕ) → b ≡ true → (if ends && not b then x else y) ≡ y
same_count true true x y e = refl
same_count true false x y e = absurd cc
same_count false b x y e = refl

-- what stands behind the headers of a picture, which is dropped or not
module _ (st : State) (s : Sequence) (info : PictureInfo) (extension : PictureExtension) (f g : Frames) (h : AreSound st f) (none : st.picture ≡ None) (known : st.sequence ≡ Some s)
    (fits : PictureFits info × IsReadPicture info extension) (due : is_second_field_due st.waiting info extension ≡ true)
    (store : store_of g ≡ picture_begun (Some s) (opened st info extension) (store_of f)) (reading : g.reading ≡ reading_of (opened st info extension))
    (first : is_some st.waiting ≡ true → (opened st info extension).slices_unread ≡ false → g.first_field ≡ f.current) (sizes : HaveSizes st.first st.sequence g) where
  abbrev p : Open
  p = opened st info extension

  abbrev z : State
  z = after_picture st info extension

  abbrev is_dropped : Bool
  is_dropped = drops st info.kind

  unread_is : p.slices_unread ≡ is_dropped
  unread_is = ap (λ (b : Bool). b || is_dropped) h.headers_only

  before : HasAnchors st (store_of f)
  before = subst (λ (o : Option Open). HasAnchors st (picture_ended o (store_of f))) none h.anchors

  open_is : IsOpen p
  open_is = record {
    fits = fits;
    unread = unread_is;
    dropped = λ on. (and_parts (is_b info.kind) (not (nat_le 2 st.anchors || (nat_eq st.anchors 1 && st.closed_gop))) on).0;
    covered = omega arith;
    large = omega arith;
  }

  anchored : (drops z info.kind ≡ false → IsSome g.current) → (is_b info.kind ≡ false → IsSome g.current) → g.older ≡ f.older → g.newer ≡ f.newer → HasAnchors z (picture_ended (Some p) (store_of g))
  unfolding left_by
  anchored field current older newer =
      let a = begun_anchors (is_frame extension || is_some st.waiting) (is_b info.kind) z st.anchors info.kind extension.structure (store_of f) (store_of g) refl refl older newer field current before.newer before.older in
      record { newer = a.newer; older = a.older; first_field = a.first_field }

  drops_same : is_b info.kind ≡ true → drops z info.kind ≡ is_dropped
  drops_same b =
      ap (λ (a : ℕ). is_b info.kind && not (nat_le 2 a || (nat_eq a 1 && st.closed_gop)))
      (same_count (is_frame extension || is_some st.waiting) (is_b info.kind) (one_anchor_more st.anchors) st.anchors b)

  sound_by : HasFrame p g → HasAnchors z (picture_ended (Some p) (store_of g)) → AreSound z g
  sound_by frame anchors = record {
    headers_only = h.headers_only;
    matrices = h.matrices;
    sizes = sizes;
    fits = subst (λ (q : Option Sequence). FitsOpen (Some p) q g) (sym known) (open_is, frame);
    anchors = anchors;
  }

  dropped_begun : is_dropped ≡ true → AreSound z g
  dropped_begun on =
      let b : is_b info.kind ≡ true = open_is.dropped on in
      let is : store_of g ≡ record (store_of f) { current = None } = store ∙ pick_true p.slices_unread _ _ (unread_is ∙ on) in
      let still : drops z info.kind ≡ true = drops_same b ∙ on in
      sound_by
      (record { reading = reading; current = λ off. absurd cc; decoded = λ off. absurd cc; none = λ d. ap (λ (t : Store). t.current) is })
      (anchored (λ off. absurd cc) (λ off. absurd cc) (ap (λ (t : Store). t.older) is) (ap (λ (t : Store). t.newer) is))

  abbrev reads : Reading
  reads = record { kind = info.kind; second_field = is_some st.waiting; structure = extension.structure }

  fields : is_some st.waiting ≡ true → (extension.structure ≡ 1) ⊎ (extension.structure ≡ 2)
  fields second = field_structure extension.structure (fits.1).fits.structure (due_field st.waiting info extension due second)

  references_there : g.reading ≡ Some reads → (2 ≤ st.anchors → IsSome g.older) → (1 ≤ st.anchors → IsSome g.newer) → (is_some st.waiting ≡ true → IsSome g.first_field) → HasReferences p.references g
  references_there is two one some =
      let second = is_some st.waiting in
      let top_own = second && not (nat_eq extension.structure 1) in
      let bottom_own = second && not (nat_eq extension.structure 2) in
      let same : (second && nat_eq extension.structure 1) ≡ bottom_own = other_parity second extension.structure fields in
      let first_there : (c : Bool) → (second && c) ≡ true → IsSome g.first_field = λ c on. some (and_parts second c on).0 in
      let top : has_forward st info.kind extension.structure 1 ≡ true → IsSome (forward_top g.reading g.older g.newer g.first_field) =
      λ on. subst (λ (x : Option Reading). IsSome (forward_top x g.older g.newer g.first_field)) (sym is)
      (forward_there (is_b info.kind) top_own info.kind st.anchors top_own g.older g.newer g.first_field refl refl two one (first_there (not (nat_eq extension.structure 1))) on) in
      let bottom : has_forward st info.kind extension.structure 2 ≡ true → IsSome (forward_bottom g.reading g.older g.newer g.first_field) =
      λ on. subst (λ (x : Option Reading). IsSome (forward_bottom x g.older g.newer g.first_field)) (sym is)
      (subst (λ (own : Bool). IsSome (if is_b info.kind then g.older else if own then g.first_field else g.newer)) (sym same)
      (forward_there (is_b info.kind) bottom_own info.kind st.anchors bottom_own g.older g.newer g.first_field refl refl two one (first_there (not (nat_eq extension.structure 2))) on)) in
      let backward : (is_b info.kind && nat_le 1 st.anchors) ≡ true → IsSome (backward_frame g.reading g.newer) =
      λ on. subst (λ (x : Option Reading). IsSome (backward_frame x g.newer)) (sym is) (backward_there (is_b info.kind) info.kind st.anchors g.newer refl one on) in
      record { top = top; bottom = bottom; back_top = backward; back_bottom = backward }

  read_begun : is_dropped ≡ false → AreSound z g
  read_begun off =
      let unread : p.slices_unread ≡ false = unread_is ∙ off in
      let is : store_of g ≡ record (store_of f) { current = fresh s p f.current; references = references_of p (store_of f) } = store ∙ pick_false p.slices_unread _ _ unread in
      let older : g.older ≡ f.older = ap (λ (t : Store). t.older) is in
      let newer : g.newer ≡ f.newer = ap (λ (t : Store). t.newer) is in
      let waiting : is_some st.waiting ≡ true → IsSome f.current = waiting_there st st.waiting info extension f.current due before.first_field off in
      let current : IsSome g.current = subst IsSome (sym (ap (λ (t : Store). t.current) is)) (fresh_there st.waiting f.current (blank (dims_of s) (dims_of s).mb_rows) waiting) in
      let at : g.reading ≡ Some reads = reading ∙ pick_false p.slices_unread _ _ unread in
      let there = references_there at (λ le. subst IsSome (sym older) (before.older le)) (λ le. subst IsSome (sym newer) (before.newer le)) (λ some. subst IsSome (sym (first some unread)) (waiting some)) in
      sound_by
      (record { reading = reading; current = λ d. current; decoded = λ d. there; none = λ on. absurd cc })
      (anchored (λ d. current) (λ d. current) older newer)

  pub begun : AreSound z g
  begun = elim (cases_Bool is_dropped) [
    | inl on ↦ dropped_begun on
    | inr off ↦ read_begun off
  ]

-- ---- slices

-- the picture that is open behind a slice
abbrev pub moved : Open → ℕ → ℕ → ℕ → ℕ → Open
moved p row covered large crowded = record p { has_slice = true; row = row; covered = covered; large_macroblocks = large; crowded_row = crowded }

-- what a slice leaves of the counts of a picture
pub record Moved (p : Open) (row covered large : ℕ) : Type 0 where
  pub many : ℕ
  pub crowded : ℕ
  pub is : with_slice (Some p) row covered large ≡ Some (moved p row covered many crowded)
  pub few : many ≤ p.large_macroblocks + large

pub moves : (p : Open) (row covered large : ℕ) → Moved p row covered large
moves p row covered large = elim (cases_Bool (nat_eq row p.row)) [
  | inl e ↦
      let same : row ≡ p.row = eqb-true row p.row e in
      record {
        many = p.large_macroblocks + large;
        crowded = p.crowded_row;
        is = pick_true (nat_eq row p.row) _ _ e ∙ ap (λ (r : ℕ). Some (moved p r covered (p.large_macroblocks + large) p.crowded_row)) (sym same);
        few = omega arith;
      }
  | inr e ↦ record { many = large; crowded = crowded_by p; is = pick_false (nat_eq row p.row) _ _ e; few = omega arith }
]

-- the state behind a slice
pub slice_moves : (st : State) (p : Open) (row covered large : ℕ) → st.picture ≡ Some p
    → after_slice st row covered large ≡ record st { picture = Some (moved p row covered (moves p row covered large).many (moves p row covered large).crowded) }
slice_moves st p row covered large is =
    ap (λ (o : Option Open). record st { picture = o }) (ap (λ (o : Option Open). with_slice o row covered large) is ∙ (moves p row covered large).is)

painted_anchors : (ends b : Bool) (st z : State) (f g : Store) → ((k : ℕ) → drops z k ≡ drops st k) → z.anchors ≡ st.anchors → z.waiting ≡ st.waiting → g.older ≡ f.older → g.newer ≡ f.newer → IsSome g.current
    → HasAnchors st (left_by ends b f) → HasAnchors z (left_by ends b g)
unfolding left_by
painted_anchors false b st z f g same count waiting older newer some h = record {
  newer = λ le. subst IsSome (sym newer) (h.newer (omega (arith, count, le)));
  older = λ le. subst IsSome (sym older) (h.older (omega (arith, count, le)));
  first_field = some_field z z.waiting g.current some;
}
painted_anchors true true st z f g same count waiting older newer some h = record {
  newer = λ le. subst IsSome (sym newer) (h.newer (omega (arith, count, le)));
  older = λ le. subst IsSome (sym older) (h.older (omega (arith, count, le)));
  first_field = subst (λ (w : Option FirstField). HasFirstField z w None) (sym waiting) (field_same st z st.waiting None same h.first_field);
}
painted_anchors true false st z f g same count waiting older newer some h = record {
  newer = λ le. some;
  older = λ le. subst IsSome (sym newer) (h.older (omega (arith, count, le)));
  first_field = subst (λ (w : Option FirstField). HasFirstField z w None) (sym waiting) (field_same st z st.waiting None same h.first_field);
}

-- a slice was painted
pub sliced_sound : (st : State) (s : Sequence) (p : Open) (f g : Frames) (row covered large crowded : ℕ) → AreSound st f → st.sequence ≡ Some s → st.picture ≡ Some p → HaveSizes st.first (Some s) g → HasFrame p g
    → g.older ≡ f.older → g.newer ≡ f.newer → IsSome g.current → covered ≤ 2 ^ 16 → large ≤ covered → AreSound (record st { picture = Some (moved p row covered large crowded) }) g
unfolding left_by
sliced_sound st s p f g row covered large crowded h known is sizes frame older newer some most few =
    let z : State = record st { picture = Some (moved p row covered large crowded) } in
    let fits = subst (λ (q : Option Sequence). FitsOpen (Some p) q f) known (subst (λ (o : Option Open). FitsOpen o st.sequence f) is h.fits) in
    let opened_as = fits.0 in
    let left = subst (λ (o : Option Open). HasAnchors st (picture_ended o (store_of f))) is h.anchors in
    let a = painted_anchors (is_frame_end p) (is_b p.info.kind) st z (store_of f) (store_of g) (λ k. refl) refl refl older newer some
    (record { newer = left.newer; older = left.older; first_field = left.first_field }) in
    record {
      headers_only = h.headers_only;
      matrices = h.matrices;
      sizes = subst (λ (q : Option Sequence). HaveSizes st.first q g) (sym known) sizes;
      fits = subst (λ (q : Option Sequence). FitsOpen (Some (moved p row covered large crowded)) q g) (sym known) (
        record { fits = opened_as.fits; unread = opened_as.unread; dropped = opened_as.dropped; covered = most; large = few },
        record { reading = frame.reading; current = frame.current; decoded = frame.decoded; none = frame.none },
      );
      anchors = record { newer = a.newer; older = a.older; first_field = a.first_field };
    }

fits_unread : (p : Open) (s : Option Sequence) (f : Frames) (row : ℕ) → FitsOpen (Some p) s f → FitsOpen (Some (record p { has_slice = true; row = row })) s f
fits_unread p (Some s) f row h = (
  record { fits = (h.0).fits; unread = (h.0).unread; dropped = (h.0).dropped; covered = (h.0).covered; large = (h.0).large },
  record { reading = (h.1).reading; current = (h.1).current; decoded = (h.1).decoded; none = (h.1).none },
)
fits_unread p None f row h = absurd h

unread_by : (st : State) (o : Option Open) (f : Frames) (row : ℕ) → st.picture ≡ o → AreSound st f → AreSound (record st { picture = with_unread_slice o row }) f
unread_by st None f row is h =
    let z : State = record st { picture = None } in
    let a = subst (λ (o : Option Open). HasAnchors st (picture_ended o (store_of f))) is h.anchors in
    record {
      headers_only = h.headers_only;
      matrices = h.matrices;
      sizes = h.sizes;
      fits = subst (λ (o : Option Open). FitsOpen o st.sequence f) is h.fits;
      anchors = record { newer = a.newer; older = a.older; first_field = field_same st z st.waiting _ (λ k. refl) a.first_field };
    }
unread_by st (Some p) f row is h =
    let z : State = record st { picture = Some (record p { has_slice = true; row = row }) } in
    let a = subst (λ (o : Option Open). HasAnchors st (picture_ended o (store_of f))) is h.anchors in
    record {
      headers_only = h.headers_only;
      matrices = h.matrices;
      sizes = h.sizes;
      fits = fits_unread p st.sequence f row (subst (λ (o : Option Open). FitsOpen o st.sequence f) is h.fits);
      anchors = record { newer = a.newer; older = a.older; first_field = field_same st z st.waiting _ (λ k. refl) a.first_field };
    }

-- a slice stays unread
pub unread_sound : (st : State) (f : Frames) (row : ℕ) → AreSound st f → AreSound (record st { picture = with_unread_slice st.picture row }) f
unread_sound st f row h = unread_by st st.picture f row refl h
