-- What the frames at hand show is what the pictures were coded by.
use Rattle.std.proofs.Common.{◌≡◌, ℕ, zero, suc, ◌*◌, ◌/◌, ◌%◌, ◌<◌, ◌≤◌, ◌⊎◌, inl, inr, Bool, true, false, not, ◌&&◌, cond, List, [], ◌∷◌, length, Option, Some, None, refl, sym, ap, subst, ◌∙◌, arith}
use Rattle.std.specs.Prelude.{nat_eq, if◌then◌else◌}
use Rattle.std.proofs.lemmas.Bool.{cases_Bool, eqb-true}
use Rattle.m2v_plane.specs.declared.dims.Dims.{Dims}
use Rattle.m2v_plane.specs.declared.planes.Plane.{Plane}
use Rattle.m2v_plane.specs.declared.planes.Plane.TheVariants.{Y, Cb, Cr}
use Rattle.m2v_plane.specs.declared.planes.Lines.{Lines}
use Rattle.m2v_plane.specs.declared.planes.Lines.TheVariants.{Whole, Top, Bottom}
use Rattle.m2v_plane.specs.Sizes.{side, lines_of, columns_of, frame_line}
use Rattle.m2v_plane.specs.Samples.{Samples, sample_of, sample_in, is_among, number_among}
use Rattle.m2v_plane.specs.Fields.{sample_from}
use Rattle.m2v_plane.proofs.Places.{among, numbered}
use Rattle.m2v_plane.proofs.RawVideo.{plane_at}
use Rattle.m2v_pred.specs.Motion.{own_lines}
use Rattle.m2v_set.specs.declared.settings.Scan.{Scan}
use Rattle.m2v_set.specs.declared.settings.Scan.TheVariants.{Progressive, Frames, Fields}
use Rattle.m2v_set.specs.Numbers.{dims_of}
use Rattle.m2v_order.proofs.Queues.{true_false}
use Rattle.m2v_model.specs.m2v_macroblock.Predictions.{View}
use Rattle.m2v_slice.specs.Books.{Book, job_at, slice_at, has_lines, line_in, anchors_before, nth, picture_sample, coded}
use Rattle.m2v_slice.specs.Conditions.{IsBook}
use Rattle.m2v_slice.proofs.Groups.{HasStructure, picture_is_one}
use Rattle.m2v_enc_stream.specs.Streams.{frame_of}
use Rattle.m2v_model.specs.Pictures as pictures
use Rattle.m2v_model.specs.Painting.{frame_by}
use Rattle.m2v_law_shown.specs.Rows.{samples_of}
use Rattle.m2v_law_shown.specs.Stores.{ends_anchor, frame_in, newer_behind, older_behind}
use Rattle.m2v_slice.proofs.Firsts.{first_kind}
use Rattle.m2v_law_shown.proofs.Shapes.{waits, previous, IsSecond, Shape, shape_at}
use Rattle.m2v_law_shown.proofs.Frames.{own_is, only_here}
use Rattle.m2v_slice.proofs.References.{is_anchor_with, anchor_met, anchor_skipped, nth_first}

-- ---- the samples of a frame

frame_at : (d : Dims) (at : Plane → ℕ → ℕ → ℕ) (plane : Plane) (line column : ℕ) → line < side plane * d.mb_rows → column < columns_of d plane
    → sample_of (frame_by d at) plane line column ≡ at plane line column
frame_at d at Y line column low small = plane_at (16 * d.mb_rows) (16 * d.mb_width) (at Y) line column low small
frame_at d at Cb line column low small = plane_at (8 * d.mb_rows) (8 * d.mb_width) (at Cb) line column low small
frame_at d at Cr line column low small = plane_at (8 * d.mb_rows) (8 * d.mb_width) (at Cr) line column low small

line_low : (d : Dims) (plane : Plane) (lines : Lines) (line : ℕ) → line < lines_of d plane lines → frame_line lines line < side plane * d.mb_rows
line_low d plane Whole line lt = lt
line_low d plane Top line lt = omega (arith, lt)
line_low d plane Bottom line lt = omega (arith, lt)

-- a picture of this structure has these lines by itself
abbrev pub HasOwn : ℕ → Lines → Type 0
HasOwn structure lines = (structure ≡ 3) ⊎ (((structure ≡ 1) × (lines ≡ Top)) ⊎ ((structure ≡ 2) × (lines ≡ Bottom)))

number_is : (structure : ℕ) (lines : Lines) (line : ℕ) → HasOwn structure lines → number_among (own_lines structure) (frame_line lines line) ≡ line_in structure lines line
number_is structure lines line (inl three) = rw three refl
number_is structure lines line (inr (inl h)) = rw (h.0, h.1) (numbered Top line)
number_is structure lines line (inr (inr h)) = rw (h.0, h.1) (numbered Bottom line)

among_is : (structure : ℕ) (lines : Lines) (line : ℕ) → HasOwn structure lines → is_among (own_lines structure) (frame_line lines line) ≡ true
among_is structure lines line (inl three) = rw three refl
among_is structure lines line (inr (inl h)) = rw (h.0, h.1) (among Top line)
among_is structure lines line (inr (inr h)) = rw (h.0, h.1) (among Bottom line)

-- a view shows of these lines what a picture has, or the anchor before the group
abbrev pub ShowsOf : Book → View → Option ℕ → Lines → Type 0
ShowsOf b v o lines =
    (plane : Plane) (line column : ℕ) → line < lines_of (dims_of b.settings) plane lines → column < columns_of (dims_of b.settings) plane
    → v plane lines line column ≡ picture_sample b (coded b (length b.pictures)) o plane lines line column

view_in : (f : Samples) (plane : Plane) (lines : Lines) (line column : ℕ) → pictures.frame_of (Some f) plane lines line column ≡ sample_in f plane lines line column
unfolding sample_from
view_in f plane Whole line column = refl
view_in f plane Top line column = refl
view_in f plane Bottom line column = refl

module _ (b : Book) (h : IsBook b) (p : ℕ) (lt : p < length b.pictures) (lines : Lines) (own : HasOwn (job_at b p).structure lines) where
  -- a line of the frame is one of the picture
  pub own_sample : (plane : Plane) (line column : ℕ)
      → samples_of b (coded b (length b.pictures)) (job_at b p).frame plane (frame_line lines line) column ≡ picture_sample b (coded b (length b.pictures)) (Some p) plane lines line column
  unfolding picture_sample
  own_sample plane line column =
      let done = coded b (length b.pictures) in
      own_is b done p plane (frame_line lines line) column b.settings.scan (picture_is_one b h p lt).structure (only_here b h p lt) (among_is (job_at b p).structure lines line own)
      ∙ ap (λ (n : ℕ). sample_of (slice_at done p (n / side plane)).row plane (n % side plane) column) (number_is (job_at b p).structure lines line own)

  -- its frame shows what it has
  pub own_view : (frame : ℕ) → (job_at b p).frame ≡ frame → ShowsOf b (pictures.frame_of (Some (frame_in b frame))) (Some p) lines
  unfolding frame_of
  own_view frame same plane line column low small =
      let d = dims_of b.settings in
      let at = samples_of b (coded b (length b.pictures)) frame in
      view_in (frame_in b frame) plane lines line column
      ∙ frame_at d at plane (frame_line lines line) column (line_low d plane lines line low) small
      ∙ ap (λ (k : ℕ). samples_of b (coded b (length b.pictures)) k plane (frame_line lines line) column) (sym same)
      ∙ own_sample plane line column

before_view : (b : Book) (lines : Lines) → ShowsOf b (pictures.frame_of b.before) None lines
unfolding sample_from picture_sample
before_view b Whole plane line column low small = refl
before_view b Top plane line column low small = refl
before_view b Bottom plane line column low small = refl

-- ---- anchors one behind another

next_of : (q : ℕ) (xs : List ℕ) → nth 1 (q ∷ xs) ≡ nth 0 xs
unfolding nth
next_of q xs = refl

none_of : (n : ℕ) → nth {A = ℕ} n [] ≡ None
unfolding nth
none_of n = refl

pub nothing_before : (b : Book) (lines : Lines) → anchors_before b lines 0 ≡ []
unfolding anchors_before
nothing_before b lines = refl

pub anchor_is : (b : Book) (lines : Lines) (q structure : ℕ) (has : Bool) → nat_eq (job_at b q).kind 3 ≡ false → (job_at b q).structure ≡ structure → has_lines structure lines ≡ has → is_anchor_with b lines q ≡ has
anchor_is b lines q structure has k s e = rw (k, s) e

pub other_is : (b : Book) (lines : Lines) (q : ℕ) → nat_eq (job_at b q).kind 3 ≡ true → is_anchor_with b lines q ≡ false
other_is b lines q k = rw k refl

-- lines that pictures of this scan read
abbrev pub Readable : Scan → Lines → Type 0
Readable Progressive lines = Unit {0}
Readable Frames lines = Unit {0}
Readable Fields Whole = ⊥
Readable Fields Top = Unit {0}
Readable Fields Bottom = Unit {0}

-- an anchor was ended
unfoldable pub has_ended : Book → ℕ → Bool
has_ended b zero = false
has_ended b (suc n) = if ends_anchor b n then true else has_ended b n

-- before a picture before which no first field waits
pub record Views (b : Book) (older : Option Samples) (p : ℕ) : Type 0 where
  pub last : (lines : Lines) → Readable b.settings.scan lines → ShowsOf b (pictures.frame_of (newer_behind b p)) (nth 0 (anchors_before b lines p)) lines
  pub before : has_ended b p ≡ true → (lines : Lines) → Readable b.settings.scan lines → ShowsOf b (pictures.frame_of (older_behind b older p)) (nth 1 (anchors_before b lines p)) lines
  pub ended : (p ≡ 0 → ⊥) → has_ended b p ≡ true

shows_by : (b : Book) (v w : Option Samples) (o u : Option ℕ) (lines : Lines) → v ≡ w → o ≡ u → ShowsOf b (pictures.frame_of w) u lines → ShowsOf b (pictures.frame_of v) o lines
shows_by b v w o u lines e f s = subst (λ (x : Option Samples). ShowsOf b (pictures.frame_of x) o lines) (sym e) (subst (λ (x : Option ℕ). ShowsOf b (pictures.frame_of w) x lines) (sym f) s)

-- ---- what a picture leaves

pub ends_is : (b : Book) (q structure : ℕ) → nat_eq (job_at b q).kind 3 ≡ false → (job_at b q).structure ≡ structure → nat_eq structure 1 ≡ false → ends_anchor b q ≡ true
ends_is b q structure k s e = rw (k, s, e) refl

pub b_ends_none : (b : Book) (q : ℕ) → nat_eq (job_at b q).kind 3 ≡ true → ends_anchor b q ≡ false
b_ends_none b q k = rw k refl

pub first_ends_none : (b : Book) (q : ℕ) → (job_at b q).structure ≡ 1 → ends_anchor b q ≡ false
first_ends_none b q s = by_kind (nat_eq (job_at b q).kind 3)
  where
    by_kind : (t : Bool) → (not t && not (nat_eq (job_at b q).structure 1)) ≡ false
    by_kind true = refl
    by_kind false = rw s refl

module _ (b : Book) (older : Option Samples) (q : ℕ) where
  pub newer_ended : ends_anchor b q ≡ true → newer_behind b (suc q) ≡ Some (frame_in b (job_at b q).frame)
  unfolding newer_behind
  newer_ended e = ap (λ (t : Bool). cond t (Some (frame_in b (job_at b q).frame)) (newer_behind b q)) e

  pub newer_kept : ends_anchor b q ≡ false → newer_behind b (suc q) ≡ newer_behind b q
  unfolding newer_behind
  newer_kept e = ap (λ (t : Bool). cond t (Some (frame_in b (job_at b q).frame)) (newer_behind b q)) e

  pub older_ended : ends_anchor b q ≡ true → older_behind b older (suc q) ≡ newer_behind b q
  unfolding older_behind
  older_ended e = ap (λ (t : Bool). cond t (newer_behind b q) (older_behind b older q)) e

  pub older_kept : ends_anchor b q ≡ false → older_behind b older (suc q) ≡ older_behind b older q
  unfolding older_behind
  older_kept e = ap (λ (t : Bool). cond t (newer_behind b q) (older_behind b older q)) e

  ended_now : ends_anchor b q ≡ true → has_ended b (suc q) ≡ true
  unfolding has_ended
  ended_now e = ap (λ (t : Bool). cond t true (has_ended b q)) e

  ended_kept : ends_anchor b q ≡ false → has_ended b (suc q) ≡ has_ended b q
  unfolding has_ended
  ended_kept e = ap (λ (t : Bool). cond t true (has_ended b q)) e

no_views : (b : Book) (older : Option Samples) → Views b older 0
unfolding newer_behind has_ended
no_views b older = record {
  last = λ lines readable. subst (λ (o : Option ℕ). ShowsOf b (pictures.frame_of b.before) o lines) (sym (ap (nth 0) (nothing_before b lines) ∙ none_of 0)) (before_view b lines);
  before = λ e. absurd cc;
  ended = λ none. absurd (none refl);
}

all_lines : (lines : Lines) → has_lines 3 lines ≡ true
unfolding has_lines
all_lines Whole = refl
all_lines Top = refl
all_lines Bottom = refl

-- the first picture is of an anchor
first_ends : (b : Book) → IsBook b → (q : ℕ) → nat_eq (job_at b q).kind 3 ≡ true → q ≡ 0 → ⊥
first_ends b h q e none =
    let three = eqb-true (job_at b q).kind 3 e in
    let one = first_kind b h in
    let same : (job_at b q).kind ≡ (job_at b 0).kind = ap (λ (n : ℕ). (job_at b n).kind) none in
    omega (arith, three, one, same)

module _ (b : Book) (h : IsBook b) (older : Option Samples) where
  -- behind a frame picture
  frame_views : (q : ℕ) → q < length b.pictures → (job_at b q).structure ≡ 3 → Views b older q → Views b older (suc q)
  frame_views q lt three v = elim (cases_Bool (nat_eq (job_at b q).kind 3)) [
    | inl is_b ↦
        let none = b_ends_none b q is_b in
        let same = λ (lines : Lines). anchor_skipped b lines q (other_is b lines q is_b) in
        record {
          last = λ lines readable. shows_by b _ _ _ _ lines (newer_kept b older q none) (ap (nth 0) (same lines)) (v.last lines readable);
          before = λ e lines readable. shows_by b _ _ _ _ lines (older_kept b older q none) (ap (nth 1) (same lines)) (v.before (sym (ended_kept b older q none) ∙ e) lines readable);
          ended = λ some. ended_kept b older q none ∙ v.ended (first_ends b h q is_b);
        }
    | inr anchor ↦
        let ends = ends_is b q 3 anchor three refl in
        let here = λ (lines : Lines). anchor_met b lines q (anchor_is b lines q 3 true anchor three (all_lines lines)) in
        record {
          last = λ lines readable.
              shows_by b _ _ _ _ lines (newer_ended b older q ends) (ap (nth 0) (here lines) ∙ nth_first q (anchors_before b lines q)) (own_view b h q lt lines (inl three) (job_at b q).frame refl);
          before = λ e lines readable. shows_by b _ _ _ _ lines (older_ended b older q ends) (ap (nth 1) (here lines) ∙ next_of q (anchors_before b lines q)) (v.last lines readable);
          ended = λ some. ended_now b older q ends;
        }
  ]

-- a scan whose pictures are fields reads fields
pub no_whole : (scan : Scan) (structure : ℕ) → HasStructure scan structure → structure ≤ 2 → Readable scan Whole → ⊥
no_whole Progressive structure is small r = omega (arith, is, small)
no_whole Frames structure is small r = omega (arith, is, small)
no_whole Fields structure is small r = r

pub top_has : (has_lines 1 Top ≡ true) × (has_lines 2 Top ≡ false)
unfolding has_lines
top_has = (refl, refl)

pub bottom_has : (has_lines 1 Bottom ≡ false) × (has_lines 2 Bottom ≡ true)
unfolding has_lines
bottom_has = (refl, refl)

module _ (b : Book) (h : IsBook b) (q : ℕ) (lt : suc q < length b.pictures) (one : (job_at b q).structure ≡ 1) (second : IsSecond (job_at b q) (job_at b (suc q))) where
  below : q < length b.pictures
  below = omega (arith, lt)

  whole_never : Readable b.settings.scan Whole → ⊥
  whole_never = no_whole b.settings.scan (job_at b q).structure (picture_is_one b h q below).structure (omega (arith, one))

  module _ (anchor : nat_eq (job_at b q).kind 3 ≡ false) where
    anchor_too : nat_eq (job_at b (suc q)).kind 3 ≡ false
    anchor_too = ap (λ (k : ℕ). nat_eq k 3) (sym second.kind) ∙ anchor

    top_anchors : anchors_before b Top (suc (suc q)) ≡ q ∷ anchors_before b Top q
    top_anchors =
        anchor_skipped b Top (suc q) (anchor_is b Top (suc q) 2 false anchor_too second.structure top_has.1)
        ∙ anchor_met b Top q (anchor_is b Top q 1 true anchor one top_has.0)

    bottom_anchors : anchors_before b Bottom (suc (suc q)) ≡ suc q ∷ anchors_before b Bottom q
    bottom_anchors =
        anchor_met b Bottom (suc q) (anchor_is b Bottom (suc q) 2 true anchor_too second.structure bottom_has.1)
        ∙ ap (λ (xs : List ℕ). suc q ∷ xs) (anchor_skipped b Bottom q (anchor_is b Bottom q 1 false anchor one bottom_has.0))

    field_last : (lines : Lines) → Readable b.settings.scan lines
        → ShowsOf b (pictures.frame_of (Some (frame_in b (job_at b (suc q)).frame))) (nth 0 (anchors_before b lines (suc (suc q)))) lines
    field_last Whole r = absurd (whole_never r)
    field_last Top r =
        subst (λ (o : Option ℕ). ShowsOf b (pictures.frame_of (Some (frame_in b (job_at b (suc q)).frame))) o Top) (sym (ap (nth 0) top_anchors ∙ nth_first q (anchors_before b Top q)))
        (own_view b h q below Top (inr (inl (one, refl))) (job_at b (suc q)).frame second.frame)
    field_last Bottom r =
        subst (λ (o : Option ℕ). ShowsOf b (pictures.frame_of (Some (frame_in b (job_at b (suc q)).frame))) o Bottom) (sym (ap (nth 0) bottom_anchors ∙ nth_first (suc q) (anchors_before b Bottom q)))
        (own_view b h (suc q) lt Bottom (inr (inr (second.structure, refl))) (job_at b (suc q)).frame refl)

    field_next : (lines : Lines) → Readable b.settings.scan lines → nth 1 (anchors_before b lines (suc (suc q))) ≡ nth 0 (anchors_before b lines q)
    field_next Whole r = absurd (whole_never r)
    field_next Top r = ap (nth 1) top_anchors ∙ next_of q (anchors_before b Top q)
    field_next Bottom r = ap (nth 1) bottom_anchors ∙ next_of (suc q) (anchors_before b Bottom q)

  -- behind both fields of a frame
  field_views : (older : Option Samples) → Views b older q → Views b older (suc (suc q))
  field_views older v = elim (cases_Bool (nat_eq (job_at b q).kind 3)) [
    | inl is_b ↦
        let none = b_ends_none b q is_b in
        let b_too : nat_eq (job_at b (suc q)).kind 3 ≡ true = ap (λ (k : ℕ). nat_eq k 3) (sym second.kind) ∙ is_b in
        let none_too = b_ends_none b (suc q) b_too in
        let same = λ (lines : Lines). anchor_skipped b lines (suc q) (other_is b lines (suc q) b_too) ∙ anchor_skipped b lines q (other_is b lines q is_b) in
        let newer = newer_kept b older (suc q) none_too ∙ newer_kept b older q none in
        let before = older_kept b older (suc q) none_too ∙ older_kept b older q none in
        let ended = ended_kept b older (suc q) none_too ∙ ended_kept b older q none in
        record {
          last = λ lines readable. shows_by b _ _ _ _ lines newer (ap (nth 0) (same lines)) (v.last lines readable);
          before = λ e lines readable. shows_by b _ _ _ _ lines before (ap (nth 1) (same lines)) (v.before (sym ended ∙ e) lines readable);
          ended = λ some. ended ∙ v.ended (first_ends b h q is_b);
        }
    | inr anchor ↦
        let ends = ends_is b (suc q) 2 (anchor_too anchor) second.structure refl in
        let newer = newer_ended b older (suc q) ends in
        let before = older_ended b older (suc q) ends ∙ newer_kept b older q (first_ends_none b q one) in
        record {
          last = λ lines readable. shows_by b _ _ _ _ lines newer refl (field_last anchor lines readable);
          before = λ e lines readable. shows_by b _ _ _ _ lines before (field_next anchor lines readable) (v.last lines readable);
          ended = λ some. ended_now b older (suc q) ends;
        }
  ]

-- before a first field none waits
pub first_free : (b : Book) (q : ℕ) → (job_at b q).structure ≡ 1 → Shape b.pictures q → waits b.pictures q ≡ false
first_free b q one (inl s) = s.0
first_free b q one (inr (inl s)) = s.0
first_free b q one (inr (inr s)) = let two = s.1.structure in absurd (omega (arith, one, two))

module _ (b : Book) (h : IsBook b) (older : Option Samples) where
  -- one picture more, behind which no first field waits
  view_more : (q : ℕ) → q < length b.pictures → waits b.pictures (suc q) ≡ false → (waits b.pictures q ≡ false → Views b older q)
      → (waits b.pictures q ≡ true → IsSecond (previous b.pictures q) (job_at b q) → Views b older (suc q)) → Views b older (suc q)
  view_more q lt free v w = by_shape (shape_at b h q lt)
    where
      by_shape : Shape b.pictures q → Views b older (suc q)
      by_shape (inl s) = frame_views b h older q lt s.1 (v s.0)
      by_shape (inr (inl s)) = absurd (true_false (nat_eq (job_at b q).structure 1) (ap (λ (n : ℕ). nat_eq n 1) s.1) free)
      by_shape (inr (inr s)) = w s.0 s.1

  -- before any picture before which no first field waits
  pub views_at : (p : ℕ) → p ≤ length b.pictures → waits b.pictures p ≡ false → Views b older p
  views_at zero le free = no_views b older
  views_at (suc zero) le free =
      view_more zero (omega (arith, le)) free (λ e. no_views b older) (λ e second. absurd (true_false false e refl))
  views_at (suc (suc q)) le free =
      view_more (suc q) (omega (arith, le)) free (λ e. views_at (suc q) (omega (arith, le)) e)
      (λ e second.
      let one = eqb-true (job_at b q).structure 1 e in
      field_views b h q (omega (arith, le)) one second older
      (views_at q (omega (arith, le)) (first_free b q one (shape_at b h q (omega (arith, le))))))
