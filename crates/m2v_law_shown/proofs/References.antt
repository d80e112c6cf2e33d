-- What the frames at hand give a picture as references shows what it was coded by.
use Rattle.std.proofs.Common.{◌≡◌, ◌≢◌, ℕ, zero, suc, ◌+◌, ◌*◌, ◌/◌, ◌%◌, ◌<◌, ◌≤◌, inl, inr, Bool, true, false, cond, List, [], ◌∷◌, length, get_or, Option, refl, sym, ap, subst, ◌∙◌, arith, mul_comm}
use Rattle.std.specs.Prelude.{nat_eq, All}
use Rattle.std.proofs.lemmas.Bool.{cases_Bool, eqb-true, eqb-false}
use Rattle.std.proofs.lemmas.List.Elements.{All-nil, All-cons, All-head, All-tail, All-weaker}
use Rattle.std.proofs.Math.Nat.{div-lt_iff_lt-mul}
use Rattle.m2v_plane.specs.declared.dims.Dims.{Dims}
use Rattle.m2v_plane.specs.declared.planes.Plane.{Plane}
use Rattle.m2v_plane.specs.declared.planes.Plane.TheVariants.{Y, Cb, Cr}
use Rattle.m2v_plane.specs.declared.planes.Lines.{Lines}
use Rattle.m2v_plane.specs.declared.planes.Lines.TheVariants.{Whole, Top, Bottom}
use Rattle.m2v_plane.specs.Sizes.{side, lines_of, columns_of}
use Rattle.m2v_plane.specs.Samples.{Samples, sample_of, plane_of, number_among}
use Rattle.m2v_plane.specs.Fields.{or_none, sample_from}
use Rattle.m2v_plane.proofs.Places.{among, numbered, line_fits}
use Rattle.m2v_set.specs.declared.settings.Scan.{Scan}
use Rattle.m2v_set.specs.declared.settings.Scan.TheVariants.{Progressive, Frames, Fields}
use Rattle.m2v_set.specs.Numbers.{dims_of}
use Rattle.m2v_model.specs.m2v_macroblock.Predictions.{View}
use Rattle.m2v_slice.specs.m2v_choose.Trials.{IsReference}
use Rattle.m2v_slice.specs.Headers.{context_of, extension_of}
use Rattle.m2v_slice.specs.Books.{Book, rows, job_at, line_in, anchors_before, nth, picture_sample, reference, forward_number, task_of, coded}
use Rattle.m2v_slice.specs.Conditions.{IsBook}
use Rattle.m2v_slice.proofs.Coded.{slice_stays}
use Rattle.m2v_slice.proofs.Groups.{HasStructure, picture_is_one, source_size}
use Rattle.m2v_model.specs.Samples.{References}
use Rattle.m2v_model.specs.Pictures.{Store, second_field_of, references_by}
use Rattle.m2v_model.specs.Pictures as pictures
use Rattle.m2v_model.specs.Painting.{HasPart, IsPainted}
use Rattle.m2v_enc_stream.specs.Trees.{task_at}
use Rattle.m2v_law_shown.specs.Views.{AgreeInside, AreReferencesOf}
use Rattle.m2v_law_shown.specs.Rows.{samples_of}
use Rattle.m2v_law_shown.specs.Stores.{newer_behind, older_behind, HoldsBefore}
use Rattle.m2v_law_shown.proofs.Shapes.{waits, IsSecond, Shape, shape_at}
use Rattle.m2v_slice.proofs.Firsts.{first_kind}
use Rattle.m2v_law_shown.proofs.Frames.{half_rows}
use Rattle.m2v_law_shown.proofs.Views.{ShowsOf, Readable, views_at, own_sample, anchor_is, other_is, newer_kept, older_kept, first_ends_none, b_ends_none, first_free, no_whole, top_has, bottom_has, nothing_before}
use Rattle.m2v_slice.proofs.References.{is_anchor_with, anchor_met, anchor_skipped, nth_first}
use Rattle.m2v_law_shown.proofs.Squares.{some_side}

-- ---- samples of pictures coded so far

anchors_below : (b : Book) (lines : Lines) (p : ℕ) → All (λ (q : ℕ). q < p) (anchors_before b lines p)
anchors_below b lines zero = subst (All (λ (q : ℕ). q < zero)) (sym (nothing_before b lines)) (All-nil (λ (q : ℕ). q < zero))
anchors_below b lines (suc p) = elim (cases_Bool (is_anchor_with b lines p)) [
  | inl is ↦ subst (All (λ (q : ℕ). q < suc p)) (sym (anchor_met b lines p is)) (All-cons (λ (q : ℕ). q < suc p) p (anchors_before b lines p) (omega arith) (wider (anchors_below b lines p)))
  | inr other ↦ subst (All (λ (q : ℕ). q < suc p)) (sym (anchor_skipped b lines p other)) (wider (anchors_below b lines p))
]
  where
    wider : All (λ (q : ℕ). q < p) (anchors_before b lines p) → All (λ (q : ℕ). q < suc p) (anchors_before b lines p)
    wider all = All-weaker (λ (q : ℕ). q < p) (λ (q : ℕ). q < suc p) (λ q lt. omega (arith, lt)) (anchors_before b lines p) all

-- a picture has its samples whatever is coded behind it
stays : (b : Book) (m n : ℕ) (xs : List ℕ) (k : ℕ) → All (λ (q : ℕ). q < m) xs → m ≤ n → (plane : Plane) (lines : Lines) (line column : ℕ)
    → picture_sample b (coded b n) (nth k xs) plane lines line column ≡ picture_sample b (coded b m) (nth k xs) plane lines line column
unfolding nth picture_sample
stays b m n [] k all le plane lines line column = refl
stays b m n (x ∷ xs) zero all le plane lines line column =
    let lt = All-head (λ (q : ℕ). q < m) x xs all in
    let l = line_in (job_at b x).structure lines line in
    ap (λ s. sample_of s.row plane (l % side plane) column) (slice_stays b n m x (l / side plane) (omega (arith, lt, le)) lt)
stays b m n (x ∷ xs) (suc k) all le plane lines line column = stays b m n xs k (All-tail (λ (q : ℕ). q < m) x xs all) le plane lines line column

-- ---- references

agree_by : (b : Book) (p structure n : ℕ) (v : View) → p < length b.pictures → ((lines : Lines) → IsReference structure lines → ShowsOf b v (nth n (anchors_before b lines p)) lines)
    → AgreeInside structure (dims_of b.settings) v (reference b (coded b p) p n)
unfolding reference
agree_by b p structure n v lt shows = record {
  same = λ plane lines line column is low small.
      shows lines is plane line column low small ∙ stays b p (length b.pictures) (anchors_before b lines p) n (anchors_below b lines p) (omega (arith, lt)) plane lines line column;
}

readable_by : (scan : Scan) (structure : ℕ) (lines : Lines) → HasStructure scan structure → IsReference structure lines → Readable scan lines
readable_by Progressive structure lines is reads = tt
readable_by Frames structure lines is reads = tt
readable_by Fields structure Whole (inl one) (inl three) = absurd (omega (arith, one, three))
readable_by Fields structure Whole (inr two) (inl three) = absurd (omega (arith, two, three))
readable_by Fields structure Whole is (inr e) = absurd cc
readable_by Fields structure Top is reads = tt
readable_by Fields structure Bottom is reads = tt

of_b : (kind structure : ℕ) (second : Bool) (store : Store) → nat_eq kind 3 ≡ true
    → references_by kind second structure store ≡ record { forward = pictures.frame_of store.older; backward = pictures.frame_of store.newer }
unfolding references_by
of_b kind structure second store e = rw e refl

of_p : (kind structure : ℕ) (second : Bool) (store : Store) → nat_eq kind 3 ≡ false → second ≡ false
    → references_by kind second structure store ≡ record { forward = pictures.frame_of store.newer; backward = pictures.no_view }
unfolding references_by
of_p kind structure second store e f = rw (e, f) refl

of_second : (kind structure : ℕ) (second : Bool) (store : Store) → nat_eq kind 3 ≡ false → second ≡ true
    → references_by kind second structure store ≡ record { forward = second_field_of structure store; backward = pictures.no_view }
unfolding references_by
of_second kind structure second store e f = rw (e, f) refl

-- references of a task, by the kinds of pictures
task_references : (b : Book) → IsBook b → (p r : ℕ) (refs : References) → p < length b.pictures
    → ((job_at b p).kind ≢ 1 → AgreeInside (job_at b p).structure (dims_of b.settings) refs.forward (reference b (coded b p) p (forward_number (job_at b p).kind)))
    → ((job_at b p).kind ≡ 3 → AgreeInside (job_at b p).structure (dims_of b.settings) refs.backward (reference b (coded b p) p 0))
    → AreReferencesOf (task_at b p r) refs
unfolding task_of context_of extension_of
task_references b h p r refs lt forward backward =
    let size = source_size b h p lt in
    record {
      forward = λ moves. subst (λ (d : Dims). AgreeInside (job_at b p).structure d refs.forward (reference b (coded b p) p (forward_number (job_at b p).kind))) (sym size) (forward moves);
      backward = λ three. subst (λ (d : Dims). AgreeInside (job_at b p).structure d refs.backward (reference b (coded b p) p 0)) (sym size) (backward three);
    }

-- ---- a first field that was painted

plane_part : (which : Lines) (d : Dims) (count : ℕ) (at : Plane → ℕ → ℕ → ℕ) (x : Samples) → IsPainted which d count at x → (plane : Plane)
    → HasPart which (side plane) d.mb_rows d.mb_width count (at plane) (plane_of x plane)
plane_part which d count at x h Y = h.luma
plane_part which d count at x h Cb = h.cb
plane_part which d count at x h Cr = h.cr

half_line : (plane : Plane) (rows n line : ℕ) → rows ≡ 2 * n → line < side plane * rows / 2 → line / side plane < n
half_line Y rows n line e lt = omega (arith, e, lt)
half_line Cb rows n line e lt = omega (arith, e, lt)
half_line Cr rows n line e lt = omega (arith, e, lt)

top_sample : (d : Dims) (n : ℕ) (at : Plane → ℕ → ℕ → ℕ) (x : Samples) → d.mb_rows ≡ 2 * n → IsPainted Top d (n * d.mb_width) at x → (plane : Plane) (line column : ℕ)
    → line < lines_of d plane Top → column < columns_of d plane → sample_of x plane (2 * line) column ≡ at plane (2 * line) column
top_sample d n at x two h plane line column low small =
    let part = plane_part Top d (n * d.mb_width) at x h plane in
    let down : line / side plane < n = half_line plane d.mb_rows n line two low in
    let across : column / side plane < d.mb_width = (div-lt_iff_lt-mul (some_side plane)).1 (omega (arith, small, mul_comm (side plane) d.mb_width)) in
    let fits = line_fits (line / side plane) n d.mb_width (column / side plane + 1) down (omega (arith, across)) in
    let number : number_among Top (2 * line) ≡ line = numbered Top line in
    let within : number_among Top (2 * line) / side plane * d.mb_width + column / side plane < n * d.mb_width =
    subst (λ (m : ℕ). m / side plane * d.mb_width + column / side plane < n * d.mb_width) (sym number) (omega (arith, fits)) in
    ap (λ (e : Dims). get_or (plane_of x plane) (2 * line * columns_of e plane + column) 0) h.dims
    ∙ part.part (2 * line) column (omega (arith, low)) small (among Top line) within

-- ---- a picture's references

module _ (b : Book) (h : IsBook b) (older : Option Samples) where
  -- what is seen before a picture
  record Sees (p : ℕ) : Type 0 where
    last : (lines : Lines) → Readable b.settings.scan lines → ShowsOf b (pictures.frame_of (newer_behind b p)) (nth 0 (anchors_before b lines p)) lines
    before : (lines : Lines) → Readable b.settings.scan lines → ShowsOf b (pictures.frame_of (older_behind b older p)) (nth 1 (anchors_before b lines p)) lines

  not_first : (p : ℕ) → nat_eq (job_at b p).kind 3 ≡ true → p ≡ 0 → ⊥
  not_first p e none =
      let three = eqb-true (job_at b p).kind 3 e in
      let one = first_kind b h in
      let same : (job_at b p).kind ≡ (job_at b 0).kind = ap (λ (n : ℕ). (job_at b n).kind) none in
      omega (arith, three, one, same)

  sees_free : (p : ℕ) → p < length b.pictures → nat_eq (job_at b p).kind 3 ≡ true → waits b.pictures p ≡ false → Sees p
  sees_free p lt is_b free =
      let v = views_at b h older p (omega (arith, lt)) free in
      record { last = v.last; before = v.before (v.ended (not_first p is_b)) }

  sees_second : (q : ℕ) → suc q < length b.pictures → nat_eq (job_at b (suc q)).kind 3 ≡ true → (job_at b q).structure ≡ 1 → IsSecond (job_at b q) (job_at b (suc q)) → Sees (suc q)
  sees_second q lt is_b one second =
      let before_b : nat_eq (job_at b q).kind 3 ≡ true = ap (λ (k : ℕ). nat_eq k 3) second.kind ∙ is_b in
      let s = sees_free q (omega (arith, lt)) before_b (first_free b q one (shape_at b h q (omega (arith, lt)))) in
      let none = b_ends_none b q before_b in
      let same = λ (lines : Lines). anchor_skipped b lines q (other_is b lines q before_b) in
      record {
        last = λ lines readable.
            subst (λ (x : Option Samples). ShowsOf b (pictures.frame_of x) (nth 0 (anchors_before b lines (suc q))) lines) (sym (newer_kept b older q none))
            (subst (λ (xs : List ℕ). ShowsOf b (pictures.frame_of (newer_behind b q)) (nth 0 xs) lines) (sym (same lines)) (s.last lines readable));
        before = λ lines readable.
            subst (λ (x : Option Samples). ShowsOf b (pictures.frame_of x) (nth 1 (anchors_before b lines (suc q))) lines) (sym (older_kept b older q none))
            (subst (λ (xs : List ℕ). ShowsOf b (pictures.frame_of (older_behind b older q)) (nth 1 xs) lines) (sym (same lines)) (s.before lines readable));
      }

  module _ (p r : ℕ) (lt : p < length b.pictures) (store : Store) (holds : HoldsBefore b older p store) where
    abbrev structure : ℕ
    structure = (job_at b p).structure

    abbrev kind : ℕ
    kind = (job_at b p).kind

    reads : (lines : Lines) → IsReference (job_at b p).structure lines → Readable b.settings.scan lines
    reads lines is = readable_by b.settings.scan (job_at b p).structure lines (picture_is_one b h p lt).structure is

    -- B pictures
    b_references : nat_eq (job_at b p).kind 3 ≡ true → Sees p → (second : Bool) → AreReferencesOf (task_at b p r) (references_by (job_at b p).kind second (job_at b p).structure store)
    b_references is_b s second =
        let number : forward_number (job_at b p).kind ≡ 1 = ap (λ (t : Bool). cond t 1 0) is_b in
        subst (AreReferencesOf (task_at b p r)) (sym (of_b (job_at b p).kind (job_at b p).structure second store is_b))
        (task_references b h p r (record { forward = pictures.frame_of store.older; backward = pictures.frame_of store.newer }) lt
        (λ moves. subst (λ (n : ℕ). AgreeInside structure (dims_of b.settings) (pictures.frame_of store.older) (reference b (coded b p) p n)) (sym number)
        (agree_by b p structure 1 (pictures.frame_of store.older) lt
        (λ lines is. subst (λ (x : Option Samples). ShowsOf b (pictures.frame_of x) (nth 1 (anchors_before b lines p)) lines) (sym holds.before) (s.before lines (reads lines is)))))
        (λ three. agree_by b p structure 0 (pictures.frame_of store.newer) lt
        (λ lines is. subst (λ (x : Option Samples). ShowsOf b (pictures.frame_of x) (nth 0 (anchors_before b lines p)) lines) (sym holds.last) (s.last lines (reads lines is)))))

    -- I and P pictures go by one view
    one_view : nat_eq (job_at b p).kind 3 ≡ false → (v : View) → ((job_at b p).kind ≢ 1 → (lines : Lines) → IsReference (job_at b p).structure lines → ShowsOf b v (nth 0 (anchors_before b lines p)) lines)
        → AreReferencesOf (task_at b p r) (record { forward = v; backward = pictures.no_view })
    one_view other v shows =
        let number : forward_number (job_at b p).kind ≡ 0 = ap (λ (t : Bool). cond t 1 0) other in
        task_references b h p r (record { forward = v; backward = pictures.no_view }) lt
        (λ moves. subst (λ (n : ℕ). AgreeInside structure (dims_of b.settings) v (reference b (coded b p) p n)) (sym number) (agree_by b p structure 0 v lt (shows moves)))
        (λ three. absurd (eqb-false (job_at b p).kind 3 other three))

    p_references : nat_eq (job_at b p).kind 3 ≡ false → waits b.pictures p ≡ false → (second : Bool) → second ≡ false
        → AreReferencesOf (task_at b p r) (references_by (job_at b p).kind second (job_at b p).structure store)
    p_references other free second first =
        let v = views_at b h older p (omega (arith, lt)) free in
        subst (AreReferencesOf (task_at b p r)) (sym (of_p (job_at b p).kind (job_at b p).structure second store other first))
        (one_view other (pictures.frame_of store.newer)
        (λ moves lines is. subst (λ (x : Option Samples). ShowsOf b (pictures.frame_of x) (nth 0 (anchors_before b lines p)) lines) (sym holds.last) (v.last lines (reads lines is))))

  module _ (q r : ℕ) (lt : suc q < length b.pictures) (store : Store) (holds : HoldsBefore b older (suc q) store) (one : (job_at b q).structure ≡ 1)
      (second : IsSecond (job_at b q) (job_at b (suc q))) (other : nat_eq (job_at b (suc q)).kind 3 ≡ false) where
    below : q < length b.pictures
    below = omega (arith, lt)

    anchor : nat_eq (job_at b q).kind 3 ≡ false
    anchor = ap (λ (k : ℕ). nat_eq k 3) second.kind ∙ other

    two_rows : (dims_of b.settings).mb_rows ≡ 2 * rows b
    unfolding dims_of
    two_rows = half_rows b.settings.scan b.settings.height (job_at b q).structure (picture_is_one b h q below).structure (omega (arith, one))

    -- the first field of its own frame
    first_shows : ShowsOf b (second_field_of 2 store) (nth 0 (anchors_before b Top (suc q))) Top
    unfolding sample_from
    first_shows plane line column low small =
        let f = holds.current second.structure in
        let at = samples_of b (coded b (length b.pictures)) (job_at b (suc q)).frame in
        let found = ap (nth 0) (anchor_met b Top q (anchor_is b Top q 1 true anchor one top_has.0)) ∙ nth_first q (anchors_before b Top q) in
        ap (λ (x : Option Samples). sample_of (or_none x) plane (2 * line) column) f.current
        ∙ top_sample (dims_of b.settings) (rows b) at f.frame two_rows f.painted plane line column low small
        ∙ ap (λ (k : ℕ). samples_of b (coded b (length b.pictures)) k plane (2 * line) column) (sym second.frame)
        ∙ own_sample b h q below Top (inr (inl (one, refl))) plane line column
        ∙ ap (λ (o : Option ℕ). picture_sample b (coded b (length b.pictures)) o plane Top line column) (sym found)

    -- and the second field of the anchor before
    second_shows : ShowsOf b (second_field_of 2 store) (nth 0 (anchors_before b Bottom (suc q))) Bottom
    unfolding sample_from
    second_shows plane line column low small =
        let v = views_at b h older q (omega (arith, lt)) (first_free b q one (shape_at b h q below)) in
        let r = readable_by b.settings.scan (job_at b q).structure Bottom (picture_is_one b h q below).structure (inr refl) in
        let same = anchor_skipped b Bottom q (anchor_is b Bottom q 1 false anchor one bottom_has.0) in
        ap (λ (x : Option Samples). sample_of (or_none x) plane (2 * line + 1) column) (holds.last ∙ newer_kept b older q (first_ends_none b q one))
        ∙ v.last Bottom r plane line column low small
        ∙ ap (λ (xs : List ℕ). picture_sample b (coded b (length b.pictures)) (nth 0 xs) plane Bottom line column) (sym same)

    shows_lines : (lines : Lines) → Readable b.settings.scan lines → ShowsOf b (second_field_of 2 store) (nth 0 (anchors_before b lines (suc q))) lines
    shows_lines Whole readable = absurd (no_whole b.settings.scan (job_at b q).structure (picture_is_one b h q below).structure (omega (arith, one)) readable)
    shows_lines Top readable = first_shows
    shows_lines Bottom readable = second_shows

    second_references : (is_second : Bool) → is_second ≡ true → AreReferencesOf (task_at b (suc q) r) (references_by (job_at b (suc q)).kind is_second (job_at b (suc q)).structure store)
    second_references is_second e =
        subst (AreReferencesOf (task_at b (suc q) r)) (sym (of_second (job_at b (suc q)).kind (job_at b (suc q)).structure is_second store other e))
        (one_view (suc q) r lt store holds other (second_field_of (job_at b (suc q)).structure store)
        (λ moves lines is. subst (λ (s : ℕ). ShowsOf b (second_field_of s store) (nth 0 (anchors_before b lines (suc q))) lines) (sym second.structure) (shows_lines lines (reads (suc q) r lt store holds lines is))))

  -- of any picture
  pub references_are : (p r : ℕ) (store : Store) → p < length b.pictures → HoldsBefore b older p store
      → AreReferencesOf (task_at b p r) (references_by (job_at b p).kind (nat_eq (job_at b p).structure 2) (job_at b p).structure store)
  references_are zero r store lt holds = by_first (shape_at b h zero lt)
    where
      by_first : Shape b.pictures zero → AreReferencesOf (task_at b zero r) (references_by (job_at b zero).kind (nat_eq (job_at b zero).structure 2) (job_at b zero).structure store)
      by_first shape = elim (cases_Bool (nat_eq (job_at b zero).kind 3)) [
        | inl is_b ↦ absurd (not_first zero is_b refl)
        | inr other ↦ p_references zero r lt store holds other refl (nat_eq (job_at b zero).structure 2) (not_second shape)
      ]
        where
          not_second : Shape b.pictures zero → nat_eq (job_at b zero).structure 2 ≡ false
          not_second (inl s) = ap (λ (n : ℕ). nat_eq n 2) s.1
          not_second (inr (inl s)) = ap (λ (n : ℕ). nat_eq n 2) s.1
          not_second (inr (inr s)) = let e = s.0 in absurd cc
  references_are (suc q) r store lt holds = by_shape (shape_at b h (suc q) lt)
    where
      free : waits b.pictures (suc q) ≡ false → nat_eq (job_at b (suc q)).structure 2 ≡ false
          → AreReferencesOf (task_at b (suc q) r) (references_by (job_at b (suc q)).kind (nat_eq (job_at b (suc q)).structure 2) (job_at b (suc q)).structure store)
      free none first = elim (cases_Bool (nat_eq (job_at b (suc q)).kind 3)) [
        | inl is_b ↦ b_references (suc q) r lt store holds is_b (sees_free (suc q) lt is_b none) (nat_eq (job_at b (suc q)).structure 2)
        | inr other ↦ p_references (suc q) r lt store holds other none (nat_eq (job_at b (suc q)).structure 2) first
      ]

      by_shape : Shape b.pictures (suc q) → AreReferencesOf (task_at b (suc q) r) (references_by (job_at b (suc q)).kind (nat_eq (job_at b (suc q)).structure 2) (job_at b (suc q)).structure store)
      by_shape (inl s) = free s.0 (ap (λ (n : ℕ). nat_eq n 2) s.1)
      by_shape (inr (inl s)) = free s.0 (ap (λ (n : ℕ). nat_eq n 2) s.1)
      by_shape (inr (inr s)) =
          let one = eqb-true (job_at b q).structure 1 s.0 in
          elim (cases_Bool (nat_eq (job_at b (suc q)).kind 3)) [
            | inl is_b ↦ b_references (suc q) r lt store holds is_b (sees_second q lt is_b one s.1) (nat_eq (job_at b (suc q)).structure 2)
            | inr other ↦ second_references q r lt store holds one s.1 other (nat_eq (job_at b (suc q)).structure 2) (ap (λ (n : ℕ). nat_eq n 2) s.1.structure)
          ]
