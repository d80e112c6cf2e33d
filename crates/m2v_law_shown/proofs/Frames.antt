-- The slices of a book's pictures, painted, give the frames of the group.
use Rattle.std.proofs.Common.{◌≡◌, ℕ, ◌+◌, ◌*◌, ◌/◌, ◌%◌, ◌<◌, ◌≤◌, inl, inr, Bool, true, false, List, length, Option, Some, refl, sym, ap, subst, ◌∙◌, arith}
use Rattle.std.specs.Prelude.{nat_eq}
use Rattle.std.proofs.lemmas.Bool.{cond-true, cond-false, cases_Bool, cases_lt, eqb-true, eqb-false}
use Rattle.m2v_plane.specs.declared.planes.Plane.{Plane}
use Rattle.m2v_plane.specs.declared.planes.Lines.{Lines}
use Rattle.m2v_plane.specs.declared.planes.Lines.TheVariants.{Whole, Top, Bottom}
use Rattle.m2v_plane.specs.Sizes.{side}
use Rattle.m2v_plane.specs.Samples.{blank, sample_of, is_among, number_among}
use Rattle.m2v_pred.specs.Motion.{own_lines}
use Rattle.m2v_set.specs.declared.settings.Scan.{Scan}
use Rattle.m2v_set.specs.declared.settings.Scan.TheVariants.{Progressive, Frames, Fields}
use Rattle.m2v_set.specs.Numbers.{dims_of, rows_by, frame_rows_by}
use Rattle.m2v_rate.specs.Plans.{plan_of}
use Rattle.m2v_rate.specs.declared.values.Plan.{Plan}
use Rattle.m2v_slice.specs.Slices.{CodedSlice, slice_of}
use Rattle.m2v_slice.specs.Laws.{IsSlice}
use Rattle.m2v_slice.specs.Headers.{context_of, extension_of}
use Rattle.m2v_slice.specs.Books.{Book, CodedPicture, rows, job_at, slice_at, has_lines, line_in, picture_sample, ledger_for, task_of, coded}
use Rattle.m2v_slice.specs.Conditions.{IsBook}
use Rattle.m2v_slice.proofs.Coded.{count, slice_is, plan_is}
use Rattle.m2v_slice.proofs.Groups.{HasStructure, picture_is_one, source_size}
use Rattle.m2v_slice.proofs.Near.{rows_frames, rows_fields}
use Rattle.m2v_slice.proofs.Steady.{IsPlan, task_is}
use Rattle.m2v_slice.proofs.Sound.{plan_is_good}
use Rattle.m2v_enc_stream.specs.Streams.{picture_with, frame_of}
use Rattle.m2v_model.specs.Samples.{References}
use Rattle.m2v_model.specs.Painting.{lines_in}
use Rattle.m2v_enc_stream.specs.Trees.{task_at}
use Rattle.m2v_law_shown.specs.Views.{AreReferencesOf, HasRowOf}
use Rattle.m2v_law_shown.specs.Rows.{rows_in, IsRowOf, samples_of}
use Rattle.m2v_law_shown.proofs.Only.{lines_by, only_one}
use Rattle.m2v_law_shown.proofs.Rows.{frame_painted, field_painted, fields_painted}

-- ---- a picture's samples among those of its frame

pub even_line : (line : ℕ) → nat_eq (line % 2) 0 ≡ true → 2 * (line / 2) ≡ line
even_line line e = let f = eqb-true (line % 2) 0 e in omega (arith, f)

pub odd_line : (line : ℕ) → nat_eq (line % 2) 0 ≡ false → (2 * (line / 2) + 1 ≡ line) × (line % 2 ≡ 1)
odd_line line e = elim (cases_lt 0 (line % 2)) [
  | inl some ↦ (omega (arith, some), omega (arith, some))
  | inr none ↦ absurd (eqb-false (line % 2) 0 e (omega (arith, none)))
]

bottom_odd : (line : ℕ) → nat_eq (line % 2) 1 ≡ true → nat_eq (line % 2) 0 ≡ false
bottom_odd line e = elim (cases_Bool (nat_eq (line % 2) 0)) [
  | inl even ↦ let one = eqb-true (line % 2) 1 e in let none = eqb-true (line % 2) 0 even in absurd (omega (arith, one, none))
  | inr odd ↦ odd
]

module _ (b : Book) (done : List CodedPicture) (p : ℕ) (plane : Plane) (line column : ℕ) where
  -- what stands at a line of the frame, by the number of the line among the picture's
  abbrev at_number : ℕ → ℕ
  at_number number = sample_of (slice_at done p (number / side plane)).row plane (number % side plane) column

  -- the line stands in the field of the frame that its parity says
  by_parity : (top : Bool) → nat_eq (line % 2) 0 ≡ top
      → samples_of b done (job_at b p).frame plane line column ≡ picture_sample b done (picture_with b (job_at b p).frame (lines_by top) (length done)) plane (lines_by top) (line / 2) column
  by_parity true even =
      cond-true (nat_eq (line % 2) 0) (picture_sample b done (picture_with b (job_at b p).frame Top (length done)) plane Top (line / 2) column)
      (picture_sample b done (picture_with b (job_at b p).frame Bottom (length done)) plane Bottom (line / 2) column) even
  by_parity false odd =
      cond-false (nat_eq (line % 2) 0) (picture_sample b done (picture_with b (job_at b p).frame Top (length done)) plane Top (line / 2) column)
      (picture_sample b done (picture_with b (job_at b p).frame Bottom (length done)) plane Bottom (line / 2) column) odd

  -- of a picture of this structure, which has lines of that field
  line_is : (n : ℕ) (top : Bool) → (job_at b p).structure ≡ n → has_lines n (lines_by top) ≡ true → nat_eq (line % 2) 0 ≡ top
      → line_in n (lines_by top) (line / 2) ≡ number_among (own_lines n) line
      → ((top : Bool) → has_lines (job_at b p).structure (lines_by top) ≡ true → picture_with b (job_at b p).frame (lines_by top) (length done) ≡ Some p)
      → samples_of b done (job_at b p).frame plane line column ≡ at_number (number_among (own_lines (job_at b p).structure) line)
  unfolding picture_sample
  line_is n top is has parity place only =
      by_parity top parity
      ∙ ap (λ (o : Option ℕ). picture_sample b done o plane (lines_by top) (line / 2) column) (only top (ap (λ (s : ℕ). has_lines s (lines_by top)) is ∙ has))
      ∙ ap at_number (ap (λ (s : ℕ). line_in s (lines_by top) (line / 2)) is ∙ (place ∙ ap (λ (s : ℕ). number_among (own_lines s) line) (sym is)))

  whole_is : (job_at b p).structure ≡ 3
      → ((top : Bool) → has_lines (job_at b p).structure (lines_by top) ≡ true → picture_with b (job_at b p).frame (lines_by top) (length done) ≡ Some p)
      → samples_of b done (job_at b p).frame plane line column ≡ at_number (number_among (own_lines (job_at b p).structure) line)
  unfolding has_lines
  whole_is is only = elim (cases_Bool (nat_eq (line % 2) 0)) [
    | inl even ↦ line_is 3 true is refl even (even_line line even) only
    | inr odd ↦ line_is 3 false is refl odd (odd_line line odd).0 only
  ]

  pub own_is : (scan : Scan) → HasStructure scan (job_at b p).structure
      → ((top : Bool) → has_lines (job_at b p).structure (lines_by top) ≡ true → picture_with b (job_at b p).frame (lines_by top) (length done) ≡ Some p)
      → is_among (own_lines (job_at b p).structure) line ≡ true
      → samples_of b done (job_at b p).frame plane line column ≡ at_number (number_among (own_lines (job_at b p).structure) line)
  unfolding has_lines
  own_is Progressive is only among = whole_is is only
  own_is Frames is only among = whole_is is only
  own_is Fields (inl one) only among = line_is 1 true one refl (ap (λ (s : ℕ). is_among (own_lines s) line) (sym one) ∙ among) refl only
  own_is Fields (inr two) only among = line_is 2 false two refl (bottom_odd line (ap (λ (s : ℕ). is_among (own_lines s) line) (sym two) ∙ among)) refl only

-- ---- the slices of a picture

module _ (b : Book) (h : IsBook b) (p : ℕ) (lt : p < length b.pictures) where
  own_structure : (r : ℕ) → (task_at b p r).context.extension.structure ≡ (job_at b p).structure
  unfolding task_of context_of extension_of
  own_structure r = refl

  own_row : (r : ℕ) → (task_at b p r).row ≡ r
  unfolding task_of
  own_row r = refl

  own_dims : (r : ℕ) → (task_at b p r).source.dims ≡ dims_of b.settings
  unfolding task_of
  own_dims r = source_size b h p lt

  pub only_here : (top : Bool) → has_lines (job_at b p).structure (lines_by top) ≡ true → picture_with b (job_at b p).frame (lines_by top) (length (coded b (length b.pictures))) ≡ Some p
  only_here top has =
      ap (λ (n : ℕ). picture_with b (job_at b p).frame (lines_by top) n) (count b (length b.pictures))
      ∙ only_one b h p top has (length b.pictures) lt (omega arith)

  same_slice : (r : ℕ) → r < rows b → slice_at (coded b (length b.pictures)) p r ≡ slice_of (task_at b p r)
  same_slice r small =
      slice_is b (length b.pictures) p r lt small
      ∙ ap (λ (x : Plan). slice_of (task_of b (coded b p) p x r)) (plan_is b (length b.pictures) p lt)

  pub slice_is_one : (r : ℕ) → r < rows b → IsSlice (task_at b p r)
  slice_is_one r small =
      let good = subst (IsPlan b.settings) (plan_is b (length b.pictures) p lt) (plan_is_good b h (length b.pictures) p lt (omega arith)) in
      task_is b h (coded b p) p (plan_of (ledger_for b (coded b p) p) p) r lt small good

  row_has : (r : ℕ) → r < rows b → HasRowOf (task_at b p r) (samples_of b (coded b (length b.pictures)) (job_at b p).frame)
  row_has r small = record {
    same = λ plane line column among row within.
        let lines : lines_in (task_at b p r).context ≡ own_lines (job_at b p).structure = ap own_lines (own_structure r) in
        let number : number_among (lines_in (task_at b p r).context) line ≡ number_among (own_lines (job_at b p).structure) line = ap (λ (l : Lines). number_among l line) lines in
        let here : number_among (own_lines (job_at b p).structure) line / side plane ≡ r = ap (λ (n : ℕ). n / side plane) (sym number) ∙ row ∙ own_row r in
        let there : is_among (own_lines (job_at b p).structure) line ≡ true = ap (λ (l : Lines). is_among l line) (sym lines) ∙ among in
        let done = coded b (length b.pictures) in
        ap (λ (n : ℕ). sample_of (slice_of (task_at b p r)).row plane (n % side plane) column) number
        ∙ ap (λ (x : CodedSlice). sample_of x.row plane (number_among (own_lines (job_at b p).structure) line % side plane) column) (sym (same_slice r small))
        ∙ ap (λ (q : ℕ). sample_of (slice_at done p q).row plane (number_among (own_lines (job_at b p).structure) line % side plane) column) (sym here)
        ∙ sym (own_is b done p plane line column b.settings.scan (picture_is_one b h p lt).structure only_here there);
  }

  -- a slice of the picture, with references that show what it was coded by
  pub is_row : (which : Lines) (refs : References) (r : ℕ) → own_lines (job_at b p).structure ≡ which → r < rows b → AreReferencesOf (task_at b p r) refs
      → IsRowOf (task_at b p r) r which (dims_of b.settings) refs (samples_of b (coded b (length b.pictures)) (job_at b p).frame)
  is_row which refs r lines small references = record {
    slice = slice_is_one r small;
    place = own_row r;
    lines = ap own_lines (own_structure r) ∙ lines;
    dims = own_dims r;
    references = references;
    has = row_has r small;
  }

-- ---- frames

pub half_rows : (scan : Scan) (height structure : ℕ) → HasStructure scan structure → structure ≤ 2 → frame_rows_by scan height ≡ 2 * rows_by scan height
half_rows scan height structure is small = rows_fields scan height structure is (λ three. omega (arith, three, small))

-- a frame picture
pub frame_rebuilt : (b : Book) (p : ℕ) (references : List Bool) (refs : References) → IsBook b → p < length b.pictures → (job_at b p).structure ≡ 3
    → ((r : ℕ) → r < rows b → AreReferencesOf (task_at b p r) refs)
    → rows_in (λ r. task_at b p r) references refs (rows b) (blank (dims_of b.settings) (dims_of b.settings).mb_rows)
    ≡ frame_of b (coded b (length b.pictures)) (job_at b p).frame
unfolding frame_of dims_of
frame_rebuilt b p references refs h lt three each =
    let d = dims_of b.settings in
    let at = samples_of b (coded b (length b.pictures)) (job_at b p).frame in
    let same : rows b ≡ frame_rows_by b.settings.scan b.settings.height = sym (rows_frames b.settings.scan b.settings.height (job_at b p).structure (picture_is_one b h p lt).structure three) in
    ap (λ (n : ℕ). rows_in (λ r. task_at b p r) references refs n (blank d d.mb_rows)) same
    ∙ frame_painted (λ r. task_at b p r) d references refs at
    (λ r small. let less : r < rows b = omega (arith, small, same) in is_row b h p lt Whole refs r (ap own_lines three) less (each r less))

-- two field pictures of a frame, the top one first
pub fields_rebuilt : (b : Book) (p q : ℕ) (first second : List Bool) (refs others : References) → IsBook b → p < length b.pictures → q < length b.pictures
    → (job_at b p).structure ≡ 1 → (job_at b q).structure ≡ 2 → (job_at b p).frame ≡ (job_at b q).frame
    → ((r : ℕ) → r < rows b → AreReferencesOf (task_at b p r) refs)
    → ((r : ℕ) → r < rows b → AreReferencesOf (task_at b q r) others)
    → rows_in (λ r. task_at b q r) second others (rows b) (rows_in (λ r. task_at b p r) first refs (rows b) (blank (dims_of b.settings) (dims_of b.settings).mb_rows))
    ≡ frame_of b (coded b (length b.pictures)) (job_at b p).frame
unfolding frame_of dims_of
fields_rebuilt b p q first second refs others h lt less one two same each all =
    let d = dims_of b.settings in
    let at = samples_of b (coded b (length b.pictures)) (job_at b p).frame in
    let half : frame_rows_by b.settings.scan b.settings.height ≡ 2 * rows b = half_rows b.settings.scan b.settings.height (job_at b p).structure (picture_is_one b h p lt).structure (omega (arith, one)) in
    let now = rows_in (λ r. task_at b p r) first refs (rows b) (blank d d.mb_rows) in
    fields_painted (λ r. task_at b q r) d (rows b) second others at now half
    (field_painted (λ r. task_at b p r) d (rows b) first refs at (λ r small. is_row b h p lt Top refs r (ap own_lines one) small (each r small)))
    (λ r small. subst (λ (k : ℕ). IsRowOf (task_at b q r) r Bottom d others (samples_of b (coded b (length b.pictures)) k)) (sym same) (is_row b h q less Bottom others r (ap own_lines two) small (all r small)))
