-- The states behind headers, slices and pictures of a group.
use Rattle.std.proofs.Common.{◌≡◌, ◌≢◌, ℕ, zero, suc, ◌+◌, ◌-◌, ◌*◌, ◌/◌, ◌<◌, ◌≤◌, inl, inr, Bool, true, false, not, ◌&&◌, ◌||◌, List, length, Option, Some, None, refl, sym, ap, ◌∙◌, arith}
use Rattle.std.specs.Prelude.{nat_eq, nat_lt, nat_le, if◌then◌else◌, is_some}
use Rattle.std.specs.Bool.{beq}
use Rattle.std.proofs.lemmas.Bool.{cases_eq, eq-eqb, ne_eqb, le-leb, lt-ltb}
use Rattle.std.proofs.Math.Nat.{mul_comm}
use Rattle.m2v_head.specs.declared.group.GroupInfo.{GroupInfo}
use Rattle.m2v_head.specs.declared.picture.PictureInfo.{PictureInfo}
use Rattle.m2v_head.specs.declared.picture.PictureExtension.{PictureExtension}
use Rattle.m2v_plane.specs.declared.dims.Dims.{Dims}
use Rattle.m2v_set.specs.declared.settings.Settings.{Settings}
use Rattle.m2v_set.specs.declared.settings.Scan.{Scan}
use Rattle.m2v_set.specs.declared.settings.Scan.TheVariants.{Progressive, Frames, Fields}
use Rattle.m2v_set.specs.Numbers.{dims_of, mb_width_of, rows_by, frame_rows_by}
use Rattle.m2v_set.specs.Rules.{is_progressive}
use Rattle.m2v_order.specs.declared.jobs.PictureJob.{PictureJob}
use Rattle.m2v_slice.specs.Headers.{sequence_of, sequence_extension_of, picture_of, extension_of, context_of}
use Rattle.m2v_slice.specs.Books.{Book, rows, job_at, task_of}
use Rattle.m2v_slice.specs.Conditions.{IsBook}
use Rattle.m2v_slice.proofs.Groups.{HasStructure, picture_is_one, source_size}
use Rattle.m2v_model.specs.declared.state.FirstField.{FirstField}
use Rattle.m2v_model.specs.declared.state.Open.{Open}
use Rattle.m2v_model.specs.declared.state.State.{State}
use Rattle.m2v_model.specs.States as model
use Rattle.m2v_model.specs.States.{at_first, one_anchor_more, columns_of, rows_of, picture_rows, drops, references_for, begun_open, with_slice, is_complete, is_second_field_due, has_anchor, is_same_sequence, slice_setup}
use Rattle.m2v_model.specs.Slices.{large_in}
use Rattle.m2v_model.specs.Streams.{sequence, group, picture, slice, after}
use Rattle.m2v_enc_stream.specs.Slices.{slice_read, setup_of, AreDecoded}
use Rattle.m2v_enc_stream.specs.Trees.{sequence_by, task_at}
use Rattle.m2v_enc_stream.specs.States.{state_with, open_at, waiting_behind, anchors_behind}
use Rattle.m2v_enc_stream.proofs.Turns.{IsTurn, turn_at, IsCounted, anchor_before_p, anchors_before_b}

-- ---- sizes

pub columns_are : (s : Settings) → columns_of (sequence_by s) ≡ mb_width_of s
unfolding sequence_of sequence_extension_of
columns_are s = omega arith

pub width_is : (s : Settings) → model.width_of (sequence_by s) ≡ s.width
unfolding sequence_of sequence_extension_of
width_is s = omega arith

pub height_is : (s : Settings) → model.height_of (sequence_by s) ≡ s.height
unfolding sequence_of sequence_extension_of
height_is s = omega arith

pub progressive_is : (s : Settings) → (sequence_by s).extension.progressive_sequence ≡ is_progressive s.scan
unfolding sequence_extension_of
progressive_is s = refl

rows_of_scan : (scan : Scan) (height : ℕ) → (if is_progressive scan then (height + 15) / 16 else 2 * ((height + 31) / 32)) ≡ frame_rows_by scan height
unfolding is_progressive frame_rows_by
rows_of_scan Progressive height = refl
rows_of_scan Frames height = refl
rows_of_scan Fields height = refl

pub rows_are : (s : Settings) → rows_of (sequence_by s) ≡ frame_rows_by s.scan s.height
unfolding sequence_extension_of
rows_are s =
    ap (λ (n : ℕ). if is_progressive s.scan then (n + 15) / 16 else 2 * ((n + 31) / 32)) (height_is s)
    ∙ rows_of_scan s.scan s.height

pub dims_are : (s : Settings) → model.dims_of (sequence_by s) ≡ dims_of s
unfolding dims_of
dims_are s =
    let width = width_is s in
    let height = height_is s in
    let columns = columns_are s in
    let lines = rows_are s in
    λ i. record { width = width i; height = height i; mb_width = columns i; mb_rows = lines i }

rows_by_structure : (scan : Scan) (height structure : ℕ) → HasStructure scan structure → (if nat_eq structure 3 then frame_rows_by scan height else frame_rows_by scan height / 2) ≡ rows_by scan height
unfolding rows_by frame_rows_by
rows_by_structure Progressive height structure e = rw e refl
rows_by_structure Frames height structure e = rw e refl
rows_by_structure Fields height structure (inl e) = rw e (let f : 2 * ((height + 31) / 32) / 2 ≡ (height + 31) / 32 = omega arith in f)
rows_by_structure Fields height structure (inr e) = rw e (let f : 2 * ((height + 31) / 32) / 2 ≡ (height + 31) / 32 = omega arith in f)

-- ---- the picture that is open

-- a picture none of whose macroblocks is large, with this row and these macroblocks
abbrev pub shown_open : PictureInfo → PictureExtension → Bool → List Bool → Bool → ℕ → ℕ → Open
shown_open info extension second references has row covered =
    record (begun_open info extension second false false references) { has_slice = has; row = row; covered = covered }

pub covered_is : (s : Settings) (job : PictureJob) (delay : ℕ) (references : List Bool) (n : ℕ) → (open_at s job delay references n).covered ≡ n * mb_width_of s
unfolding open_at
covered_is s job delay references n = refl

pub row_is : (s : Settings) (job : PictureJob) (delay : ℕ) (references : List Bool) (n : ℕ) → (open_at s job delay references n).row ≡ n - 1
unfolding open_at
row_is s job delay references n = refl

pub read_is : (s : Settings) (job : PictureJob) (delay : ℕ) (references : List Bool) (n : ℕ) → (open_at s job delay references n).slices_unread ≡ false
unfolding open_at
read_is s job delay references n = refl

rows_at : (s : Settings) (job : PictureJob) (delay : ℕ) (references : List Bool) (n : ℕ)
    → picture_rows (sequence_by s) (open_at s job delay references n) ≡ (if nat_eq job.structure 3 then rows_of (sequence_by s) else rows_of (sequence_by s) / 2)
unfolding open_at extension_of
rows_at s job delay references n = refl

-- a picture has its rows
pub picture_rows_are : (b : Book) → IsBook b → (p delay : ℕ) (references : List Bool) (n : ℕ) → p < length b.pictures
    → picture_rows (sequence_by b.settings) (open_at b.settings (job_at b p) delay references n) ≡ rows b
picture_rows_are b h p delay references n lt =
    let s = b.settings in
    rows_at s (job_at b p) delay references n
    ∙ ap (λ (k : ℕ). if nat_eq (job_at b p).structure 3 then k else k / 2) (rows_are s)
    ∙ rows_by_structure s.scan s.height (job_at b p).structure (picture_is_one b h p lt).structure

-- it is complete once all rows were read
pub complete_at : (b : Book) → IsBook b → (p delay : ℕ) (references : List Bool) → p < length b.pictures
    → is_complete (Some (sequence_by b.settings)) (Some (open_at b.settings (job_at b p) delay references (rows b))) ≡ true
complete_at b h p delay references lt =
    let s = b.settings in
    let o = open_at s (job_at b p) delay references (rows b) in
    let all : o.covered ≡ columns_of (sequence_by s) * picture_rows (sequence_by s) o =
    covered_is s (job_at b p) delay references (rows b)
    ∙ mul_comm (rows b) (mb_width_of s)
    ∙ sym (ap (λ (n : ℕ). n * picture_rows (sequence_by s) o) (columns_are s) ∙ ap (λ (n : ℕ). mb_width_of s * n) (picture_rows_are b h p delay references (rows b) lt)) in
    ap (λ (t : Bool). t || nat_eq o.covered (columns_of (sequence_by s) * picture_rows (sequence_by s) o)) (read_is s (job_at b p) delay references (rows b))
    ∙ eq-eqb o.covered (columns_of (sequence_by s) * picture_rows (sequence_by s) o) all

-- ---- the headers of a group

beq_same : (x : Bool) → beq x x ≡ true
beq_same true = refl
beq_same false = refl

all_four : (x y z w : Bool) → x ≡ true → y ≡ true → z ≡ true → w ≡ true → (x && y && z && w) ≡ true
all_four x y z w ex ey ez ew = rw (ex, ey, ez, ew) refl

pub same_sequence : (s : Settings) → is_same_sequence (Some (sequence_by s)) (sequence_by s) ≡ true
same_sequence s =
    let q = sequence_by s in
    all_four _ _ _ _ (eq-eqb (model.width_of q) (model.width_of q) refl) (eq-eqb (model.height_of q) (model.height_of q) refl)
    (beq_same q.extension.progressive_sequence) (eq-eqb q.extension.chroma_format q.extension.chroma_format refl)

-- behind the first sequence header
pub first_sequence : (s : Settings) → after at_first (sequence (sequence_by s)) ≡ state_with s false 0 None None
unfolding after sequence_of
first_sequence s = refl

-- behind a later one
pub next_sequence : (s : Settings) (closed : Bool) (anchors : ℕ) (waiting : Option FirstField) (open_one : Option Open)
    → after (state_with s closed anchors waiting open_one) (sequence (sequence_by s)) ≡ state_with s closed anchors waiting None
unfolding after sequence_of
next_sequence s closed anchors waiting open_one = refl

-- behind a group header
pub next_group : (s : Settings) (closed : Bool) (anchors : ℕ) (waiting : Option FirstField) (open_one : Option Open) (g : GroupInfo)
    → after (state_with s closed anchors waiting open_one) (group g) ≡ state_with s g.closed_gop anchors waiting None
unfolding after
next_group s closed anchors waiting open_one g = refl

-- ---- the headers of a picture

-- what is known where picture p begins
abbrev pub state_before : Book → Bool → ℕ → ℕ → Option Open → State
state_before b closed before p open_one = state_with b.settings closed (anchors_behind before b p) (waiting_behind b p) open_one

-- the references of picture p
abbrev pub references_at : Book → Bool → ℕ → ℕ → List Bool
references_at b closed before p = references_for (state_before b closed before p None) (job_at b p).kind (job_at b p).structure

-- behind n slices of picture p
abbrev pub state_at : Book → Bool → ℕ → ℕ → ℕ → ℕ → State
state_at b closed before p delay n =
    state_before b closed before (suc p) (Some (open_at b.settings (job_at b p) delay (references_at b closed before p) n))

pub same_state : (s : Settings) (closed : Bool) (a c : ℕ) (w x : Option FirstField) (o u : Open) → a ≡ c → w ≡ x → o ≡ u
    → state_with s closed a w (Some o) ≡ state_with s closed c x (Some u)
same_state s closed a c w x o u e f g = rw (e, f, g) refl

same_open : (info : PictureInfo) (extension : PictureExtension) (x y d : Bool) (references : List Bool) (n : ℕ) → x ≡ y → d ≡ false → 0 ≡ n
    → begun_open info extension x d d references
    ≡ shown_open info extension y references false 0 n
same_open info extension x y d references n e f g = rw (e, f, sym g) refl

anchors_step : (w : Option FirstField) (kind structure a : ℕ) (job : PictureJob) → kind ≡ job.kind → structure ≡ job.structure → IsTurn w job
    → (if (nat_eq structure 3 || is_some w) && not (nat_eq kind 3) then one_anchor_more a else a)
    ≡ (if nat_eq kind 3 then a else if nat_eq structure 1 then a else one_anchor_more a)
anchors_step w kind structure a job ek es (inl t) = rw (es, t.0, t.1) (by_kind (nat_eq kind 3))
  where
    by_kind : (x : Bool) → a ≡ (if x then a else a)
    by_kind true = refl
    by_kind false = refl
anchors_step w kind structure a job ek es (inr (inl t)) = rw (es, t.0, t.1) (by_kind (nat_eq kind 3))
  where
    by_kind : (x : Bool) → (if not x then one_anchor_more a else a) ≡ (if x then a else one_anchor_more a)
    by_kind true = refl
    by_kind false = refl
anchors_step w kind structure a job ek es (inr (inr t)) = rw (es, t.0, t.1) (by_kind (nat_eq kind 3))
  where
    by_kind : (x : Bool) → (if not x then one_anchor_more a else a) ≡ (if x then a else one_anchor_more a)
    by_kind true = refl
    by_kind false = refl

abbrev field_with : PictureJob → ℕ → Option FirstField
field_with job structure = Some (record { kind = job.kind; structure = structure })

waiting_step : (w : Option FirstField) (job : PictureJob) → IsTurn w job
    → (if nat_eq job.structure 3 || is_some w then None else field_with job job.structure) ≡ (if nat_eq job.structure 1 then field_with job 1 else None)
waiting_step w job (inl t) = rw (t.0, t.1) refl
waiting_step w job (inr (inl t)) = rw (t.0, t.1) refl
waiting_step w job (inr (inr t)) = rw (t.0, t.1) refl

second_is : (w : Option FirstField) (job : PictureJob) → IsTurn w job → is_some w ≡ nat_eq job.structure 2
second_is w job (inl t) = rw (t.0, t.1) refl
second_is w job (inr (inl t)) = rw (t.0, t.1) refl
second_is w job (inr (inr t)) = rw (t.0, t.1) refl

drop_by : (x y : Bool) → (x ≡ true → y ≡ true) → (x && not y) ≡ false
drop_by true y f = ap not (f refl)
drop_by false y f = refl

or_more : (x y : Bool) → x ≡ true → (x || y) ≡ true
or_more x y e = ap (λ (t : Bool). t || y) e

-- no B picture is dropped
pub none_dropped : (st : State) (kind : ℕ) → (kind ≡ 3 → 2 ≤ st.anchors) → drops st kind ≡ false
none_dropped st kind two = elim (cases_eq kind 3) [
  | inl e ↦ drop_by (nat_eq kind 3) _ (λ t. or_more (nat_le 2 st.anchors) _ (le-leb 2 st.anchors (two e)))
  | inr n ↦ ap (λ (t : Bool). t && not (nat_le 2 st.anchors || (nat_eq st.anchors 1 && st.closed_gop))) (ne_eqb kind 3 n)
]

pub header_after : (b : Book) → IsBook b → (closed : Bool) (before p delay : ℕ) (open_one : Option Open) → IsCounted b before → p < length b.pictures
    → after (state_before b closed before p open_one) (picture (picture_of (job_at b p) delay) (extension_of b.settings (job_at b p))) ≡ state_at b closed before p delay 0
unfolding after open_at picture_of extension_of anchors_behind waiting_behind
header_after b h closed before p delay open_one c lt =
    let job = job_at b p in
    let turn = turn_at b h p lt in
    let w = waiting_behind b p in
    let a = anchors_behind before b p in
    same_state b.settings closed _ _ _ _ _ _
    (anchors_step w job.kind job.structure a job refl refl turn)
    (waiting_step w job turn)
    (same_open (picture_of job delay) (extension_of b.settings job) (is_some w) (nat_eq job.structure 2) _ _ (0 * mb_width_of b.settings)
    (second_is w job turn)
    (none_dropped (state_before b closed before p open_one) job.kind (λ e. anchors_before_b b h before p c lt e))
    (let e : 0 ≡ 0 * mb_width_of b.settings = omega arith in e))

-- ---- slices

with_first : (info : PictureInfo) (extension : PictureExtension) (second : Bool) (references : List Bool) (before covered large : ℕ) → large ≡ 0
    → with_slice (Some (shown_open info extension second references false 0 before)) 0 covered large ≡ Some (shown_open info extension second references true 0 covered)
with_first info extension second references before covered large none = rw none refl

with_next : (info : PictureInfo) (extension : PictureExtension) (second has : Bool) (references : List Bool) (row now before covered large : ℕ) → large ≡ 0 → (now ≡ row → ⊥)
    → with_slice (Some (shown_open info extension second references has row before)) now covered large ≡ Some (shown_open info extension second references true now covered)
with_next info extension second has references row now before covered large none other = rw (ne_eqb now row other, none) refl

slice_step : (s : Settings) (job : PictureJob) (delay : ℕ) (references : List Bool) (n covered large : ℕ) → large ≡ 0 → covered ≡ suc n * mb_width_of s
    → with_slice (Some (open_at s job delay references n)) n covered large ≡ Some (open_at s job delay references (suc n))
unfolding open_at
slice_step s job delay references zero covered large none all =
    with_first (picture_of job delay) (extension_of s job) (nat_eq job.structure 2) references (0 * mb_width_of s) covered large none
    ∙ ap (λ (k : ℕ). Some (shown_open (picture_of job delay) (extension_of s job) (nat_eq job.structure 2) references true 0 k)) all
slice_step s job delay references (suc n) covered large none all =
    with_next (picture_of job delay) (extension_of s job) (nat_eq job.structure 2) (nat_lt 0 (suc n)) references (suc n - 1) (suc n) (suc n * mb_width_of s) covered large none (λ e. omega (arith, e))
    ∙ ap (λ (k : ℕ). Some (shown_open (picture_of job delay) (extension_of s job) (nat_eq job.structure 2) references true (suc n) k)) all
    ∙ ap (λ (k : ℕ). Some (shown_open (picture_of job delay) (extension_of s job) (nat_eq job.structure 2) references true k (suc (suc n) * mb_width_of s))) (let e : suc n ≡ suc (suc n) - 1 = omega arith in e)
    ∙ ap (λ (x : Bool). Some (shown_open (picture_of job delay) (extension_of s job) (nat_eq job.structure 2) references x (suc (suc n) - 1) (suc (suc n) * mb_width_of s))) (sym (lt-ltb 0 (suc (suc n)) (omega arith)))

task_covers : (b : Book) (p n : ℕ) → (slice_read (task_at b p n)).covered ≡ suc n * mb_width_of b.settings
unfolding slice_read task_of context_of
task_covers b p n = let e : (n + 1) * mb_width_of b.settings ≡ suc n * mb_width_of b.settings = ap (λ (k : ℕ). k * mb_width_of b.settings) (let f : n + 1 ≡ suc n = omega arith in f) in e

-- behind one slice more, none of whose macroblocks is large
pub slice_after : (b : Book) (closed : Bool) (before p delay n : ℕ) → large_in (slice_read (task_at b p n)) ≡ 0
    → after (state_at b closed before p delay n) (slice n (slice_read (task_at b p n))) ≡ state_at b closed before p delay (suc n)
unfolding after
slice_after b closed before p delay n none =
    ap (λ (o : Option Open). state_before b closed before (suc p) o)
    (slice_step b.settings (job_at b p) delay (references_at b closed before p) n (slice_read (task_at b p n)).covered (large_in (slice_read (task_at b p n))) none (task_covers b p n))

-- ---- what pictures and slices are asked for

-- the picture is the second field, where one is due
pub due_at : (b : Book) → IsBook b → (p delay : ℕ) → p < length b.pictures
    → is_second_field_due (waiting_behind b p) (picture_of (job_at b p) delay) (extension_of b.settings (job_at b p)) ≡ true
unfolding picture_of extension_of
due_at b h p delay lt = by_turn (waiting_behind b p) (job_at b p) (turn_at b h p lt)
  where
    may : (k : ℕ) → model.may_follow k k ≡ true
    may k = or_more (nat_eq k k) _ (eq-eqb k k refl)

    by_turn : (w : Option FirstField) (job : PictureJob) → IsTurn w job
        → is_second_field_due w (picture_of job delay) (extension_of b.settings job) ≡ true
    by_turn w job (inl t) = ap (λ (x : Option FirstField). is_second_field_due x (picture_of job delay) (extension_of b.settings job)) t.0
    by_turn w job (inr (inl t)) = ap (λ (x : Option FirstField). is_second_field_due x (picture_of job delay) (extension_of b.settings job)) t.0
    by_turn w job (inr (inr t)) =
        ap (λ (x : Option FirstField). is_second_field_due x (picture_of job delay) (extension_of b.settings job)) t.0
        ∙ ap (λ (k : ℕ). not (nat_eq k 3) && (not (nat_eq k 1) && model.may_follow job.kind job.kind)) t.1
        ∙ may job.kind

-- a P picture has an anchor
pub anchored_at : (b : Book) → IsBook b → (closed : Bool) (before p delay : ℕ) (open_one : Option Open) → IsCounted b before → p < length b.pictures
    → has_anchor (state_before b closed before p open_one) (picture_of (job_at b p) delay) ≡ true
unfolding picture_of
anchored_at b h closed before p delay open_one c lt = elim (cases_eq (job_at b p).kind 2) [
  | inl e ↦
      let one = anchor_before_p b h before p c lt (λ f. omega (arith, e, f)) in
      both (not (nat_eq (job_at b p).kind 2)) (is_some (waiting_behind b p)) (nat_le 1 (anchors_behind before b p)) (le-leb 1 (anchors_behind before b p) one)
  | inr n ↦ or_more (not (nat_eq (job_at b p).kind 2)) _ (ap not (ne_eqb (job_at b p).kind 2 n))
]
  where
    both : (x y z : Bool) → z ≡ true → (x || (y || z)) ≡ true
    both true y z e = refl
    both false true z e = refl
    both false false z e = e

-- the fields that it may read were decoded
pub decoded_at : (b : Book) → IsBook b → (closed : Bool) (before p : ℕ) → IsCounted b before → p < length b.pictures
    → AreDecoded (job_at b p).kind (references_at b closed before p)
decoded_at b h closed before p c lt =
    let job = job_at b p in
    let kind = (picture_is_one b h p lt).kind in
    let a = anchors_behind before b p in
    let one : job.kind ≢ 1 → nat_le 1 a ≡ true = λ n. le-leb 1 a (anchor_before_p b h before p c lt n) in
    let two : job.kind ≡ 3 → nat_le 2 a ≡ true = λ e. le-leb 2 a (anchors_before_b b h before p c lt e) in
    record {
      forward_top = λ n. forward job.kind (nat_le 1 a) (nat_le 2 a) _ kind n (one n) two;
      forward_bottom = λ n. forward job.kind (nat_le 1 a) (nat_le 2 a) _ kind n (one n) two;
      backward_top = λ e. backward job.kind (nat_le 1 a) e (one (λ f. omega (arith, e, f)));
      backward_bottom = λ e. backward job.kind (nat_le 1 a) e (one (λ f. omega (arith, e, f)));
    }
  where
    forward : (kind : ℕ) (x y z : Bool) → (1 ≤ kind) × (kind ≤ 3) → kind ≢ 1 → x ≡ true → (kind ≡ 3 → y ≡ true)
        → ((nat_eq kind 2 && (x || z)) || (nat_eq kind 3 && y)) ≡ true
    forward kind x y z is n e f = elim (cases_eq kind 2) [
      | inl two ↦ or_more (nat_eq kind 2 && (x || z)) _ (rw (two, e) refl)
      | inr other ↦ let three : kind ≡ 3 = omega (arith, is, n, other) in rw (three, f three) refl
    ]

    backward : (kind : ℕ) (x : Bool) → kind ≡ 3 → x ≡ true → (nat_eq kind 3 && x) ≡ true
    backward kind x e f = rw (e, f) refl

-- what its slices are read by
pub setup_at : (b : Book) → IsBook b → (closed : Bool) (before p delay n r : ℕ) → p < length b.pictures
    → setup_of (task_at b p r) (references_at b closed before p)
    ≡ slice_setup (state_at b closed before p delay n) (sequence_by b.settings) (open_at b.settings (job_at b p) delay (references_at b closed before p) n)
unfolding slice_setup open_at task_of context_of picture_of
setup_at b h closed before p delay n r lt =
    let job = job_at b p in
    let s = b.settings in
    let refs = references_at b closed before p in
    ap (λ (d : Dims). record { context = context_of s job; dims = d; references = refs }) (source_size b h p lt ∙ sym (dims_are s))
    ∙ ap (λ (k : ℕ). record { context = record (context_of s job) { columns = k }; dims = model.dims_of (sequence_by s); references = refs }) (sym (columns_are s))
