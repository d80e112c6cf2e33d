-- What is known of a book's pictures.
use Rattle.std.proofs.Common.{◌≡◌, ℕ, ◌+◌, ◌*◌, ◌/◌, ◌<◌, ◌≤◌, ◌⊎◌, List, [], ◌∷◌, length, get_or, refl, sym, ap, subst, ◌∙◌, arith, inl, inr}
use Rattle.std.specs.Prelude.{All}
use Rattle.std.proofs.lemmas.List.Elements.{All-nil, All-cons}
use Rattle.m2v_plane.specs.Sizes.{IsSize, part_of}
use Rattle.m2v_plane.specs.Samples.{Samples}
use Rattle.m2v_plane.specs.Fields.{no_samples}
use Rattle.m2v_pred.specs.Motion.{own_lines}
use Rattle.m2v_set.specs.declared.settings.Settings.{Settings}
use Rattle.m2v_set.specs.declared.settings.Scan.{Scan}
use Rattle.m2v_set.specs.declared.settings.Scan.TheVariants.{Progressive, Frames, Fields}
use Rattle.m2v_set.specs.Numbers.{dims_of, rows_by, frame_rows_by}
use Rattle.m2v_set.specs.Rules.{Passes}
use Rattle.m2v_set.specs.Bounds.{Bounds}
use Rattle.m2v_set.proofs.Facts.{bounds}
use Rattle.m2v_order.specs.declared.jobs.PictureJob.{PictureJob}
use Rattle.m2v_order.specs.Coding.{structures}
use Rattle.m2v_order.specs.Calls.{IsFromIntra}
use Rattle.m2v_order.specs.Groups.{Group, Queue, first_of, group_of, IsSoundQueue}
use Rattle.m2v_order.specs.Whole.{IsKind, fields_of, IsGroupOf}
use Rattle.m2v_order.proofs.Queues.{grouped, top_of, Due, due_is, Turn, turn_is, group_places}
use Rattle.m2v_order.proofs.Turns.{turn_intra}
use Rattle.m2v_enc_activity.specs.Activity.{IsPictureOf, rows_in}
use Rattle.m2v_rate.specs.Plans.{Entries}
use Rattle.m2v_rate.proofs.Caps.{step_some}
use Rattle.m2v_slice.specs.Books.{Book, rows, no_job, job_at}
use Rattle.m2v_slice.specs.Conditions.{IsBook}
use Rattle.m2v_slice.specs.Needs.{all_flat}

-- ---- sizes

rows_bounds : (scan : Scan) (height : ℕ) → height ≤ 1152
    → ((height + 15) / 16 ≤ frame_rows_by scan height) × (frame_rows_by scan height ≤ 72) × (rows_by scan height ≤ 72)
unfolding frame_rows_by rows_by
rows_bounds Progressive height low = (omega arith, omega arith, omega arith)
rows_bounds Frames height low = (omega arith, omega arith, omega arith)
rows_bounds Fields height low = (omega arith, omega arith, omega arith)

pub size_is : (s : Settings) → Bounds s → IsSize (dims_of s)
unfolding dims_of
size_is s h =
    let rows = rows_bounds s.scan s.height h.size.height in
    record {
      wide = omega (arith, h.size.wide);
      width = h.size.width;
      tall = omega (arith, h.size.tall, step_some s.scan);
      height = h.size.height;
      mb_width = refl;
      covered = rows.0;
      mb_rows = rows.1;
    }

pub rows_few : (b : Book) → Bounds b.settings → rows b ≤ 72
rows_few b h = (rows_bounds b.settings.scan b.settings.height h.size.height).2

-- ---- structures

-- a picture of a frame, or of one of its fields, as the scan is
abbrev pub HasStructure : Scan → ℕ → Type 0
HasStructure Progressive structure = structure ≡ 3
HasStructure Frames structure = structure ≡ 3
HasStructure Fields structure = (structure ≡ 1) ⊎ (structure ≡ 2)

structures_of : (scan : Scan) (h : PictureJob) → All (λ (j : PictureJob). HasStructure scan j.structure) (fields_of scan h)
unfolding structures
structures_of Progressive h =
    All-cons (λ (j : PictureJob). HasStructure Progressive j.structure) (record h { structure = 3 }) [] refl (All-nil _)
structures_of Frames h =
    All-cons (λ (j : PictureJob). HasStructure Frames j.structure) (record h { structure = 3 }) [] refl (All-nil _)
structures_of Fields h =
    All-cons (λ (j : PictureJob). HasStructure Fields j.structure) (record h { structure = 1 }) (record h { structure = 2 } ∷ []) (inl refl)
    (All-cons (λ (j : PictureJob). HasStructure Fields j.structure) (record h { structure = 2 }) [] (inr refl) (All-nil _))

pub structure_low : (scan : Scan) (n : ℕ) → HasStructure scan n → (1 ≤ n) × (n ≤ 3)
structure_low Progressive n e = (omega arith, omega arith)
structure_low Frames n e = (omega arith, omega arith)
structure_low Fields n (inl e) = (omega arith, omega arith)
structure_low Fields n (inr e) = (omega arith, omega arith)

rows_whole : (n m r total : ℕ) → n ≡ 3 → r < m → m ≡ total → 16 * r + 16 ≤ part_of (own_lines n) (16 * total)
rows_whole n m r total e lt same = rw e (omega (arith, lt, same))

rows_field : (n m r : ℕ) → (n ≡ 1) ⊎ (n ≡ 2) → r < m → 16 * r + 16 ≤ part_of (own_lines n) (16 * (2 * m))
rows_field n m r (inl e) lt = rw e (omega (arith, lt))
rows_field n m r (inr e) lt = rw e (omega (arith, lt))

-- a row of a picture lies within its lines
pub row_within : (scan : Scan) (height n r : ℕ) → HasStructure scan n → r < rows_by scan height
    → 16 * r + 16 ≤ part_of (own_lines n) (16 * frame_rows_by scan height)
unfolding rows_by frame_rows_by
row_within Progressive height n r is lt = rows_whole n ((height + 15) / 16) r ((height + 15) / 16) is lt refl
row_within Frames height n r is lt = rows_whole n (2 * ((height + 31) / 32)) r (2 * ((height + 31) / 32)) is lt refl
row_within Fields height n r is lt = rows_field n ((height + 31) / 32) r is lt

-- the macroblock rows of a picture are those of the settings
pub rows_one : (scan : Scan) (height n : ℕ) → HasStructure scan n → part_of (own_lines n) (frame_rows_by scan height) ≡ rows_by scan height
unfolding rows_by frame_rows_by
rows_one Progressive height n is = rw is refl
rows_one Frames height n is = rw is refl
rows_one Fields height n (inl e) = rw e (omega arith)
rows_one Fields height n (inr e) = rw e (omega arith)

rows_some : (scan : Scan) (height : ℕ) → 1 ≤ height → 1 ≤ rows_by scan height
unfolding rows_by frame_rows_by
rows_some Progressive height some = omega arith
rows_some Frames height some = omega arith
rows_some Fields height some = omega arith

-- ---- pictures of a group, and of a book

-- what is known of a picture of a group
pub record IsPictureIn (s : Settings) (frames : List Samples) (j : PictureJob) : Type 0 where
  pub kind : IsKind j
  pub structure : HasStructure s.scan j.structure
  pub frame : j.frame < length frames
  pub display : j.frame ≤ j.display

abbrev IsPlaced : ℕ → ℕ → PictureJob → Type 0
IsPlaced first count j = (j.display ≡ first + j.frame) × (j.frame < count)

module _ (s : Settings) (g : Group Samples) (passes : Passes s) (h : IsGroupOf s g) where
  -- the turn of the queue that handed the group out
  pub turn_of : Turn h.queue
  turn_of =
      let q = h.queue in
      turn_is q (grouped q.settings (subst Passes (sym h.settings) passes)) h.sound (due_is q h.due)

  places_of : All (IsPlaced (first_of h.queue) (length g.frames)) g.pictures
  places_of =
      subst (λ (x : Group Samples). All (IsPlaced (first_of h.queue) (length x.frames)) x.pictures) (sym h.is) (group_places h.queue h.sound turn_of)

  pub pictures_in : All (IsPictureIn s g.frames) g.pictures
  pictures_in p d lt =
      let place = places_of p d lt in
      let all = all_flat (λ (j : PictureJob). HasStructure s.scan j.structure) (fields_of s.scan) h.heads (structures_of s.scan) in
      record {
        kind = h.kinds p d lt;
        structure = subst (All (λ (j : PictureJob). HasStructure s.scan j.structure)) (sym h.fields) all p d lt;
        frame = place.1;
        display = omega (arith, place.0);
      }

abbrev pub IsPicture : Book → ℕ → Type 0
IsPicture b p = IsPictureIn b.settings b.frames (job_at b p)

pub passes_of : (b : Book) → IsBook b → Passes b.settings
passes_of b h =
    let e : b.ledger.settings ≡ b.settings = ap (λ (l : Entries). l.settings) h.ledger.begun ∙ h.ledger.settings in
    subst Passes e h.ledger.ledger.steady.begun.passes

abbrev group_in : (b : Book) → IsBook b → Group Samples
group_in b h = record { frames = b.frames; pictures = b.pictures; before = h.last }

pub picture_is_one : (b : Book) → IsBook b → (p : ℕ) → p < length b.pictures → IsPicture b p
picture_is_one b h p lt = pictures_in b.settings (group_in b h) (passes_of b h) h.group p no_job lt

begins : (q : Queue Samples) → Passes q.settings → IsSoundQueue q → Due q → Turn q → IsFromIntra (group_of q).pictures
unfolding group_of
begins q passes sound due turn =
    turn_intra q.settings q.pushed (first_of q) (top_of q) (grouped q.settings passes) turn.near turn.next (sound.clear due.some)

-- the group begins with an I picture
pub from_intra : (b : Book) → IsBook b → IsFromIntra b.pictures
from_intra b h =
    let q = h.group.queue in
    let passes : Passes q.settings = subst Passes (sym h.group.settings) (passes_of b h) in
    subst (λ (g : Group Samples). IsFromIntra g.pictures) (sym h.group.is) (begins q passes h.group.sound (due_is q h.group.due) (turn_of b.settings (group_in b h) (passes_of b h) h.group))

-- the source of a picture is of the settings' size
pub source_size : (b : Book) → IsBook b → (p : ℕ) → p < length b.pictures → (get_or b.frames (job_at b p).frame no_samples).dims ≡ dims_of b.settings
source_size b h p lt = h.sizes (job_at b p).frame no_samples (picture_is_one b h p lt).frame

-- a picture has so many rows
pub rows_are : (s : Settings) (n : ℕ) → HasStructure s.scan n → rows_in (dims_of s) n ≡ rows_by s.scan s.height
unfolding dims_of
rows_are s n is = rows_one s.scan s.height n is

-- a group's pictures can be looked at
pub looked_at : (s : Settings) (g : Group Samples) → Passes s → IsGroupOf s g
    → All (IsPictureOf (length g.frames)) g.pictures × All (λ (j : PictureJob). 1 ≤ rows_in (dims_of s) j.structure) g.pictures
looked_at s g passes h = (
  λ p d lt.
      let x = pictures_in s g passes h p d lt in
      let low = structure_low s.scan (get_or g.pictures p d).structure x.structure in
      record { frame = x.frame; kind = x.kind.0; known = x.kind.1; structure = low.0; whole = low.1 },
  λ p d lt.
      let x = pictures_in s g passes h p d lt in
      omega (arith, rows_are s (get_or g.pictures p d).structure x.structure, rows_some s.scan s.height (omega (arith, (bounds s passes).size.tall, step_some s.scan))),
)
