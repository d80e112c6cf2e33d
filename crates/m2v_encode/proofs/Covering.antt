-- Each frame of a group has its pictures.
use Rattle.std.proofs.Common.{◌≡◌, ℕ, zero, suc, ◌+◌, ◌-◌, ◌<◌, ◌≤◌, inl, inr, Bool, true, false, cond, List, [], ◌∷◌, ◌++◌, length, map, get_or, Option, Some, refl, sym, ap, subst, ◌∙◌, arith, append_assoc, eq-eqb}
use Rattle.std.specs.Prelude.{nat_eq, ◌&&◌}
use Rattle.std.specs.List.{flat_map}
use Rattle.std.proofs.lemmas.Bool.{cond-true, cases_lt, cases_Bool, and_from}
use Rattle.std.proofs.lemmas.List.{length-append, get_or_append_left}
use Rattle.std.proofs.lemmas.Grind.{flat_map-append}
use Rattle.m2v_plane.specs.declared.planes.Lines.{Lines}
use Rattle.m2v_plane.specs.declared.planes.Lines.TheVariants.{Top, Bottom}
use Rattle.m2v_plane.specs.Samples.{Samples}
use Rattle.m2v_set.specs.declared.settings.Settings.{Settings}
use Rattle.m2v_set.specs.declared.settings.Scan.{Scan}
use Rattle.m2v_set.specs.declared.settings.Scan.TheVariants.{Progressive, Frames, Fields}
use Rattle.m2v_set.specs.Rules.{Passes}
use Rattle.m2v_order.specs.declared.jobs.PictureJob.{PictureJob}
use Rattle.m2v_order.specs.Coding.{is_anchor, kind_of, frames_between, in_order, structures}
use Rattle.m2v_order.specs.Groups.{Queue, Group, first_of, group_anchors, group_of, jobs_of, past_last, IsSoundQueue, is_due}
use Rattle.m2v_order.proofs.Queues.{grouped, due_is, turn_is, group_length}
use Rattle.m2v_order.proofs.Orders.{frames_split, frames_one}
use Rattle.m2v_slice.specs.Books.{Book, job_at, no_job, has_lines}
use Rattle.m2v_slice.specs.Conditions.{IsBook}
use Rattle.m2v_slice.proofs.Groups.{passes_of}
use Rattle.m2v_law_shown.specs.m2v_enc_stream.Streams.{picture_with}
use Rattle.m2v_law_shown.proofs.Only.{Ascends, lines_by, ascends}

-- ---- numbers in order

-- a number stands in a list
record Has (i : ℕ) (xs : List ℕ) : Type 0 where
  before : List ℕ
  after : List ℕ
  is : xs ≡ before ++ i ∷ after

has_behind : (i : ℕ) (front xs : List ℕ) → Has i xs → Has i (front ++ xs)
has_behind i front xs h = record { before = front ++ h.before; after = h.after; is = ap (λ (t : List ℕ). front ++ t) h.is ∙ sym (append_assoc front h.before (i ∷ h.after)) }

has_before : (i : ℕ) (xs back : List ℕ) → Has i xs → Has i (xs ++ back)
has_before i xs back h = record { before = h.before; after = h.after ++ back; is = ap (λ (t : List ℕ). t ++ back) h.is ∙ append_assoc h.before (i ∷ h.after) back }

between_has : (from to i : ℕ) → from ≤ i → i < to → Has i (frames_between from to)
between_has from to i low high = record {
  before = frames_between from i;
  after = frames_between (i + 1) to;
  is = frames_split from i to low (omega (arith, high))
      ∙ ap (λ (t : List ℕ). frames_between from i ++ t) (frames_split i (i + 1) to (omega arith) (omega (arith, high)) ∙ ap (λ (t : List ℕ). t ++ frames_between (i + 1) to) (frames_one i));
}

order_has : (from : ℕ) (xs : List ℕ) (i : ℕ) → Ascends from xs → from ≤ i → i < past_last from xs → Has i (in_order from xs)
unfolding in_order past_last Ascends
order_has from [] i up low high = absurd (omega (arith, low, high))
order_has from (a ∷ more) i up low high = elim (cases_lt i a) [
  | inl below ↦ has_behind i (a ∷ []) (frames_between from a ++ in_order (a + 1) more) (has_before i (frames_between from a) (in_order (a + 1) more) (between_has from a i low below))
  | inr past ↦ elim (cases_lt a i) [
    | inl above ↦ has_behind i (a ∷ []) (frames_between from a ++ in_order (a + 1) more) (has_behind i (frames_between from a) (in_order (a + 1) more) (order_has (a + 1) more i up.1 (omega (arith, above)) high))
    | inr same ↦
        let e : a ≡ i = omega (arith, past, same) in
        record { before = []; after = frames_between from a ++ in_order (a + 1) more; is = ap (λ (x : ℕ). x ∷ (frames_between from a ++ in_order (a + 1) more)) e }
  ]
]

-- ---- pictures

-- a picture of a frame with these lines
record IsThere (jobs : List PictureJob) (k : ℕ) (lines : Lines) : Type 0 where
  place : ℕ
  below : place < length jobs
  frame : (get_or jobs place no_job).frame ≡ k
  has : has_lines (get_or jobs place no_job).structure lines ≡ true

there_behind : (front jobs back : List PictureJob) (k : ℕ) (lines : Lines) → IsThere jobs k lines → IsThere (front ++ (jobs ++ back)) k lines
there_behind front jobs back k lines t =
    let at : get_or (front ++ (jobs ++ back)) (length front + t.place) no_job ≡ get_or jobs t.place no_job = placed front jobs back t.place t.below in
    record {
      place = length front + t.place;
      below = omega (arith, t.below, length-append front (jobs ++ back), length-append jobs back);
      frame = ap (λ (j : PictureJob). j.frame) at ∙ t.frame;
      has = ap (λ (j : PictureJob). has_lines j.structure lines) at ∙ t.has;
    }
  where
    placed : (front jobs back : List PictureJob) (i : ℕ) → i < length jobs → get_or (front ++ (jobs ++ back)) (length front + i) no_job ≡ get_or jobs i no_job
    placed [] jobs back i lt =
        let e : 0 + i ≡ i = omega arith in
        ap (λ (n : ℕ). get_or (jobs ++ back) n no_job) e ∙ get_or_append_left jobs back no_job i lt
    placed (f ∷ front) jobs back i lt =
        let e : length (f ∷ front) + i ≡ suc (length front + i) = omega arith in
        ap (λ (n : ℕ). get_or (f ∷ (front ++ (jobs ++ back))) n no_job) e ∙ placed front jobs back i lt

own_there : (scan : Scan) (f : ℕ → PictureJob) (k : ℕ) (top : Bool) → ((n : ℕ) → (f n).frame ≡ k) → ((n : ℕ) → (f n).structure ≡ n) → IsThere (map f (structures scan)) k (lines_by top)
unfolding structures has_lines
own_there Progressive f k true frame structure = record { place = 0; below = omega arith; frame = frame 3; has = ap (λ (n : ℕ). has_lines n Top) (structure 3) }
own_there Progressive f k false frame structure = record { place = 0; below = omega arith; frame = frame 3; has = ap (λ (n : ℕ). has_lines n Bottom) (structure 3) }
own_there Frames f k true frame structure = record { place = 0; below = omega arith; frame = frame 3; has = ap (λ (n : ℕ). has_lines n Top) (structure 3) }
own_there Frames f k false frame structure = record { place = 0; below = omega arith; frame = frame 3; has = ap (λ (n : ℕ). has_lines n Bottom) (structure 3) }
own_there Fields f k true frame structure = record { place = 0; below = omega arith; frame = frame 1; has = ap (λ (n : ℕ). has_lines n Top) (structure 1) }
own_there Fields f k false frame structure = record { place = 1; below = omega arith; frame = frame 2; has = ap (λ (n : ℕ). has_lines n Bottom) (structure 2) }

jobs_there : (s : Settings) (pushed first i k : ℕ) (top : Bool) (xs : List ℕ) → Has i xs → i ≡ first + k → IsThere (flat_map (jobs_of s pushed first) xs) k (lines_by top)
jobs_there s pushed first i k top xs h e =
    let f = jobs_of s pushed first in
    let job = λ (structure : ℕ). let j : PictureJob = record { frame = i - first; display = i; kind = kind_of s pushed i; structure = structure } in j in
    let is : flat_map f xs ≡ flat_map f h.before ++ (f i ++ flat_map f h.after) = ap (flat_map f) h.is ∙ flat_map-append f h.before (i ∷ h.after) in
    subst (λ (js : List PictureJob). IsThere js k (lines_by top)) (sym is)
    (there_behind (flat_map f h.before) (f i) (flat_map f h.after) k (lines_by top) (own_there s.scan job k top (λ n. omega (arith, e)) (λ n. refl)))

group_there : (q : Queue Samples) (k : ℕ) (top : Bool) → Passes q.settings → IsSoundQueue q → is_due q ≡ true
    → k < length (group_of q).frames → IsThere (group_of q).pictures k (lines_by top)
unfolding group_of
group_there q k top passes sound is lt =
    let turn = turn_is q (grouped q.settings passes) sound (due_is q is) in
    let size = group_length q sound turn in
    let high : first_of q + k < past_last (first_of q) (group_anchors q) = omega (arith, lt, size) in
    jobs_there q.settings q.pushed (first_of q) (first_of q + k) k top (in_order (first_of q) (group_anchors q))
    (order_has (first_of q) (group_anchors q) (first_of q + k) (ascends (is_anchor q.settings q.pushed) _ (first_of q)) (omega arith) high) refl

with_some : (b : Book) (k : ℕ) (lines : Lines) (n p : ℕ) → p < n → (job_at b p).frame ≡ k → has_lines (job_at b p).structure lines ≡ true
    → (q : ℕ) × (picture_with b k lines n ≡ Some q)
unfolding picture_with
with_some b k lines zero p lt frame has = absurd (omega (arith, lt))
with_some b k lines (suc n) p lt frame has = elim (cases_Bool (nat_eq (job_at b n).frame k && has_lines (job_at b n).structure lines)) [
  | inl here ↦ (n, cond-true _ _ _ here)
  | inr other ↦ elim (cases_lt p n) [
    | inl below ↦ let rec = with_some b k lines n p below frame has in (rec.0, cond_rest _ _ _ other ∙ rec.1)
    | inr last ↦
        let e : p ≡ n = omega (arith, lt, last) in
        absurd (both_ways (nat_eq (job_at b n).frame k && has_lines (job_at b n).structure lines) other
        (and_from (nat_eq (job_at b n).frame k) (has_lines (job_at b n).structure lines)
        (eq-eqb (job_at b n).frame k (ap (λ (i : ℕ). (job_at b i).frame) (sym e) ∙ frame))
        (ap (λ (i : ℕ). has_lines (job_at b i).structure lines) (sym e) ∙ has)))
  ]
]
  where
    cond_rest : (t : Bool) (x y : Option ℕ) → t ≡ false → cond t x y ≡ y
    cond_rest true x y e = absurd cc
    cond_rest false x y e = refl

    both_ways : (t : Bool) → t ≡ false → t ≡ true → ⊥
    both_ways true e f = absurd cc
    both_ways false e f = absurd cc

-- a picture with the top lines of each frame, and one with the bottom lines
pub covered : (b : Book) → IsBook b → (k : ℕ) (lines : Lines) (top : Bool) → k < length b.frames → (q : ℕ) × (picture_with b k (lines_by top) (length b.pictures) ≡ Some q)
covered b h k lines top lt =
    let q = h.group.queue in
    let passes : Passes q.settings = subst Passes (sym h.group.settings) (passes_of b h) in
    let there = subst (λ (g : Group Samples). k < length g.frames → IsThere g.pictures k (lines_by top)) (sym h.group.is) (group_there q k top passes h.group.sound h.group.due) lt in
    with_some b k (lines_by top) (length b.pictures) there.place there.below there.frame there.has
