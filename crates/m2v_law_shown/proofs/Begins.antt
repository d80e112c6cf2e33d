-- A group begins with the first picture of its I frame, and no other picture of it begins a group.
use Rattle.std.proofs.Common.{◌≡◌, ℕ, ◌+◌, ◌-◌, ◌<◌, ◌≤◌, true, false, List, [], ◌∷◌, ◌++◌, map, refl, sym, ap, subst, arith}
use Rattle.std.specs.Prelude.{All, filter}
use Rattle.std.specs.List.{flat_map}
use Rattle.std.proofs.lemmas.List.Elements.{All-cons, All-append, All-weaker}
use Rattle.m2v_set.specs.declared.settings.Settings.{Settings}
use Rattle.m2v_set.specs.declared.settings.Scan.{Scan}
use Rattle.m2v_set.specs.declared.settings.Scan.TheVariants.{Progressive, Frames, Fields}
use Rattle.m2v_set.specs.Rules.{Passes}
use Rattle.m2v_order.specs.declared.jobs.PictureJob.{PictureJob}
use Rattle.m2v_order.specs.Coding.{is_anchor, kind_of, frames_between, anchors_between, in_order, structures}
use Rattle.m2v_order.specs.Groups.{Group, group_of, first_of, intra_from, past_last, jobs_of}
use Rattle.m2v_order.specs.Whole.{IsGroupOf}
use Rattle.m2v_order.proofs.Anchors.{Between, range_within, within, past_last_is, first_anchor}
use Rattle.m2v_order.proofs.Intra.{IsGrouped, test_other, intra_is, intra_low, intra_only, intra_anchor, kind_intra, kind_other}
use Rattle.m2v_order.proofs.Pictures.{job_by, all_flat, all_jobs}
use Rattle.m2v_order.proofs.Queues.{grouped, due_is, turn_is, top_of}
use Rattle.m2v_order.proofs.Turns.{turn_jobs}
use Rattle.m2v_slice.specs.Headers.{begins_group}

abbrev pub GoesOn : PictureJob → Type 0
GoesOn job = begins_group job ≡ false

-- the first of some pictures begins a group, and the others go on with it
pub record Begins (jobs : List PictureJob) : Type 0 where
  pub first : PictureJob
  pub more : List PictureJob
  pub is : jobs ≡ first ∷ more
  pub begins : begins_group first ≡ true
  pub others : All GoesOn more

goes_on : (frame display kind structure : ℕ) → (kind ≡ 1 → ⊥) → GoesOn (job_by frame display kind structure)
unfolding begins_group
goes_on frame display kind structure other = rw (test_other kind 1 other) refl

-- an I frame, and pictures that go on
frame_begins : (scan : Scan) (frame display kind : ℕ) (rest : List PictureJob) → kind ≡ 1 → All GoesOn rest
    → Begins (map (job_by frame display kind) (structures scan) ++ rest)
unfolding structures begins_group
frame_begins Progressive frame display kind rest is others =
    record { first = job_by frame display kind 3; more = rest; is = refl; begins = rw is refl; others = others }
frame_begins Frames frame display kind rest is others =
    record { first = job_by frame display kind 3; more = rest; is = refl; begins = rw is refl; others = others }
frame_begins Fields frame display kind rest is others = record {
  first = job_by frame display kind 1;
  more = job_by frame display kind 2 ∷ rest;
  is = refl;
  begins = rw is refl;
  others = All-cons GoesOn (job_by frame display kind 2) rest (rw is refl) others;
}

module _ (s : Settings) (count first m : ℕ) (ok : IsGrouped s) where
  abbrev intra : ℕ
  intra = intra_from s first

  -- a frame of the group that isn't its I frame
  abbrev IsOther : ℕ → Type 0
  IsOther i = ((first ≤ i) × (i < intra + s.group)) × (i ≡ intra → ⊥)

  other_kind : (i : ℕ) → IsOther i → kind_of s count i ≡ 1 → ⊥
  other_kind i other = kind_other s count i (intra_only s first i ok other.0.0 other.0.1 other.1)

  pub turn_begins : intra_from s first < m → m ≤ intra_from s first + s.group
      → filter (is_anchor s count) (frames_between first (intra_from s first)) ≡ [] → Begins (turn_jobs s count first m)
  unfolding in_order
  turn_begins near high clear =
      let p = is_anchor s count in
      let low = intra_low s first ok in
      let later = anchors_between s count (intra + 1) m in
      let found : anchors_between s count first m ≡ intra ∷ later =
      first_anchor p first intra m low near (intra_anchor s count intra ok (intra_is s first)) clear in
      let rest = frames_between first intra ++ in_order (intra + 1) later in
      let top = (past_last_is p (intra + 1) (m - (intra + 1))).high in
      let others : All IsOther rest =
      All-append IsOther (frames_between first intra) (in_order (intra + 1) later)
      (All-weaker (Between first (first + (intra - first))) IsOther (λ i h. ((h.0, omega (arith, h.1, low)), λ e. omega (arith, e, h.1, low))) (frames_between first intra) (range_within first (intra - first)))
      (All-weaker (Between (intra + 1) (past_last (intra + 1) later)) IsOther
      (λ i h. ((omega (arith, h.0, low), omega (arith, h.1, top, near, high)), λ e. omega (arith, e, h.0))) (in_order (intra + 1) later)
      (within p (intra + 1) (m - (intra + 1)))) in
      let goes : All GoesOn (flat_map (jobs_of s count first) rest) =
      all_flat IsOther GoesOn (jobs_of s count first) rest others
      (λ i h. all_jobs GoesOn s count first i (λ structure. goes_on (i - first) i (kind_of s count i) structure (other_kind i h))) in
      let jobs : turn_jobs s count first m ≡ jobs_of s count first intra ++ flat_map (jobs_of s count first) rest = ap (λ xs. flat_map (jobs_of s count first) (in_order first xs)) found in
      subst Begins (sym jobs)
      (frame_begins s.scan (intra - first) intra (kind_of s count intra) (flat_map (jobs_of s count first) rest)
      (kind_intra s count intra (intra_is s first)) goes)

module _ {F : Type 0} where
  queue_begins : (s : Settings) (g : Group F) → Passes s → (is : IsGroupOf s g) → Begins (group_of is.queue).pictures
  unfolding group_of
  queue_begins s g passes is =
      let q = is.queue in
      let ok = grouped q.settings (subst Passes (sym is.settings) passes) in
      let due = due_is q is.due in
      let turn = turn_is q ok is.sound due in
      turn_begins q.settings q.pushed (first_of q) (top_of q) ok turn.near turn.next (is.sound.clear due.some)

  pub group_begins : (s : Settings) (g : Group F) → Passes s → IsGroupOf s g → Begins g.pictures
  group_begins s g passes is = subst (λ (x : Group F). Begins x.pictures) (sym is.is) (queue_begins s g passes is)
