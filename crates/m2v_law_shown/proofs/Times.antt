-- The times behind the pictures of groups, which follow one another as the anchors do.
use Rattle.std.proofs.Common.{◌≡◌, ℕ, zero, suc, ◌-◌, ◌<◌, true, inl, inr, List, [], ◌∷◌, ◌++◌, length, Option, Some, None, refl, sym, ap, subst, ◌∙◌, arith}
use Rattle.std.specs.List.{flat_map}
use Rattle.std.proofs.lemmas.Bool.{cases_Bool}
use Rattle.m2v_plane.specs.Samples.{Samples}
use Rattle.m2v_set.specs.declared.settings.Settings.{Settings}
use Rattle.m2v_set.specs.Rules.{Passes}
use Rattle.m2v_order.specs.declared.jobs.PictureJob.{PictureJob}
use Rattle.m2v_order.specs.Groups.{Queue, Group, first_of, anchor_before, is_due, group_of, after_group, IsSoundQueue}
use Rattle.m2v_order.specs.Calls.{jobs_in, last_anchor}
use Rattle.m2v_order.specs.Times.{interval_behind, anchor_after, intervals_of}
use Rattle.m2v_order.proofs.Intra.{test_other}
use Rattle.m2v_order.proofs.Turns.{next_first, turn_last}
use Rattle.m2v_order.proofs.Queues.{grouped, top_of, due_is, Turn, turn_is, sound_next}
use Rattle.m2v_enc_stream.specs.Streams.{groups_from, waiting}
use Rattle.m2v_enc_stream.specs.Removals.{groups_of}
use Rattle.m2v_enc_stream.proofs.Queues.{from_due, from_none, from_zero, first_is, sound_waiting}

-- ---- times of pictures behind others

times_on : (s : Settings) (xs ys : List PictureJob) (last : Option ℕ) → intervals_of s last (xs ++ ys) ≡ intervals_of s last xs ++ intervals_of s (last_anchor last xs) ys
unfolding intervals_of last_anchor
times_on s [] ys last = refl
times_on s (x ∷ xs) ys last = ap (λ (ts : List ℕ). interval_behind s last x ∷ ts) (times_on s xs ys (anchor_after last x))

times_none : (s : Settings) (last : Option ℕ) → intervals_of s last [] ≡ []
unfolding intervals_of
times_none s last = refl

-- each group knows the anchor before it
abbrev AreBehind : Option ℕ → List (Group Samples) → Type 0
AreBehind last [] = Unit {0}
AreBehind last (g ∷ more) = (g.before ≡ last) × AreBehind (last_anchor last g.pictures) more

abbrev pub group_times : Settings → Group Samples → List ℕ
group_times s g = intervals_of s g.before g.pictures

all_times : (s : Settings) (gs : List (Group Samples)) (last : Option ℕ) → AreBehind last gs → flat_map (group_times s) gs ≡ intervals_of s last (jobs_in gs)
all_times s [] last are = sym (times_none s last)
all_times s (g ∷ more) last are =
    (λ i. intervals_of s (are.0 i) g.pictures ++ all_times s more (last_anchor last g.pictures) are.1 i)
    ∙ sym (times_on s g.pictures (jobs_in more) last)

-- ---- the anchor before the next group

anchor_some : (b : ℕ) → 0 < b → anchor_before b ≡ Some (b - 1)
unfolding anchor_before
anchor_some b pos = rw (test_other b 0 (λ e. omega (arith, e, pos))) refl

before_is : (q : Queue Samples) → (group_of q).before ≡ anchor_before (first_of q)
unfolding group_of
before_is q = refl

next_before : (s : Settings) (q : Queue Samples) (last : Option ℕ) → Passes q.settings → Turn q → last_anchor last (group_of q).pictures ≡ anchor_before (first_of (after_group q))
unfolding group_of
next_before s q last passes turn =
    let first = first_of q in
    let m = top_of q in
    let low = turn.low in
    let past = turn.past in
    turn_last q.settings q.pushed first m last (grouped q.settings passes) (omega (arith, low, past))
    ∙ sym (ap anchor_before turn.after ∙ anchor_some (next_first q.settings q.pushed first m) (omega (arith, past)))

behind_by : (s : Settings) (n : ℕ) (q : Queue Samples) (last : Option ℕ) → Passes s → q.settings ≡ s → IsSoundQueue q → anchor_before (first_of q) ≡ last → AreBehind last (groups_from n q)
behind_by s zero q last passes same sound is = subst (AreBehind last) (sym (from_zero q)) tt
behind_by s (suc n) q last passes same sound is = elim (cases_Bool (is_due q)) [
  | inl now ↦
      let pass : Passes q.settings = subst Passes (sym same) passes in
      let ok = grouped q.settings pass in
      let due = due_is q now in
      let turn = turn_is q ok sound due in
      subst (AreBehind last) (sym (from_due n q now)) (
        before_is q ∙ is,
        behind_by s n (after_group q) (last_anchor last (group_of q).pictures) passes same (sound_next q ok due turn) (sym (next_before s q last pass turn)),
      )
  | inr none ↦ subst (AreBehind last) (sym (from_none (suc n) q none)) tt
]

first_none : (s : Settings) (frames : List (List ℕ)) → anchor_before (first_of (waiting s frames true)) ≡ None
unfolding anchor_before
first_none s frames = ap anchor_before (first_is s frames)

-- the times of a stream's groups are those of all their pictures
pub stream_times : (s : Settings) (frames : List (List ℕ)) → Passes s
    → flat_map (λ (g : Group Samples). intervals_of s g.before g.pictures) (groups_of s frames) ≡ intervals_of s None (jobs_in (groups_of s frames))
stream_times s frames passes =
    all_times s (groups_of s frames) None
    (behind_by s (length frames) (waiting s frames true) None passes refl (sound_waiting s frames passes) (first_none s frames))
