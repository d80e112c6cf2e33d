-- The groups of the stream are those of the coding order over all its frames, and it shows as many frames as there are.
use Rattle.std.proofs.Common.{◌≡◌, ℕ, zero, suc, ◌+◌, ◌<◌, ◌≤◌, inl, inr, Bool, true, false, List, [], ◌∷◌, ◌++◌, length, map, refl, sym, ap, ◌∙◌, subst, arith, append_assoc}
use Rattle.std.specs.Prelude.{nat_lt}
use Rattle.std.specs.List.{range_with_len}
use Rattle.std.proofs.lemmas.Bool.{cases_Bool, cond-true, cond-false, lt-ltb, and_from}
use Rattle.std.proofs.lemmas.List.{append-nil, length-append, length-map}
use Rattle.std.proofs.lemmas.List.FromFn.{length-map-range_with_len}
use Rattle.m2v_plane.specs.Samples.{Samples}
use Rattle.m2v_plane.specs.Raw.{pad}
use Rattle.m2v_set.specs.declared.settings.Settings.{Settings}
use Rattle.m2v_set.specs.Numbers.{dims_of}
use Rattle.m2v_set.specs.Rules.{Passes}
use Rattle.m2v_order.specs.Coding.{Coding}
use Rattle.m2v_order.specs.Groups.{Queue, Group, is_due, group_of, after_group, IsSoundQueue}
use Rattle.m2v_order.specs.Calls.{Call, Push, End, Next, Run, begun, call, calls, frames_in, jobs_in, picture_of}
use Rattle.m2v_order.proofs.Intra.{IsGrouped}
use Rattle.m2v_order.proofs.Queues.{grouped, true_false, due_is, turn_is, sound_next}
use Rattle.m2v_order.proofs.Handed.{frames_all, coding_all, sound_all}
use Rattle.m2v_enc_stream.specs.Streams.{Progress, at_start, group_coded, groups_coded, groups_from, coded_all, Recon}
use Rattle.m2v_enc_stream.specs.Trees.{groups_of}
use Rattle.m2v_enc_stream.proofs.Queues.{from_due, from_none}

-- ---- the calls that push all frames, end, and ask for groups

abbrev pushing : List Samples → List (Call Samples)
pushing frames = map Push frames

unfoldable asking : ℕ → List (Call Samples)
asking zero = []
asking (suc n) = Next ∷ asking n

-- frames wait, and none was handed out
abbrev waits : Settings → List Samples → Bool → Run Samples
waits s frames ended = record {
  now = record { settings = s; pushed = length frames; frames = frames; ended = ended };
  pushed = frames;
  groups = [];
}

push_one : (s : Settings) (frames : List Samples) (f : Samples) → call (waits s frames false) (Push f) ≡ waits s (frames ++ f ∷ []) false
unfolding call
push_one s frames f =
    ap (λ (n : ℕ). record {
      now = record { settings = s; pushed = n; frames = frames ++ f ∷ []; ended = false };
      pushed = frames ++ f ∷ [];
      groups = [];
    }) (sym (length-append frames (f ∷ [])))

push_all : (s : Settings) (more frames : List Samples) (cs : List (Call Samples))
    → calls (waits s frames false) (pushing more ++ cs) ≡ calls (waits s (frames ++ more) false) cs
unfolding calls
push_all s [] frames cs = ap (λ (xs : List Samples). calls (waits s xs false) cs) (sym (append-nil frames))
push_all s (f ∷ more) frames cs =
    ap (λ (r : Run Samples). calls r (pushing more ++ cs)) (push_one s frames f)
    ∙ push_all s more (frames ++ f ∷ []) cs
    ∙ ap (λ (xs : List Samples). calls (waits s xs false) cs) (append_assoc frames (f ∷ []) more)

-- ---- asking until nothing is left

-- where the end has come, a group is due as long as frames are left
left_due : (q : Queue Samples) → q.ended ≡ true → is_due q ≡ false → q.frames ≡ []
unfolding is_due
left_due q over none = by_frames q.frames refl
  where
    by_frames : (xs : List Samples) → q.frames ≡ xs → q.frames ≡ []
    by_frames [] e = e
    by_frames (x ∷ xs) e =
        let some : 0 < length q.frames = subst (λ (ys : List Samples). 0 < length ys) (sym e) (omega arith) in
        absurd (true_false (is_due q) (and_from (nat_lt 0 (length q.frames)) _ (lt-ltb 0 (length q.frames) some) (rw over refl)) none)

-- what stands once all groups were asked for
record AllAsked (n : ℕ) (r end : Run Samples) : Type 0 where
  groups : end.groups ≡ r.groups ++ groups_from n r.now
  frames : end.now.frames ≡ []
  ended : end.now.ended ≡ true
  pushed : end.pushed ≡ r.pushed

asked : (n : ℕ) (r : Run Samples) → IsGrouped r.now.settings → IsSoundQueue r.now → r.now.ended ≡ true → length r.now.frames ≤ n
    → AllAsked n r (calls r (asking n))
unfolding calls call asking groups_from
asked zero r ok sound over few = record {
  groups = sym (append-nil r.groups);
  frames = by_frames r.now.frames few;
  ended = over;
  pushed = refl;
}
  where
    by_frames : (xs : List Samples) → length xs ≤ 0 → xs ≡ []
    by_frames [] none = refl
    by_frames (x ∷ xs) none = absurd (omega (arith, none))
asked (suc n) r ok sound over few = elim (cases_Bool (is_due r.now)) [
  | inl is ↦
      let q = r.now in
      let due = due_is q is in
      let turn = turn_is q ok sound due in
      let next : Run Samples = record { now = after_group q; pushed = r.pushed; groups = r.groups ++ group_of q ∷ [] } in
      let fewer : length (after_group q).frames ≤ n = omega (arith, few, turn.left, turn.past, turn.low, sound.room, due.some) in
      let rest = asked n next ok (sound_next q ok due turn) over fewer in
      let step : calls (call r Next) (asking n) ≡ calls next (asking n) = ap (λ (x : Run Samples). calls x (asking n)) (cond-true (is_due q) next r is) in
      subst (AllAsked (suc n) r) (sym step)
      (record {
        groups = rest.groups ∙ append_assoc r.groups (group_of q ∷ []) (groups_from n (after_group q))
            ∙ ap (λ (gs : List (Group Samples)). r.groups ++ gs) (sym (from_due n q is));
        frames = rest.frames;
        ended = rest.ended;
        pushed = rest.pushed;
      })
  | inr none ↦
      let q = r.now in
      let next : Run Samples = record { now = after_group q; pushed = r.pushed; groups = r.groups ++ group_of q ∷ [] } in
      let empty = left_due q over none in
      let few' : length q.frames ≤ n = subst (λ (xs : List Samples). length xs ≤ n) (sym empty) (omega arith) in
      let rest = asked n r ok sound over few' in
      let step : calls (call r Next) (asking n) ≡ calls r (asking n) = ap (λ (x : Run Samples). calls x (asking n)) (cond-false (is_due q) next r none) in
      subst (AllAsked (suc n) r) (sym step)
      (record {
        groups = rest.groups ∙ ap (λ (gs : List (Group Samples)). r.groups ++ gs) (from_none n q none ∙ sym (from_none (suc n) q none));
        frames = rest.frames;
        ended = rest.ended;
        pushed = rest.pushed;
      })
]

-- ---- all groups of the stream

-- the calls that hand out all groups of some frames
abbrev all_calls : List Samples → ℕ → List (Call Samples)
all_calls frames n = pushing frames ++ (End ∷ asking n)

all_pushed : (s : Settings) (frames : List Samples) (n : ℕ) → calls (begun s) (all_calls frames n) ≡ calls (waits s frames true) (asking n)
unfolding calls call
all_pushed s frames n = push_all s frames [] (End ∷ asking n)

sound_pushed : (s : Settings) (frames : List Samples) → Passes s → IsSoundQueue (waits s frames true).now
unfolding calls asking
sound_pushed s frames passes =
    subst (λ (r : Run Samples). IsSoundQueue r.now) (all_pushed s frames 0) (sound_all s (all_calls frames 0) passes)

module _ (s : Settings) (frames : List (List ℕ)) (passes : Passes s) where
  abbrev padded : List Samples
  padded = map (pad (dims_of s)) frames

  count : length padded ≡ length frames
  count = length-map frames (pad (dims_of s))

  end : AllAsked (length frames) (waits s padded true) (calls (begun s) (all_calls padded (length frames)))
  end = subst (AllAsked (length frames) (waits s padded true)) (sym (all_pushed s padded (length frames)))
      (asked (length frames) (waits s padded true) (grouped s passes) (sound_pushed s padded passes) refl (omega (arith, count)))

  groups_are : (calls (begun s) (all_calls padded (length frames))).groups ≡ groups_of s frames
  groups_are = end.groups
      ∙ ap (λ (n : ℕ). groups_from (length frames) (record { settings = s; pushed = n; frames = padded; ended = true })) count

  -- the pictures of the groups one behind another are the coding order of all frames
  pub pictures_ordered : map picture_of (jobs_in (groups_of s frames)) ≡ Coding s (length frames)
  pictures_ordered =
      let cs = all_calls padded (length frames) in
      ap (λ (gs : List (Group Samples)). map picture_of (jobs_in gs)) (sym groups_are)
      ∙ coding_all s cs passes end.ended end.frames
      ∙ ap (Coding s) (ap length end.pushed ∙ count)

  -- and their frames are all frames
  pub frames_grouped : frames_in (groups_of s frames) ≡ padded
  frames_grouped =
      let cs = all_calls padded (length frames) in
      ap frames_in (sym groups_are)
      ∙ sym (append-nil (frames_in (calls (begun s) cs).groups))
      ∙ ap (λ (xs : List Samples). frames_in (calls (begun s) cs).groups ++ xs) (sym end.frames)
      ∙ frames_all s cs
      ∙ end.pushed

-- ---- how many frames are shown

shown_more : (s : Settings) (x : Progress) (g : Group Samples) (ends : Bool) → length (group_coded s x g ends).shown ≡ length x.shown + length g.frames
unfolding group_coded
shown_more s x g ends =
    length-append x.shown (map _ (range_with_len 0 (length g.frames)))
    ∙ ap (λ (n : ℕ). length x.shown + n) (length-map-range_with_len _ 0 (length g.frames))

shown_all : (s : Settings) (x : Progress) (gs : List (Group Samples)) → length (groups_coded s x gs).shown ≡ length x.shown + length (frames_in gs)
unfolding groups_coded
shown_all s x [] = omega arith
shown_all s x (g ∷ []) =
    let one = shown_more s x g true in
    let all = length-append g.frames [] in
    omega (arith, one, all)
shown_all s x (g ∷ h ∷ more) =
    let one = shown_more s x g false in
    let rest = shown_all s (group_coded s x g false) (h ∷ more) in
    let all = length-append g.frames (frames_in (h ∷ more)) in
    omega (arith, one, rest, all)

-- the stream shows as many frames as were coded
pub frames_shown : (s : Settings) (frames : List (List ℕ)) → Passes s → length (Recon s frames) ≡ length frames
unfolding coded_all
frames_shown s frames passes =
    let all : length (Recon s frames) ≡ 0 + length (frames_in (groups_of s frames)) = shown_all s (at_start s) (groups_of s frames) in
    let grouped : length (frames_in (groups_of s frames)) ≡ length (map (pad (dims_of s)) frames) = ap length (frames_grouped s frames passes) in
    let every = count s frames passes in
    omega (arith, all, grouped, every)
