-- The groups that a queue hands out, and the queue of a stream.
use Rattle.std.proofs.Common.{◌≡◌, ℕ, zero, suc, ◌-◌, ◌<◌, ◌≤◌, Bool, true, false, List, [], ◌∷◌, ◌++◌, length, refl, ap, ◌∙◌, arith}
use Rattle.std.specs.Prelude.{is_some, nat_lt, ◌&&◌, ◌||◌}
use Rattle.std.proofs.lemmas.Bool.{cond-true, cond-false, lt-ltb}
use Rattle.std.proofs.lemmas.List.{length-map}
use Rattle.m2v_plane.specs.Raw.{pad}
use Rattle.m2v_plane.specs.Samples.{Samples}
use Rattle.m2v_set.specs.declared.settings.Settings.{Settings}
use Rattle.m2v_set.specs.Numbers.{dims_of}
use Rattle.m2v_set.specs.Rules.{Passes}
use Rattle.m2v_order.specs.Coding.{anchors_between}
use Rattle.m2v_order.specs.Groups.{Queue, Group, first_of, intra_from, next_intra, anchor_before, is_due, group_of, after_group, IsSoundQueue}
use Rattle.m2v_order.proofs.Intra.{intra_first, test_other}
use Rattle.m2v_order.proofs.Queues.{grouped, true_false}
use Rattle.m2v_enc_stream.specs.Streams.{Progress, at_start, group_coded, groups_begun, groups_coded, groups_from, waiting, groups_of, coded_all}

-- ---- the groups of a queue

pub from_due : (n : ℕ) (q : Queue Samples) → is_due q ≡ true → groups_from (suc n) q ≡ group_of q ∷ groups_from n (after_group q)
unfolding groups_from
from_due n q is = cond-true (is_due q) _ _ is

pub from_none : (n : ℕ) (q : Queue Samples) → is_due q ≡ false → groups_from n q ≡ []
unfolding groups_from
from_none zero q is = refl
from_none (suc n) q is = cond-false (is_due q) _ _ is

pub from_zero : (q : Queue Samples) → groups_from 0 q ≡ []
unfolding groups_from
from_zero q = refl

-- groups, and one more
pub begun_more : (s : Settings) (gs : List (Group Samples)) (g : Group Samples) (x : Progress)
    → groups_begun s x (gs ++ g ∷ []) ≡ group_coded s (groups_begun s x gs) g false
unfolding groups_begun
begun_more s [] g x = refl
begun_more s (k ∷ gs) g x = begun_more s gs g (group_coded s x k false)

-- ---- the anchor before a group

pub before_none : is_some (anchor_before 0) ≡ false
unfolding anchor_before
before_none = refl

pub before_some : (n : ℕ) → 0 < n → is_some (anchor_before n) ≡ true
unfolding anchor_before
before_some n some = rw (test_other n 0 (λ e. omega (arith, e, some))) refl

-- ---- the queue of a stream

pub first_is : (s : Settings) (frames : List (List ℕ)) → first_of (waiting s frames true) ≡ 0
first_is s frames = omega (arith, length-map frames (pad (dims_of s)))

none_from : (s : Settings) (count : ℕ) (first : ℕ) → first ≡ 0 → intra_from s first ≡ 0 → anchors_between s count first (intra_from s first) ≡ []
none_from s count first e f = rw (f, e) refl

pub sound_waiting : (s : Settings) (frames : List (List ℕ)) → Passes s → IsSoundQueue (waiting s frames true)
sound_waiting s frames passes =
    let q = waiting s frames true in
    let ok = grouped s passes in
    let first = first_is s frames in
    let intra : intra_from s (first_of q) ≡ 0 = ap (intra_from s) first ∙ intra_first s ok in
    let count = length-map frames (pad (dims_of s)) in
    record {
      room = omega (arith, count);
      near = λ some. omega (arith, intra, count, some);
      clear = λ some. none_from s (length frames) (first_of q) first intra;
      none = λ none going. absurd (true_false true refl going);
    }

due : (s : Settings) (frames : List (List ℕ)) → 1 ≤ length frames → is_due (waiting s frames true) ≡ true
unfolding is_due
due s frames some =
    let q = waiting s frames true in
    ap (λ (t : Bool). t && (true || nat_lt (next_intra q) q.pushed)) (lt-ltb 0 (length q.frames) (omega (arith, some, length-map frames (pad (dims_of s)))))

pub first_group : (s : Settings) (frames : List (List ℕ)) → 1 ≤ length frames
    → (let q = waiting s frames true in groups_of s frames ≡ group_of q ∷ groups_from (length frames - 1) (after_group q))
first_group s frames some =
    let q = waiting s frames true in
    let n = length frames - 1 in
    let e : length frames ≡ suc n = omega (arith, some) in
    ap (λ (k : ℕ). groups_from k q) e ∙ from_due n q (due s frames some)

pub coded_is : (s : Settings) (frames : List (List ℕ)) → coded_all s frames ≡ groups_coded s (at_start s) (groups_of s frames)
unfolding coded_all
coded_is s frames = refl

-- there is a group
pub stream_some : (s : Settings) (frames : List (List ℕ)) → 1 ≤ length frames → 0 < length (groups_of s frames)
stream_some s frames some = omega (arith, ap length (first_group s frames some))
