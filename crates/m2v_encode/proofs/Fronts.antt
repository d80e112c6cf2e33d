-- The groups of all frames: those that were handed out stand in front, whatever follows.
use Rattle.std.proofs.Common.{◌≡◌, ℕ, suc, ◌+◌, ◌-◌, ◌<◌, ◌≤◌, Bool, true, false, inl, inr, List, [], ◌∷◌, ◌++◌, length, map, take, drop, refl, sym, ap, subst, ◌∙◌, arith, append_assoc}
use Rattle.std.specs.Prelude.{nat_lt, ◌&&◌, ◌||◌}
use Rattle.std.proofs.lemmas.Bool.{cases_lt, lt-ltb, and_from}
use Rattle.std.proofs.lemmas.List.{length-append, length-map, append-nil, map-append, length-drop, drop-append-le, take-append-drop, take-append-le}
use Rattle.std.proofs.Math.Seq.{drop-append_seam}
use Rattle.m2v_plane.specs.Raw.{pad}
use Rattle.m2v_plane.specs.Samples.{Samples}
use Rattle.m2v_set.specs.declared.settings.Settings.{Settings}
use Rattle.m2v_set.specs.Numbers.{dims_of}
use Rattle.m2v_set.specs.Rules.{Passes}
use Rattle.m2v_order.specs.Groups.{Queue, Group, opening, next_intra, is_due, group_size, group_of, after_push, after_end, after_group, followed, IsSoundQueue}
use Rattle.m2v_order.proofs.Queues.{grouped, due_is, turn_is, group_length, group_some, has_next, sound_next}
use Rattle.m2v_order.proofs.Wholes.{group_stays, due_stays}
use Rattle.m2v_law_shown.specs.m2v_enc_stream.Streams.{Progress, at_start, group_coded, groups_begun, groups_coded, groups_from, waiting, coded_all, coded_begun}
use Rattle.m2v_law_shown.proofs.m2v_enc_stream.Queues.{from_due, from_none}
use Rattle.m2v_encode.specs.Steps.{HandedOut}

-- ---- groups of a queue

-- a group takes as many frames of a queue that goes on
size_is : (q : Queue Samples) → Passes q.settings → IsSoundQueue q → is_due q ≡ true
    → (length (group_of q).frames ≡ group_size q) × ((group_size q ≤ length q.frames) × (0 < group_size q))
unfolding group_of
size_is q passes sound is =
    let ok = grouped q.settings passes in
    let due = due_is q is in
    let turn = turn_is q ok sound due in
    let some = group_some q sound turn in
    let long = group_length q sound turn in
    let room = sound.room in
    let high = turn.high in
    let top = turn.top in
    (long, (omega (arith, room, high, top), omega (arith, long, turn.past, turn.low)))

cancel : {A : Type 0} (xs ys zs : List A) → xs ++ ys ≡ xs ++ zs → ys ≡ zs
cancel xs ys zs e = sym (drop-append_seam xs ys) ∙ ap (drop (length xs)) e ∙ drop-append_seam xs zs

-- what is left behind the same front is the same
drop_same : {A : Type 0} (n m : ℕ) (xs : List A) → take n xs ≡ take m xs → drop n xs ≡ drop m xs
drop_same n m xs e =
    cancel (take n xs) (drop n xs) (drop m xs)
    (take-append-drop n xs ∙ sym (take-append-drop m xs) ∙ ap (λ (t : List _). t ++ drop m xs) (sym e))

front_of : (q r : Queue Samples) → group_of r ≡ group_of q → take (group_size r) r.frames ≡ take (group_size q) q.frames
unfolding group_of
front_of q r e = ap (λ (g : Group Samples). g.frames) e

after_same : (q : Queue Samples) (more : List Samples) (ended : Bool) → Passes q.settings → IsSoundQueue q → q.ended ≡ false → is_due q ≡ true
    → after_group (followed q more ended) ≡ followed (after_group q) more ended
after_same q more ended passes sound going is =
    let r = followed q more ended in
    let fits = (size_is q passes sound is).1.0 in
    let front = front_of q r (group_stays q more ended passes sound going is) in
    let rest = drop_same (group_size r) (group_size q) (q.frames ++ more) (front ∙ sym (take-append-le (group_size q) q.frames more fits)) in
    ap (λ (xs : List Samples). record r { frames = xs }) (rest ∙ drop-append-le (group_size q) q.frames more fits)

-- ---- handed out

-- the queue of no frames
pub handed_none : (s : Settings) → HandedOut s [] [] (opening s)
handed_none s = record {
  settings = refl;
  going = refl;
  pushed = refl;
  front = λ more ended n. ap (λ (m : ℕ). groups_from m (followed (opening s) more ended)) (let e : 0 + n ≡ n = omega arith in e);
  count = omega arith;
}

wait_more : (s : Settings) (frames others : List (List ℕ)) (more : List Samples) (ended : Bool)
    → followed (waiting s (frames ++ others) false) more ended ≡ followed (waiting s frames false) (map (pad (dims_of s)) others ++ more) ended
wait_more s frames others more ended =
    let d = dims_of s in
    let count : length (frames ++ others) + length more ≡ length frames + length (map (pad d) others ++ more) =
    omega (arith, length-append frames others, length-append (map (pad d) others) more, length-map others (pad d)) in
    let list : map (pad d) (frames ++ others) ++ more ≡ map (pad d) frames ++ (map (pad d) others ++ more) =
    ap (λ (xs : List Samples). xs ++ more) (map-append (pad d) frames others) ∙ append_assoc (map (pad d) frames) (map (pad d) others) more in
    ap (λ (n : ℕ). record { settings = s; pushed = n; frames = map (pad d) (frames ++ others) ++ more; ended = ended }) count
    ∙ ap (λ (xs : List Samples). record { settings = s; pushed = length frames + length (map (pad d) others ++ more); frames = xs; ended = ended }) list

pub followed_on : (q : Queue Samples) (first more : List Samples) (ended : Bool) → followed (followed q first false) more ended ≡ followed q (first ++ more) ended
followed_on q first more ended =
    let count : q.pushed + length first + length more ≡ q.pushed + length (first ++ more) = omega (arith, length-append first more) in
    ap (λ (n : ℕ). record q { pushed = n; frames = (q.frames ++ first) ++ more; ended = ended }) count
    ∙ ap (λ (xs : List Samples). record q { pushed = q.pushed + length (first ++ more); frames = xs; ended = ended }) (append_assoc q.frames first more)

-- frames more wait
pub handed_more : (s : Settings) (frames others : List (List ℕ)) (groups : List (Group Samples)) (q r : Queue Samples)
    → HandedOut s frames groups q → r ≡ followed q (map (pad (dims_of s)) others) false → HandedOut s (frames ++ others) groups r
handed_more s frames others groups q r h is =
    let waits = map (pad (dims_of s)) others in
    let long = length-append frames others in
    let same : length waits ≡ length others = length-map others (pad (dims_of s)) in
    subst (HandedOut s (frames ++ others) groups) (sym is) (record {
      settings = h.settings;
      going = refl;
      pushed = omega (arith, h.pushed, long, same);
      front = λ more ended n.
          ap (groups_from (length groups + n)) (wait_more s frames others more ended)
          ∙ h.front (waits ++ more) ended n
          ∙ ap (λ (x : Queue Samples). groups ++ groups_from n x) (sym (followed_on q waits more ended));
      count = omega (arith, h.count, long, same, length-append q.frames waits);
    })

pub push_is : (q : Queue Samples) (f : Samples) → q.ended ≡ false → after_push q f ≡ followed q (f ∷ []) false
push_is q f going = ap (λ (t : Bool). record (after_push q f) { ended = t }) going

-- a group more is handed out
pub handed_group : (s : Settings) (frames : List (List ℕ)) (groups : List (Group Samples)) (q r : Queue Samples) → Passes s → IsSoundQueue q → is_due q ≡ true
    → HandedOut s frames groups q → r ≡ after_group q → HandedOut s frames (groups ++ group_of q ∷ []) r
handed_group s frames groups q r passes sound is h same =
    let pass : Passes q.settings = subst Passes (sym h.settings) passes in
    let size = size_is q pass sound is in
    let long = length-append groups (group_of q ∷ []) in
    subst (HandedOut s frames (groups ++ group_of q ∷ [])) (sym same) (record {
      settings = h.settings;
      going = h.going;
      pushed = h.pushed;
      front = λ more ended n.
          let room : length (groups ++ group_of q ∷ []) + n ≡ length groups + suc n = omega (arith, long) in
          let t = followed q more ended in
          let first : groups_from (suc n) t ≡ group_of q ∷ groups_from n (followed (after_group q) more ended) =
          from_due n t (due_stays q more ended pass sound h.going is)
          ∙ ap (λ (g : Group Samples). g ∷ groups_from n (after_group t)) (group_stays q more ended pass sound h.going is)
          ∙ ap (λ (x : Queue Samples). group_of q ∷ groups_from n x) (after_same q more ended pass sound h.going is) in
          ap (λ (m : ℕ). groups_from m (followed (waiting s frames false) more ended)) room
          ∙ h.front more ended (suc n)
          ∙ ap (λ (gs : List (Group Samples)). groups ++ gs) first
          ∙ sym (append_assoc groups (group_of q ∷ []) (groups_from n (followed (after_group q) more ended)));
      count = omega (arith, h.count, long, length-drop (group_size q) q.frames, size.1.0, size.1.1);
    })

-- ---- what stands

pub no_more : (q : Queue Samples) (ended : Bool) → followed q [] ended ≡ record q { ended = ended }
no_more q ended =
    let count : q.pushed + 0 ≡ q.pushed = omega arith in
    ap (λ (n : ℕ). record q { pushed = n; frames = q.frames ++ []; ended = ended }) count
    ∙ ap (λ (xs : List Samples). record q { frames = xs; ended = ended }) (append-nil q.frames)

-- the groups of all frames
all_groups : (s : Settings) (frames : List (List ℕ)) (groups : List (Group Samples)) (q : Queue Samples) (ended : Bool) → HandedOut s frames groups q
    → groups_from (length frames) (waiting s frames ended) ≡ groups ++ groups_from (length frames - length groups) (record q { ended = ended })
all_groups s frames groups q ended h =
    let room : length frames ≡ length groups + (length frames - length groups) = omega (arith, h.count) in
    ap (λ (n : ℕ). groups_from n (waiting s frames ended)) room
    ∙ ap (groups_from (length groups + (length frames - length groups))) (sym (no_more (waiting s frames false) ended))
    ∙ h.front [] ended (length frames - length groups)
    ∙ ap (λ (x : Queue Samples). groups ++ groups_from (length frames - length groups) x) (no_more q ended)

pub going_is : (q : Queue Samples) → q.ended ≡ false → record q { ended = false } ≡ q
going_is q e = ap (λ (t : Bool). record q { ended = t }) (sym e)

-- where no group is due, what is coded is what is begun
pub begun_is : (s : Settings) (frames : List (List ℕ)) (groups : List (Group Samples)) (q : Queue Samples) → HandedOut s frames groups q → is_due q ≡ false
    → coded_begun s frames ≡ groups_begun s (at_start s) groups
unfolding coded_begun
begun_is s frames groups q h rest =
    let none : groups_from (length frames - length groups) (record q { ended = false }) ≡ [] =
    ap (groups_from (length frames - length groups)) (going_is q h.going) ∙ from_none (length frames - length groups) q rest in
    ap (groups_begun s (at_start s)) (all_groups s frames groups q false h ∙ ap (λ (gs : List (Group Samples)). groups ++ gs) none ∙ append-nil groups)

-- groups that are not the last, and then the others
pub coded_behind : (s : Settings) (x : Progress) (groups : List (Group Samples)) (g : Group Samples) (more : List (Group Samples))
    → groups_coded s x (groups ++ g ∷ more) ≡ groups_coded s (groups_begun s x groups) (g ∷ more)
unfolding groups_coded groups_begun
coded_behind s x [] g more = refl
coded_behind s x (h ∷ []) g more = refl
coded_behind s x (h ∷ k ∷ groups) g more = coded_behind s (group_coded s x h false) (k ∷ groups) g more

pub begun_behind : (s : Settings) (x : Progress) (groups : List (Group Samples)) (g : Group Samples)
    → groups_begun s x (groups ++ g ∷ []) ≡ group_coded s (groups_begun s x groups) g false
unfolding groups_begun
begun_behind s x [] g = refl
begun_behind s x (h ∷ groups) g = begun_behind s (group_coded s x h false) groups g

ended_one : (q : Queue Samples) → Passes q.settings → IsSoundQueue (after_end q) → is_due (after_end q) ≡ true → is_due q ≡ false
    → length (after_group (after_end q)).frames ≡ 0
unfolding is_due
ended_one q passes sound is rest = elim (cases_lt 0 (length (after_group (after_end q)).frames)) [
  | inl some ↦
      let e = after_end q in
      let ok = grouped q.settings passes in
      let due = due_is e is in
      let turn = turn_is e ok sound due in
      let next = has_next e ok turn some in
      absurd (is_false (nat_lt 0 (length q.frames) && (q.ended || nat_lt (next_intra q) q.pushed)) rest
      (and_from (nat_lt 0 (length q.frames)) (q.ended || nat_lt (next_intra q) q.pushed) (lt-ltb 0 (length q.frames) due.some)
      (ap (λ (t : Bool). q.ended || t) (lt-ltb (next_intra q) q.pushed next) ∙ or_true q.ended)))
  | inr none ↦ omega (arith, none)
]
  where
    is_false : (b : Bool) → b ≡ false → b ≡ true → ⊥
    is_false true e f = absurd cc
    is_false false e f = absurd cc

    or_true : (b : Bool) → (b || true) ≡ true
    or_true true = refl
    or_true false = refl

none_due : (q : Queue Samples) → length q.frames ≡ 0 → is_due q ≡ false
unfolding is_due
none_due q none = ap (λ (n : ℕ). nat_lt 0 n && (q.ended || nat_lt (next_intra q) q.pushed)) none

-- where the end has come, one group is left
pub all_is : (s : Settings) (frames : List (List ℕ)) (groups : List (Group Samples)) (q : Queue Samples) → Passes s → HandedOut s frames groups q → is_due q ≡ false
    → IsSoundQueue (after_end q) → is_due (after_end q) ≡ true
    → coded_all s frames ≡ group_coded s (groups_begun s (at_start s) groups) (group_of (after_end q)) true
unfolding coded_all groups_coded
all_is s frames groups q passes h rest sound is =
    let e = after_end q in
    let pass : Passes q.settings = subst Passes (sym h.settings) passes in
    let some = (due_is e is).some in
    let m = length frames - length groups - 1 in
    let room : length frames - length groups ≡ suc m = omega (arith, h.count, some) in
    let one : groups_from (length frames - length groups) e ≡ group_of e ∷ [] =
    ap (λ (n : ℕ). groups_from n e) room ∙ from_due m e is
    ∙ ap (λ (gs : List (Group Samples)). group_of e ∷ gs) (from_none m (after_group e) (none_due (after_group e) (ended_one q pass sound is rest))) in
    ap (groups_coded s (at_start s)) (all_groups s frames groups q true h ∙ ap (λ (gs : List (Group Samples)). groups ++ gs) one)
    ∙ coded_behind s (at_start s) groups (group_of e) []

-- ---- fronts of the whole stream

-- what is coded grows
pub record Front (x y : Progress) : Type 0 where
  pub bits : List Bool
  pub text : y.text ≡ x.text ++ bits
  pub frames : List (List ℕ)
  pub shown : y.shown ≡ x.shown ++ frames

front_none : (x : Progress) → Front x x
front_none x = record { bits = []; text = sym (append-nil x.text); frames = []; shown = sym (append-nil x.shown) }

front_on : (x y z : Progress) → Front x y → Front y z → Front x z
front_on x y z first second = record {
  bits = first.bits ++ second.bits;
  text = second.text ∙ ap (λ (t : List Bool). t ++ second.bits) first.text ∙ append_assoc x.text first.bits second.bits;
  frames = first.frames ++ second.frames;
  shown = second.shown ∙ ap (λ (t : List (List ℕ)). t ++ second.frames) first.shown ∙ append_assoc x.shown first.frames second.frames;
}

front_group : (s : Settings) (x : Progress) (g : Group Samples) (ends : Bool) → Front x (group_coded s x g ends)
unfolding group_coded
front_group s x g ends = record { bits = _; text = refl; frames = _; shown = refl }

front_all : (s : Settings) (x : Progress) (groups : List (Group Samples)) → Front x (groups_coded s x groups)
unfolding groups_coded
front_all s x [] = front_none x
front_all s x (g ∷ []) = front_group s x g true
front_all s x (g ∷ h ∷ more) =
    front_on x (group_coded s x g false) (groups_coded s (group_coded s x g false) (h ∷ more)) (front_group s x g false) (front_all s (group_coded s x g false) (h ∷ more))

-- the groups that were handed out are coded in front of the whole, whatever comes behind
pub front_is : (s : Settings) (frames : List (List ℕ)) (groups : List (Group Samples)) (q : Queue Samples) → Passes s → HandedOut s frames groups q
    → 0 < length q.frames → Front (groups_begun s (at_start s) groups) (coded_all s frames)
unfolding coded_all is_due
front_is s frames groups q passes h some =
    let e = after_end q in
    let m = length frames - length groups - 1 in
    let room : length frames - length groups ≡ suc m = omega (arith, h.count, some) in
    let due : is_due e ≡ true = ap (λ (t : Bool). t && (true || nat_lt (next_intra e) e.pushed)) (lt-ltb 0 (length q.frames) some) in
    let first : groups_from (length frames - length groups) e ≡ group_of e ∷ groups_from m (after_group e) =
    ap (λ (n : ℕ). groups_from n e) room ∙ from_due m e due in
    let is : groups_coded s (at_start s) (groups_from (length frames) (waiting s frames true)) ≡ groups_coded s (groups_begun s (at_start s) groups) (group_of e ∷ groups_from m (after_group e)) =
    ap (groups_coded s (at_start s)) (all_groups s frames groups q true h ∙ ap (λ (gs : List (Group Samples)). groups ++ gs) first)
    ∙ coded_behind s (at_start s) groups (group_of e) (groups_from m (after_group e)) in
    subst (Front (groups_begun s (at_start s) groups)) (sym is) (front_all s (groups_begun s (at_start s) groups) (group_of e ∷ groups_from m (after_group e)))

-- of no frames nothing is coded
pub front_start : (s : Settings) → Front (groups_begun s (at_start s) []) (coded_all s [])
unfolding groups_begun coded_all groups_from groups_coded
front_start s = front_none (at_start s)

-- behind a group that is due before the end, frames are left
pub left_some : (q : Queue Samples) → Passes q.settings → IsSoundQueue q → q.ended ≡ false → is_due q ≡ true → 0 < length (after_group q).frames
left_some q passes sound going is =
    let ok = grouped q.settings passes in
    let due = due_is q is in
    let turn = turn_is q ok sound due in
    let next = sound_next q ok due turn in
    elim (cases_lt 0 (length (after_group q).frames)) [
      | inl some ↦ some
      | inr none ↦
          let zero_pushed = next.none (omega (arith, none)) going in
          omega (arith, zero_pushed, turn.past, turn.low, turn.high, turn.top)
    ]
