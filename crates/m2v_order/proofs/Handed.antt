-- What a reorder hands out over a list of calls.
use Rattle.std.proofs.Common.{◌≡◌, ℕ, ◌-◌, ◌<◌, ◌≤◌, Bool, true, false, cond, List, [], ◌∷◌, ◌++◌, length, map, take, drop, Some, None, refl, sym, ap, ◌∙◌, subst, arith, ⊎_elim, append_assoc, length-append}
use Rattle.std.specs.Prelude.{All}
use Rattle.std.proofs.lemmas.List.Elements.{All-nil, All-push}
use Rattle.std.specs.List.{flat_map}
use Rattle.std.proofs.lemmas.Grind.{flat_map-append}
use Rattle.std.proofs.lemmas.List.{append-nil, map-append, take-append-drop}
use Rattle.m2v_set.specs.declared.settings.Settings.{Settings}
use Rattle.m2v_set.specs.Rules.{Passes}
use Rattle.m2v_order.specs.Coding.{Picture, is_anchor, Coding, in_order}
use Rattle.m2v_order.specs.Groups.{Queue, first_of, next_intra, is_due, group_size, Group, anchor_before, group_of, after_push, after_end, after_group, followed, IsSoundQueue}
use Rattle.m2v_order.specs.Calls.{Call, Push, End, Next, Run, begun, call, calls, frames_in, jobs_in, picture_of, last_anchor, IsGroup}
use Rattle.m2v_order.specs.Whole.{IsGroupOf}
use Rattle.m2v_order.proofs.Wholes.{group_is, group_stays, due_stays}
use Rattle.m2v_order.proofs.Pictures.{last_more}
use Rattle.m2v_order.proofs.Intra.{test_other, IsGrouped, same_anchor}
use Rattle.m2v_order.proofs.Orders.{frames_none}
use Rattle.m2v_order.proofs.Turns.{rest_of, next_first, turn_jobs, Agree, rest_split, turn_last, turn_intra}
use Rattle.m2v_order.proofs.Queues.{grouped, true_false, sound_opening, push_first, sound_push, sound_end, top_of, Due, due_is, Turn, turn_is, sound_next, group_places}

-- an element of a list with one more at its end
at_push : {A : Type 0} (P : List A → A → Type 0) (xs : List A) (x : A) (b : List A) (y : A) (l : List A) → xs ++ x ∷ [] ≡ b ++ y ∷ l
    → P xs x → ((rest : List A) → xs ≡ b ++ y ∷ rest → P b y) → P b y
at_push P [] x [] y l e last old = let same : x ≡ y = cc in subst (P []) same last
at_push P [] x (z ∷ []) y l e last old = absurd (cc)
at_push P [] x (z ∷ w ∷ b) y l e last old = absurd (cc)
at_push P (a ∷ xs) x [] y l e last old = let same : a ≡ y = cc in old xs (ap (λ c. c ∷ xs) same)
at_push P (a ∷ xs) x (z ∷ b) y l e last old =
    let same : a ≡ z = cc in
    let more : xs ++ x ∷ [] ≡ b ++ y ∷ l = cc in
    at_push (λ c. P (z ∷ c)) xs x b y l more (subst (λ c. P (c ∷ xs) x) same last)
    (λ rest f. old rest (rw same (ap (λ c. z ∷ c) f)))

anchor_some : (b : ℕ) → 0 < b → anchor_before b ≡ Some (b - 1)
unfolding anchor_before
anchor_some b pos = rw (test_other b 0 (λ e. omega (arith, e, pos))) refl

module _ {F : Type 0} where
  -- what every list of calls keeps
  pub record Good (r : Run F) : Type 0 where
    pub passes : Passes r.now.settings
    pub grouped : IsGrouped r.now.settings
    pub sound : IsSoundQueue r.now
    pub count : r.now.pushed ≡ length r.pushed
    pub whole : frames_in r.groups ++ r.now.frames ≡ r.pushed
    pub ahead : (c : ℕ) → r.now.pushed ≤ c → (r.now.ended ≡ true → c ≡ r.now.pushed)
        → Coding r.now.settings c ≡ map picture_of (jobs_in r.groups) ++ rest_of r.now.settings c (first_of r.now)
    pub before : anchor_before (first_of r.now) ≡ last_anchor None (jobs_in r.groups)
    pub handed : All (λ (g : Group F). IsGroupOf r.now.settings g) r.groups
    pub each : (earlier : List (Group F)) (g : Group F) (later : List (Group F)) → r.groups ≡ earlier ++ g ∷ later → IsGroup earlier g

  -- the first frame that waits stands behind those handed out
  first_is : (r : Run F) → Good r → first_of r.now ≡ length (frames_in r.groups)
  first_is r good =
      let count = good.count in
      let whole = ap length good.whole in
      let sum = length-append (frames_in r.groups) r.now.frames in
      omega (arith, count, whole, sum)

  no_split : (earlier : List (Group F)) (g : Group F) (later : List (Group F)) → [] ≡ earlier ++ g ∷ later → ⊥
  no_split [] g later e = cc
  no_split (x ∷ earlier) g later e = cc

  good_begun : (s : Settings) → Passes s → Good (begun s)
  unfolding anchor_before last_anchor
  good_begun s passes = record {
    passes = passes;
    grouped = grouped s passes;
    sound = sound_opening s;
    count = refl;
    whole = refl;
    ahead = λ c low end. refl;
    before = refl;
    handed = All-nil (λ (g : Group F). IsGroupOf s g);
    each = λ earlier g later e. absurd (no_split earlier g later e);
  }

  push_whole : (r : Run F) (f : F) → frames_in r.groups ++ r.now.frames ≡ r.pushed → frames_in r.groups ++ (r.now.frames ++ f ∷ []) ≡ r.pushed ++ f ∷ []
  push_whole r f whole = sym (append_assoc (frames_in r.groups) r.now.frames (f ∷ [])) ∙ ap (λ xs. xs ++ f ∷ []) whole

  good_push : (r : Run F) (f : F) → Good r → r.now.ended ≡ false
      → Good (record { now = after_push r.now f; pushed = r.pushed ++ f ∷ []; groups = r.groups })
  good_push r f good going =
      let q = r.now in
      let first = push_first q f good.sound in
      record {
        passes = good.passes;
        grouped = good.grouped;
        sound = sound_push q f good.grouped good.sound going;
        count = (let c = good.count in let l = length-append r.pushed (f ∷ []) in omega (arith, c, l));
        whole = push_whole r f good.whole;
        ahead = λ c low end. rw first (good.ahead c (omega (arith, low)) (λ t. absurd (true_false q.ended t going)));
        before = rw first good.before;
        handed = good.handed;
        each = good.each;
      }

  good_end : (r : Run F) → Good r → Good (record { now = after_end r.now; pushed = r.pushed; groups = r.groups })
  good_end r good = record {
    passes = good.passes;
    grouped = good.grouped;
    sound = sound_end r.now good.sound;
    count = good.count;
    whole = good.whole;
    ahead = λ c low end. good.ahead c low (λ t. end refl);
    before = good.before;
    handed = good.handed;
    each = good.each;
  }

  one_more : {A : Type 0} (f : Group F → List A) (groups : List (Group F)) (g : Group F) → flat_map f (groups ++ g ∷ []) ≡ flat_map f groups ++ f g
  one_more f groups g = flat_map-append f groups (g ∷ []) ∙ ap (λ xs. flat_map f groups ++ xs) (append-nil (f g))

  next_whole : (r : Run F) → frames_in r.groups ++ r.now.frames ≡ r.pushed → frames_in (r.groups ++ group_of r.now ∷ []) ++ (after_group r.now).frames ≡ r.pushed
  unfolding group_of
  next_whole r whole =
      let q = r.now in
      let n = group_size q in
      rw (one_more (λ (g : Group F). g.frames) r.groups (group_of q), append_assoc (frames_in r.groups) (take n q.frames) (drop n q.frames), take-append-drop n q.frames)
      whole

  -- how many frames follow the next I frame doesn't matter to the group
  agree : (q : Queue F) → Turn q → Due q → (c : ℕ) → q.pushed ≤ c → (q.ended ≡ true → c ≡ q.pushed) → Agree q.settings c q.pushed (first_of q) (top_of q)
  agree q turn due c low end i from to =
      ⊎_elim
      (λ (e : q.ended ≡ true). ap (λ n. is_anchor q.settings n i) (end e))
      (λ (before : next_intra q < q.pushed).
      let next = turn.next in
      same_anchor q.settings c q.pushed i (omega (arith, next, to, before, low)) (omega (arith, next, to, before)))
      due.next

  next_ahead : (r : Run F) → Good r → Due r.now → Turn r.now → (c : ℕ) → r.now.pushed ≤ c → (r.now.ended ≡ true → c ≡ r.now.pushed)
      → Coding r.now.settings c ≡ map picture_of (jobs_in (r.groups ++ group_of r.now ∷ [])) ++ rest_of r.now.settings c (first_of (after_group r.now))
  unfolding group_of
  next_ahead r good due turn c low end =
      let q = r.now in
      let s = r.now.settings in
      let first = first_of q in
      let m = top_of q in
      let jobs = turn_jobs s q.pushed first m in
      let near = turn.near in
      let begin = turn.low in
      let top = turn.top in
      good.ahead c low end
      ∙ (ap (λ xs. map picture_of (jobs_in r.groups) ++ xs) (rest_split s c q.pushed first m (omega (arith, near, begin)) (omega (arith, top, low)) (agree q turn due c low end))
      ∙ (sym (append_assoc (map picture_of (jobs_in r.groups)) (map picture_of jobs) (rest_of s c (next_first s q.pushed first m)))
      ∙ rw (turn.after, one_more (λ (g : Group F). g.pictures) r.groups (group_of q), map-append picture_of (jobs_in r.groups) jobs) refl))

  next_before : (r : Run F) → Good r → Turn r.now → anchor_before (first_of (after_group r.now)) ≡ last_anchor None (jobs_in (r.groups ++ group_of r.now ∷ []))
  unfolding group_of
  next_before r good turn =
      let q = r.now in
      let s = r.now.settings in
      let first = first_of q in
      let m = top_of q in
      let low = turn.low in
      let past = turn.past in
      rw (
        turn.after,
        one_more (λ (g : Group F). g.pictures) r.groups (group_of q),
        last_more None (jobs_in r.groups) (turn_jobs s q.pushed first m),
        turn_last s q.pushed first m (last_anchor None (jobs_in r.groups)) good.grouped (omega (arith, low, past)),
      )
      (anchor_some (next_first s q.pushed first m) (omega (arith, past)))

  next_group : (r : Run F) → Good r → Due r.now → Turn r.now → IsGroup r.groups (group_of r.now)
  unfolding group_of
  next_group r good due turn =
      let q = r.now in
      let same = first_is r good in
      record {
        intra = turn_intra q.settings q.pushed (first_of q) (top_of q) good.grouped turn.near turn.next (good.sound.clear due.some);
        places = rw (sym same) (group_places q good.sound turn);
        before = good.before;
      }

  good_next : (r : Run F) → Good r → is_due r.now ≡ true
      → Good (record { now = after_group r.now; pushed = r.pushed; groups = r.groups ++ group_of r.now ∷ [] })
  good_next r good is =
      let due = due_is r.now is in
      let turn = turn_is r.now good.grouped good.sound due in
      record {
        passes = good.passes;
        grouped = good.grouped;
        sound = sound_next r.now good.grouped due turn;
        count = good.count;
        whole = next_whole r good.whole;
        ahead = λ c low end. next_ahead r good due turn c low end;
        before = next_before r good turn;
        handed = All-push (λ (g : Group F). IsGroupOf r.now.settings g) r.groups (group_of r.now) good.handed (group_is r.now good.passes good.sound is);
        each = λ earlier g later e. at_push IsGroup r.groups (group_of r.now) earlier g later e (next_group r good due turn) (λ rest f. good.each earlier g rest f);
      }

  push_step : (r : Run F) (f : F) (b : Bool) → r.now.ended ≡ b → Good r
      → Good (cond b r (record { now = after_push r.now f; pushed = r.pushed ++ f ∷ []; groups = r.groups }))
  push_step r f true is good = good
  push_step r f false is good = good_push r f good is

  next_step_of : (r : Run F) (b : Bool) → is_due r.now ≡ b → Good r
      → Good (cond b (record { now = after_group r.now; pushed = r.pushed; groups = r.groups ++ group_of r.now ∷ [] }) r)
  next_step_of r true is good = good_next r good is
  next_step_of r false is good = good

  good_call : (r : Run F) (c : Call F) → Good r → Good (call r c)
  unfolding call
  good_call r (Push f) good = push_step r f r.now.ended refl good
  good_call r End good = good_end r good
  good_call r Next good = next_step_of r (is_due r.now) refl good

  pub good_calls : (cs : List (Call F)) (r : Run F) → Good r → Good (calls r cs)
  unfolding calls
  good_calls [] r good = good
  good_calls (c ∷ cs) r good = good_calls cs (call r c) (good_call r c good)

  settings_step : (b : Bool) (s : Settings) (x y : Run F) → x.now.settings ≡ s → y.now.settings ≡ s → (cond b x y).now.settings ≡ s
  settings_step true s x y e f = e
  settings_step false s x y e f = f

  settings_call : (s : Settings) (r : Run F) (c : Call F) → r.now.settings ≡ s → (call r c).now.settings ≡ s
  unfolding call
  settings_call s r (Push f) e = settings_step r.now.ended s r (record { now = after_push r.now f; pushed = r.pushed ++ f ∷ []; groups = r.groups }) e e
  settings_call s r End e = e
  settings_call s r Next e = settings_step (is_due r.now) s (record { now = after_group r.now; pushed = r.pushed; groups = r.groups ++ group_of r.now ∷ [] }) r e e

  pub settings_calls : (s : Settings) (cs : List (Call F)) (r : Run F) → r.now.settings ≡ s → (calls r cs).now.settings ≡ s
  unfolding calls
  settings_calls s [] r e = e
  settings_calls s (c ∷ cs) r e = settings_calls s cs (call r c) (settings_call s r c e)

  -- no frame is lost, whatever the settings
  IsWhole : Run F → Type 0
  IsWhole r = frames_in r.groups ++ r.now.frames ≡ r.pushed

  whole_step : (b : Bool) (x y : Run F) → IsWhole x → IsWhole y → IsWhole (cond b x y)
  whole_step true x y e f = e
  whole_step false x y e f = f

  whole_call : (r : Run F) (c : Call F) → IsWhole r → IsWhole (call r c)
  unfolding call IsWhole
  whole_call r (Push f) e = whole_step r.now.ended r (record { now = after_push r.now f; pushed = r.pushed ++ f ∷ []; groups = r.groups }) e (push_whole r f e)
  whole_call r End e = e
  whole_call r Next e = whole_step (is_due r.now) (record { now = after_group r.now; pushed = r.pushed; groups = r.groups ++ group_of r.now ∷ [] }) r (next_whole r e) e

  whole_calls : (cs : List (Call F)) (r : Run F) → IsWhole r → IsWhole (calls r cs)
  unfolding calls
  whole_calls [] r e = e
  whole_calls (c ∷ cs) r e = whole_calls cs (call r c) (whole_call r c e)

  pub frames_all : (s : Settings) (cs : List (Call F)) → (let r = calls (begun s) cs in frames_in r.groups ++ r.now.frames ≡ r.pushed)
  unfolding IsWhole
  frames_all s cs = whole_calls cs (begun s) refl

  good_all : (s : Settings) (cs : List (Call F)) → Passes s → Good (calls (begun s) cs)
  good_all s cs passes = good_calls cs (begun s) (good_begun s passes)

  pub coding_begins : (s : Settings) (cs : List (Call F)) (count : ℕ) → Passes s
      → (let r = calls (begun s) cs in length r.pushed ≤ count → (r.now.ended ≡ true → count ≡ length r.pushed)
      → (more : List Picture) × (Coding s count ≡ map picture_of (jobs_in r.groups) ++ more))
  coding_begins s cs count passes low end =
      let r = calls (begun s) cs in
      let good = good_all s cs passes in
      let same = settings_calls s cs (begun s) refl in
      let c = good.count in (
        rest_of r.now.settings count (first_of r.now),
        subst (λ t. Coding t count ≡ map picture_of (jobs_in r.groups) ++ rest_of r.now.settings count (first_of r.now)) same
            (good.ahead count (omega (arith, c, low)) (λ t. end t ∙ sym c)),
      )

  pub coding_all : (s : Settings) (cs : List (Call F)) → Passes s
      → (let r = calls (begun s) cs in r.now.ended ≡ true → r.now.frames ≡ [] → map picture_of (jobs_in r.groups) ≡ Coding s (length r.pushed))
  unfolding in_order
  coding_all s cs passes ended empty =
      let r = calls (begun s) cs in
      let good = good_all s cs passes in
      let same = settings_calls s cs (begun s) refl in
      let c = good.count in
      let none = ap length empty in
      let first : first_of r.now ≡ r.now.pushed = omega (arith, none) in
      let ahead = good.ahead r.now.pushed (omega arith) (λ t. refl) in
      let rest : rest_of r.now.settings r.now.pushed (first_of r.now) ≡ [] = rw (first, frames_none r.now.pushed) refl in
      sym (append-nil (map picture_of (jobs_in r.groups)))
      ∙ (ap (λ xs. map picture_of (jobs_in r.groups) ++ xs) (sym rest)
      ∙ (sym ahead ∙ rw (same, c) refl))

  pub groups_all : (s : Settings) (cs : List (Call F)) → Passes s → (earlier : List (Group F)) (g : Group F) (later : List (Group F))
      → (calls (begun s) cs).groups ≡ earlier ++ g ∷ later → IsGroup earlier g
  groups_all s cs passes = (good_all s cs passes).each

  pub handed_all : (s : Settings) (cs : List (Call F)) → Passes s → All (λ (g : Group F). IsGroupOf s g) (calls (begun s) cs).groups
  handed_all s cs passes =
      let same = settings_calls s cs (begun s) refl in
      subst (λ (t : Settings). All (λ (g : Group F). IsGroupOf t g) (calls (begun s) cs).groups) same (good_all s cs passes).handed

  pub sound_all : (s : Settings) (cs : List (Call F)) → Passes s → IsSoundQueue (calls (begun s) cs).now
  sound_all s cs passes = (good_all s cs passes).sound

  pub stays_all : (q : Queue F) (more : List F) (ended : Bool) → Passes q.settings → IsSoundQueue q → q.ended ≡ false → is_due q ≡ true
      → (is_due (followed q more ended) ≡ true) × (group_of (followed q more ended) ≡ group_of q)
  stays_all q more ended passes sound going is =
      (due_stays q more ended passes sound going is, group_stays q more ended passes sound going is)
