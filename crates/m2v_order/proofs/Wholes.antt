-- What every group has that is handed out.
use Rattle.std.proofs.Common.{◌≡◌, ℕ, zero, suc, ◌+◌, ◌-◌, ◌*◌, ◌<◌, ◌≤◌, Bool, true, false, cond, List, [], ◌∷◌, ◌++◌, length, get_or, map, take, Option, Some, None, refl, sym, ap, subst, ◌∙◌, arith, ⊎_elim, length-append, append_assoc}
use Rattle.std.specs.Prelude.{All, ◌==◌, ◌||◌, not, ◌&&◌}
use Rattle.std.specs.List.{flat_map}
use Rattle.std.proofs.lemmas.Bool.{cases_lt, lt-ltb, eqb-true}
use Rattle.std.proofs.lemmas.List.{take-append-le, length-map}
use Rattle.std.proofs.lemmas.List.Elements.{All-append, All-head, All-tail, All-nil}
use Rattle.std.proofs.lemmas.List.Sums.{sum_by-cons, sum_by-append}
use Rattle.m2v_set.specs.declared.settings.Settings.{Settings}
use Rattle.m2v_set.specs.declared.settings.Scan.{Scan}
use Rattle.m2v_set.specs.declared.settings.Scan.TheVariants.{Progressive, Frames, Fields}
use Rattle.m2v_set.specs.Rules.{Passes}
use Rattle.m2v_set.proofs.Facts.{bounds}
use Rattle.m2v_order.specs.declared.jobs.PictureJob.{PictureJob}
use Rattle.m2v_order.specs.Coding.{is_intra, is_anchor, kind_of, frames_between, anchors_between, in_order, structures}
use Rattle.m2v_order.specs.Groups.{Queue, first_of, intra_from, next_intra, is_due, group_anchors, past_last, group_size, Group, jobs_of, anchor_before, group_of, followed, IsSoundQueue}
use Rattle.m2v_order.specs.Whole.{IsKind, fields_of, anchors_without, FollowsTwo, AreFollowing, IsGroupOf}
use Rattle.m2v_order.proofs.Anchors.{Between, past, within, filter_same, flat_map_same, first_anchor, order_count, head_passes}
use Rattle.m2v_order.proofs.Intra.{IsGrouped, intra_first, intra_is, intra_anchor, same_anchor, kind_anchor, kind_is, step_anchor}
use Rattle.m2v_order.proofs.Pictures.{job_by, all_flat, all_jobs}
use Rattle.m2v_order.proofs.Turns.{turn_jobs, turn_high}
use Rattle.m2v_order.proofs.Queues.{grouped, true_false, top_of, first_next, Due, due_is, Turn, turn_is, top_next, group_length, group_some}

-- ---- how many pictures there are

by_two : (scan : Scan) (f : ℕ → PictureJob) → (1 ≤ length (map f (structures scan))) × (length (map f (structures scan)) ≤ 2)
unfolding structures
by_two Progressive f = (omega arith, omega arith)
by_two Frames f = (omega arith, omega arith)
by_two Fields f = (omega arith, omega arith)

jobs_count : (s : Settings) (count first : ℕ) (xs : List ℕ)
    → (length xs ≤ length (flat_map (jobs_of s count first) xs)) × (length (flat_map (jobs_of s count first) xs) ≤ 2 * length xs)
jobs_count s count first [] = (omega arith, omega arith)
jobs_count s count first (x ∷ xs) =
    let one = by_two s.scan (job_by (x - first) x (kind_of s count x)) in
    let rest = jobs_count s count first xs in
    let sum = length-append (jobs_of s count first x) (flat_map (jobs_of s count first) xs) in
    (omega (arith, one.0, rest.0, sum), omega (arith, one.1, rest.1, sum))

-- the pictures are those of a list of frames
abbrev head_of : Settings → ℕ → ℕ → ℕ → PictureJob
head_of s count first i = job_by (i - first) i (kind_of s count i) 0

heads_are : (s : Settings) (count first : ℕ) (xs : List ℕ) → flat_map (jobs_of s count first) xs ≡ flat_map (fields_of s.scan) (map (head_of s count first) xs)
heads_are s count first [] = refl
heads_are s count first (x ∷ xs) = ap (λ ys. jobs_of s count first x ++ ys) (heads_are s count first xs)

-- the pictures of frames by their place: a frame's field pictures stand side by side, the top field first
pub pair_at : (heads : List PictureJob) (i : ℕ) (d : PictureJob) → i < length heads
    → (get_or (flat_map (fields_of Fields) heads) (2 * i) d ≡ record (get_or heads i d) { structure = 1 })
    × (get_or (flat_map (fields_of Fields) heads) (2 * i + 1) d ≡ record (get_or heads i d) { structure = 2 })
unfolding structures
pair_at [] i d lt = absurd (omega arith)
pair_at (h ∷ heads) zero d lt = (refl, refl)
pair_at (h ∷ heads) (suc i) d lt =
    let rec = pair_at heads i d (omega arith) in
    let xs = flat_map (fields_of Fields) (h ∷ heads) in
    let top : 2 * suc i ≡ suc (suc (2 * i)) = omega arith in
    let bottom : 2 * suc i + 1 ≡ suc (suc (2 * i + 1)) = omega arith in
    (ap (λ (k : ℕ). get_or xs k d) top ∙ rec.0, ap (λ (k : ℕ). get_or xs k d) bottom ∙ rec.1)

frame_by : (scan : Scan) (h : PictureJob) (heads : List PictureJob) (i : ℕ) (d : PictureJob) → structures scan ≡ 3 ∷ []
    → get_or (fields_of scan h ++ flat_map (fields_of scan) heads) (suc i) d ≡ get_or (flat_map (fields_of scan) heads) i d
frame_by scan h heads i d e =
    ap (λ (xs : List ℕ). get_or (map (λ structure. record h { structure = structure }) xs ++ flat_map (fields_of scan) heads) (suc i) d) e

-- a frame picture stands at its frame's place
pub frame_at : (scan : Scan) (heads : List PictureJob) (i : ℕ) (d : PictureJob) → structures scan ≡ 3 ∷ [] → i < length heads
    → get_or (flat_map (fields_of scan) heads) i d ≡ record (get_or heads i d) { structure = 3 }
frame_at scan [] i d e lt = absurd (omega arith)
frame_at scan (h ∷ heads) zero d e lt =
    ap (λ (xs : List ℕ). get_or (map (λ structure. record h { structure = structure }) xs ++ flat_map (fields_of scan) heads) 0 d) e
frame_at scan (h ∷ heads) (suc i) d e lt = frame_by scan h heads i d e ∙ frame_at scan heads i d e (omega arith)

-- ---- the I frame is near

past_last_nil : (from : ℕ) → past_last from [] ≡ from
unfolding past_last
past_last_nil from = refl

pub intra_near : (s : Settings) (count first : ℕ) → IsGrouped s → anchors_between s count first (intra_from s first) ≡ [] → intra_from s first < first + s.step
intra_near s count first ok clear =
    let p = is_anchor s count in
    let intra = intra_from s first in
    ⊎_elim
    (λ (near : intra < first + s.step). near)
    (λ (far : first + s.step ≤ intra).
    let at = step_anchor s count first ok (omega arith) in
    let h = past p first (intra - first) (intra - s.step) (omega arith) (omega (arith, ok.step)) at in
    let none = ap (past_last first) clear ∙ past_last_nil first in
    absurd (omega (arith, h, none)))
    (cases_lt intra (first + s.step))

-- ---- B pictures follow two anchors

abbrev NotB : PictureJob → Type 0
NotB j = j.kind ≡ 3 → ⊥

not_three : (k : ℕ) → (k == 3) ≡ false → k ≡ 3 → ⊥
not_three k f e = let t : (3 == 3) ≡ false = subst (λ (n : ℕ). (n == 3) ≡ false) e f in cc

abbrev is_without : ℕ → PictureJob → Bool
is_without field j = not (j.kind == 3) && not (j.structure == field)

count_more : (field : ℕ) (x : PictureJob) (xs : List PictureJob) → anchors_without field (x ∷ xs) ≡ cond (is_without field x) 1 0 + anchors_without field xs
count_more field x xs = sum_by-cons (λ (j : PictureJob). cond (is_without field j) 1 0) x xs

count_append : (field : ℕ) (xs ys : List PictureJob) → anchors_without field (xs ++ ys) ≡ anchors_without field xs + anchors_without field ys
count_append field xs ys = sum_by-append (λ (j : PictureJob). cond (is_without field j) 1 0) xs ys

has : (field frame display kind structure : ℕ) → (kind == 3) ≡ false → (structure == field) ≡ false
    → cond {A = ℕ} (is_without field (job_by frame display kind structure)) 1 0 ≡ 1
has field frame display kind structure e f = rw (e, f) refl

by_count : (scan : Scan) (frame display kind : ℕ) → (kind == 3) ≡ false
    → (1 ≤ anchors_without 2 (map (job_by frame display kind) (structures scan))) × (1 ≤ anchors_without 1 (map (job_by frame display kind) (structures scan)))
unfolding structures
by_count Progressive frame display kind e =
    let x = job_by frame display kind 3 in
    (omega (arith, count_more 2 x [], has 2 frame display kind 3 e refl), omega (arith, count_more 1 x [], has 1 frame display kind 3 e refl))
by_count Frames frame display kind e =
    let x = job_by frame display kind 3 in
    (omega (arith, count_more 2 x [], has 2 frame display kind 3 e refl), omega (arith, count_more 1 x [], has 1 frame display kind 3 e refl))
by_count Fields frame display kind e =
    let x = job_by frame display kind 1 in
    let y = job_by frame display kind 2 in (
      omega (arith, count_more 2 x (y ∷ []), has 2 frame display kind 1 e refl),
      omega (arith, count_more 1 x (y ∷ []), count_more 1 y [], has 1 frame display kind 2 e refl),
    )

-- up to a B picture stand all that aren't B
front_count : (field : ℕ) (x y earlier later : List PictureJob) (b : PictureJob) → x ++ y ≡ earlier ++ b ∷ later → All NotB x → b.kind ≡ 3
    → anchors_without field x ≤ anchors_without field earlier
front_count field [] y earlier later b e each k = omega arith
front_count field (a ∷ x) y [] later b e each k =
    let same : a ≡ b = cc in
    absurd (All-head NotB a x each (ap (λ (j : PictureJob). j.kind) same ∙ k))
front_count field (a ∷ x) y (c ∷ earlier) later b e each k =
    let same : a ≡ c = cc in
    let more : x ++ y ≡ earlier ++ b ∷ later = cc in
    let one : cond {A = ℕ} (is_without field a) 1 0 ≡ cond {A = ℕ} (is_without field c) 1 0 = ap (λ (j : PictureJob). cond {A = ℕ} (is_without field j) 1 0) same in
    let rec = front_count field x y earlier later b more (All-tail NotB a x each) k in
    omega (arith, count_more field a x, count_more field c earlier, one, rec)

no_b : (x earlier later : List PictureJob) (b : PictureJob) → x ≡ earlier ++ b ∷ later → All NotB x → b.kind ≡ 3 → ⊥
no_b [] [] later b e each k = cc
no_b [] (c ∷ earlier) later b e each k = cc
no_b (a ∷ x) [] later b e each k =
    let same : a ≡ b = cc in
    All-head NotB a x each (ap (λ (j : PictureJob). j.kind) same ∙ k)
no_b (a ∷ x) (c ∷ earlier) later b e each k =
    let more : x ≡ earlier ++ b ∷ later = cc in no_b x earlier later b more (All-tail NotB a x each) k

module _ (s : Settings) (count m : ℕ) (ok : IsGrouped s) (some : 0 < m) where
  p : ℕ → Bool
  p = is_anchor s count

  jobs : ℕ → List PictureJob
  jobs = jobs_of s count 0

  zero_anchor : is_anchor s count 0 ≡ true
  zero_anchor = intra_anchor s count 0 ok (subst (λ (i : ℕ). is_intra s i ≡ true) (intra_first s ok) (intra_is s 0))

  others : (i : ℕ) → is_anchor s count i ≡ true → All NotB (jobs_of s count 0 i)
  others i is = all_jobs NotB s count 0 i (λ structure. not_three (kind_of s count i) (kind_anchor s count i is))

  anchored : (i : ℕ) → is_anchor s count i ≡ true
      → (1 ≤ anchors_without 2 (jobs_of s count 0 i)) × (1 ≤ anchors_without 1 (jobs_of s count 0 i))
  anchored i is = by_count s.scan (i - 0) i (kind_of s count i) (kind_anchor s count i is)

  follow_step : (later : List ℕ) → anchors_between s count 1 m ≡ later
      → turn_jobs s count 0 m ≡ jobs_of s count 0 0 ++ flat_map (jobs_of s count 0) (in_order 1 later)
      → (front : List PictureJob) (b : PictureJob) (back : List PictureJob) → turn_jobs s count 0 m ≡ front ++ b ∷ back → b.kind ≡ 3 → FollowsTwo front
  unfolding in_order
  follow_step [] e begins front b back split k =
      absurd (no_b (jobs_of s count 0 0 ++ []) front back b (sym begins ∙ split) (All-append NotB (jobs_of s count 0 0) [] (others 0 zero_anchor) (All-nil NotB)) k)
  follow_step (a ∷ more) e begins front b back split k =
      let x = jobs_of s count 0 0 in
      let y = jobs_of s count 0 a in
      let z = flat_map (jobs_of s count 0) (frames_between 1 a ++ in_order (a + 1) more) in
      let is = head_passes (is_anchor s count) (frames_between 1 m) a more e in
      let whole : (x ++ y) ++ z ≡ front ++ b ∷ back = append_assoc x y z ∙ sym begins ∙ split in
      let none = All-append NotB x y (others 0 zero_anchor) (others a is) in
      let top = front_count 2 (x ++ y) z front back b whole none k in
      let bottom = front_count 1 (x ++ y) z front back b whole none k in
      let u = anchored 0 zero_anchor in
      let v = anchored a is in
      (omega (arith, top, count_append 2 x y, u.0, v.0), omega (arith, bottom, count_append 1 x y, u.1, v.1))

  turn_begins : turn_jobs s count 0 m ≡ jobs_of s count 0 0 ++ flat_map (jobs_of s count 0) (in_order 1 (anchors_between s count 1 m))
  unfolding in_order
  turn_begins =
      let found = first_anchor (is_anchor s count) 0 0 m (omega arith) some zero_anchor refl in
      ap (λ (xs : List ℕ). flat_map (jobs_of s count 0) (in_order 0 xs)) found

  pub turn_following : (front : List PictureJob) (b : PictureJob) (back : List PictureJob) → turn_jobs s count 0 m ≡ front ++ b ∷ back → b.kind ≡ 3 → FollowsTwo front
  turn_following = follow_step (anchors_between s count 1 m) refl turn_begins

none_step : (n : ℕ) (b : Bool) → (n == 0) ≡ b → cond b None (Some (n - 1)) ≡ None → n ≡ 0
none_step n true is e = eqb-true n 0 is
none_step n false is e = absurd (cc)

none_first : (n : ℕ) → anchor_before n ≡ None → n ≡ 0
unfolding anchor_before
none_first n e = none_step n (n == 0) refl e

following_at : (s : Settings) (count first m : ℕ) → IsGrouped s → 0 < m → first ≡ 0
    → (front : List PictureJob) (b : PictureJob) (back : List PictureJob) → turn_jobs s count first m ≡ front ++ b ∷ back → b.kind ≡ 3 → FollowsTwo front
following_at s count first m ok some e =
    subst (λ (n : ℕ). (front : List PictureJob) (b : PictureJob) (back : List PictureJob) → turn_jobs s count n m ≡ front ++ b ∷ back → b.kind ≡ 3 → FollowsTwo front) (sym e)
    (turn_following s count m ok some)

same_jobs : (s : Settings) (a b first i : ℕ) → is_anchor s a i ≡ is_anchor s b i → jobs_of s a first i ≡ jobs_of s b first i
same_jobs s a b first i e = rw e refl

same_turn : (s : Settings) (a b first m : ℕ) → ((i : ℕ) → first ≤ i → i < m → is_anchor s a i ≡ is_anchor s b i) → first ≤ m
    → turn_jobs s a first m ≡ turn_jobs s b first m
same_turn s a b first m agree low =
    let anchors = anchors_between s b first m in
    let same : anchors_between s a first m ≡ anchors = filter_same (is_anchor s a) (is_anchor s b) first (m - first) (λ i l h. agree i l (omega arith)) in
    let top = turn_high s b first m low in
    ap (λ (xs : List ℕ). flat_map (jobs_of s a first) (in_order first xs)) same
    ∙ flat_map_same (jobs_of s a first) (jobs_of s b first) (Between first (past_last first anchors)) (in_order first anchors) (within (is_anchor s b) first (m - first))
    (λ i h. same_jobs s a b first i (agree i h.0 (omega (arith, h.1, top))))

or_true : (b : Bool) → (b || true) ≡ true
or_true true = refl
or_true false = refl

-- ---- the group

module _ {F : Type 0} where
  frames_count : (q : Queue F) → IsSoundQueue q → Turn q → length (group_of q).frames ≡ first_next q - first_of q
  unfolding group_of
  frames_count q sound turn = group_length q sound turn

  abbrev frames_order : Queue F → List ℕ
  frames_order q = in_order (first_of q) (group_anchors q)

  order_length : (q : Queue F) → Turn q → length (frames_order q) ≡ first_next q - first_of q
  order_length q turn =
      let n = top_of q - first_of q in
      let all = order_count (is_anchor q.settings q.pushed) (first_of q) n in
      omega (arith, all)

  all_kinds : (q : Queue F) → All IsKind (group_of q).pictures
  unfolding group_of
  all_kinds q =
      all_flat (Between (first_of q) (first_next q)) IsKind (jobs_of q.settings q.pushed (first_of q)) (frames_order q)
      (within (is_anchor q.settings q.pushed) (first_of q) (top_of q - first_of q))
      (λ i h. all_jobs IsKind q.settings q.pushed (first_of q) i (λ structure. kind_is q.settings q.pushed i))

  pictures_count : (q : Queue F)
      → (length (frames_order q) ≤ length (group_of q).pictures) × (length (group_of q).pictures ≤ 2 * length (frames_order q))
  unfolding group_of
  pictures_count q = jobs_count q.settings q.pushed (first_of q) (frames_order q)

  pictures_heads : (q : Queue F) → (group_of q).pictures ≡ flat_map (fields_of q.settings.scan) (map (head_of q.settings q.pushed (first_of q)) (frames_order q))
  unfolding group_of
  pictures_heads q = heads_are q.settings q.pushed (first_of q) (frames_order q)

  pictures_follow : (q : Queue F) → IsGrouped q.settings → Turn q → AreFollowing (group_of q).before (group_of q).pictures
  unfolding group_of
  pictures_follow q ok turn none =
      following_at q.settings q.pushed (first_of q) (top_of q) ok (omega (arith, turn.near)) (none_first (first_of q) none)

  pub group_is : (q : Queue F) → Passes q.settings → IsSoundQueue q → is_due q ≡ true → IsGroupOf q.settings (group_of q)
  group_is q passes sound is =
      let ok = grouped q.settings passes in
      let due = due_is q is in
      let turn = turn_is q ok sound due in
      let choice = (bounds q.settings passes).choice in
      let near = intra_near q.settings q.pushed (first_of q) ok (sound.clear due.some) in
      let size = frames_count q sound turn in
      let order = order_length q turn in
      let pictures = pictures_count q in
      let few : first_next q - first_of q ≤ 63 = omega (arith, near, turn.high, turn.next, choice.group, choice.step) in
      let some = group_some q sound turn in
      record {
        queue = q;
        settings = refl;
        sound = sound;
        due = is;
        is = refl;
        frame = omega (arith, some);
        frames = omega (arith, size, few);
        picture = omega (arith, some, size, order, pictures.0);
        pictures = omega (arith, few, order, pictures.1);
        kinds = all_kinds q;
        heads = map (head_of q.settings q.pushed (first_of q)) (frames_order q);
        fields = pictures_heads q;
        each = length-map (frames_order q) (head_of q.settings q.pushed (first_of q)) ∙ order ∙ sym size;
        following = pictures_follow q ok turn;
      }

  -- ---- what follows doesn't matter to a group that is due

  same_group : (fs gs : List F) (ps qs : List PictureJob) (b c : Option ℕ) → fs ≡ gs → ps ≡ qs → b ≡ c
      → (let x : Group F = record { frames = fs; pictures = ps; before = b } in let y : Group F = record { frames = gs; pictures = qs; before = c } in x ≡ y)
  same_group fs gs ps qs b c e f g = rw (e, f, g) refl

  -- the numbers of the group are the same
  record Same (q r : Queue F) : Type 0 where
    pub first : first_of r ≡ first_of q
    pub next : next_intra r ≡ next_intra q
    pub top : top_of r ≡ top_of q

  same_numbers : (q : Queue F) (more : List F) (ended : Bool) → IsSoundQueue q → next_intra q < q.pushed → Same q (followed q more ended)
  same_numbers q more ended sound before =
      let first : first_of (followed q more ended) ≡ first_of q = omega (arith, sound.room, length-append q.frames more) in
      let next : next_intra (followed q more ended) ≡ next_intra q = ap (λ (n : ℕ). intra_from q.settings n + q.settings.group) first in
      record { first = first; next = next; top = omega (arith, next, before) }

  comes_before : (q : Queue F) → Due q → q.ended ≡ false → next_intra q < q.pushed
  comes_before q due going = ⊎_elim (λ (e : q.ended ≡ true). absurd (true_false q.ended e going)) (λ (before : next_intra q < q.pushed). before) due.next

  anchors_stay : (q : Queue F) (n : ℕ) → Turn q → next_intra q < q.pushed → (i : ℕ) → first_of q ≤ i → i < top_of q
      → is_anchor q.settings (q.pushed + n) i ≡ is_anchor q.settings q.pushed i
  anchors_stay q n turn before i low high =
      let top = top_next q before in
      same_anchor q.settings (q.pushed + n) q.pushed i (omega (arith, high, top, before)) (omega (arith, high, top, before))

  pub group_stays : (q : Queue F) (more : List F) (ended : Bool) → Passes q.settings → IsSoundQueue q → q.ended ≡ false → is_due q ≡ true
      → group_of (followed q more ended) ≡ group_of q
  unfolding group_of
  group_stays q more ended passes sound going is =
      let s = q.settings in
      let r = followed q more ended in
      let ok = grouped s passes in
      let due = due_is q is in
      let turn = turn_is q ok sound due in
      let before = comes_before q due going in
      let same = same_numbers q more ended sound before in
      let stay = anchors_stay q (length more) turn before in
      let low : first_of q ≤ top_of q = omega (arith, turn.low, turn.near) in
      let anchors : group_anchors r ≡ group_anchors q =
      ap (λ (n : ℕ). anchors_between s r.pushed n (top_of r)) same.first
      ∙ ap (λ (n : ℕ). anchors_between s r.pushed (first_of q) n) same.top
      ∙ filter_same (is_anchor s r.pushed) (is_anchor s q.pushed) (first_of q) (top_of q - first_of q) (λ i l h. stay i l (omega (arith, low))) in
      let size : group_size r ≡ group_size q =
      ap (λ (xs : List ℕ). past_last (first_of r) xs - first_of r) anchors ∙ ap (λ (n : ℕ). past_last n (group_anchors q) - n) same.first in
      let fits : group_size q ≤ length q.frames = omega (arith, sound.room, turn.high, turn.top) in
      same_group _ _ _ _ _ _
      (ap (λ (n : ℕ). take n (q.frames ++ more)) size ∙ take-append-le (group_size q) q.frames more fits)
      (ap (λ (n : ℕ). turn_jobs s r.pushed n (top_of r)) same.first
      ∙ ap (λ (n : ℕ). turn_jobs s r.pushed (first_of q) n) same.top
      ∙ same_turn s r.pushed q.pushed (first_of q) (top_of q) stay low)
      (ap anchor_before same.first)

  pub due_stays : (q : Queue F) (more : List F) (ended : Bool) → Passes q.settings → IsSoundQueue q → q.ended ≡ false → is_due q ≡ true
      → is_due (followed q more ended) ≡ true
  unfolding is_due
  due_stays q more ended passes sound going is =
      let due = due_is q is in
      let before = comes_before q due going in
      let same = same_numbers q more ended sound before in
      rw (lt-ltb 0 (length (q.frames ++ more)) (omega (arith, due.some, length-append q.frames more)), lt-ltb (next_intra (followed q more ended)) (q.pushed + length more) (omega (arith, same.next, before)), or_true ended) refl
