-- A reorder's state along its calls.
use Rattle.std.proofs.Common.{◌≡◌, ℕ, ◌+◌, ◌-◌, ◌<◌, ◌≤◌, Bool, true, false, ltb, [], ◌∷◌, length, take, min, refl, sym, ap, subst, ◌∙◌, arith, ⊎_elim, length-append, inl, inr}
use Rattle.std.specs.Prelude.{All, ◌⊎◌, ◌||◌, filter}
use Rattle.std.proofs.lemmas.Bool.{cases_lt, and_parts, ltb-true}
use Rattle.std.proofs.lemmas.List.{length-drop, length-take-le}
use Rattle.m2v_set.specs.declared.settings.Settings.{Settings}
use Rattle.m2v_set.specs.Rules.{Passes}
use Rattle.m2v_set.proofs.Facts.{bounds}
use Rattle.m2v_order.specs.declared.jobs.PictureJob.{PictureJob}
use Rattle.m2v_order.specs.Groups.{Queue, opening, first_of, intra_from, next_intra, is_due, group_size, group_of, after_push, after_end, after_group, IsSoundQueue}
use Rattle.m2v_order.specs.Coding.{is_anchor, frames_between}
use Rattle.m2v_order.proofs.Anchors.{filter_same}
use Rattle.m2v_order.proofs.Intra.{IsGrouped, intra_low, intra_next, intra_first, same_anchor}
use Rattle.m2v_order.proofs.Turns.{next_first, turn_high, turn_past, turn_all, turn_places, turn_clear}

pub grouped : (s : Settings) → Passes s → IsGrouped s
grouped s passes =
    let choice = (bounds s passes).choice in
    record { group = choice.grouped; step = choice.stepped; whole = choice.whole }

pub true_false : (b : Bool) → b ≡ true → b ≡ false → ⊥
true_false b t f = let e : true ≡ false = sym t ∙ f in cc

module _ {F : Type 0} where
  pub sound_opening : (s : Settings) → (let q : Queue F = opening s in IsSoundQueue q)
  sound_opening s = record { room = omega arith; near = λ some. absurd (omega arith); clear = λ some. absurd (omega arith); none = λ none going. refl }

  pub push_near : (q : Queue F) → IsGrouped q.settings → IsSoundQueue q → q.ended ≡ false → intra_from q.settings (first_of q) < q.pushed + 1
  push_near q ok sound going =
      ⊎_elim
      (λ (some : 0 < length q.frames). let near = sound.near some in omega (arith, near))
      (λ (few : length q.frames ≤ 0).
      let none = sound.none (omega (arith, few)) going in
      let first : first_of q ≡ 0 = omega (arith, none) in
      rw (first, intra_first q.settings ok) (omega arith))
      (cases_lt 0 (length q.frames))

  pub push_first : (q : Queue F) (f : F) → IsSoundQueue q → first_of (after_push q f) ≡ first_of q
  push_first q f sound =
      let room = sound.room in
      let one = length-append q.frames (f ∷ []) in
      omega (arith, room, one)

  push_clear : (q : Queue F) → IsGrouped q.settings → IsSoundQueue q → q.ended ≡ false
      → filter (is_anchor q.settings (q.pushed + 1)) (frames_between (first_of q) (intra_from q.settings (first_of q))) ≡ []
  push_clear q ok sound going =
      let s = q.settings in
      let first = first_of q in
      ⊎_elim
      (λ (some : 0 < length q.frames).
      let near = sound.near some in
      let low = intra_low s first ok in
      filter_same (is_anchor s (q.pushed + 1)) (is_anchor s q.pushed) first (intra_from s first - first)
      (λ i l h. same_anchor s (q.pushed + 1) q.pushed i (omega (arith, near, low, l, h)) (omega (arith, near, low, l, h)))
      ∙ sound.clear some)
      (λ (few : length q.frames ≤ 0).
      let none = sound.none (omega (arith, few)) going in
      let e : first_of q ≡ 0 = omega (arith, none) in
      rw (e, intra_first s ok) refl)
      (cases_lt 0 (length q.frames))

  pub sound_push : (q : Queue F) (f : F) → IsGrouped q.settings → IsSoundQueue q → q.ended ≡ false → IsSoundQueue (after_push q f)
  sound_push q f ok sound going =
      let room = sound.room in
      let one = length-append q.frames (f ∷ []) in
      record {
        room = omega (arith, room, one);
        near = λ some. rw (push_first q f sound) (push_near q ok sound going);
        clear = λ some. rw (push_first q f sound) (push_clear q ok sound going);
        none = λ none o. absurd (omega (arith, none, one));
      }

  pub sound_end : (q : Queue F) → IsSoundQueue q → IsSoundQueue (after_end q)
  sound_end q sound = record { room = sound.room; near = sound.near; clear = sound.clear; none = λ none going. absurd (true_false true refl going) }

  -- the frames below which the next group's anchors stand
  abbrev pub top_of : Queue F → ℕ
  top_of q = min (next_intra q) q.pushed

  -- the first frame behind the next group
  abbrev pub first_next : Queue F → ℕ
  first_next q = next_first q.settings q.pushed (first_of q) (top_of q)

  -- a group is due
  pub record Due (q : Queue F) : Type 0 where
    pub some : 0 < length q.frames
    pub next : (q.ended ≡ true) ⊎ (next_intra q < q.pushed)

  next_step : (q : Queue F) (b : Bool) → q.ended ≡ b → (b || ltb (next_intra q) q.pushed) ≡ true → (q.ended ≡ true) ⊎ (next_intra q < q.pushed)
  next_step q true is e = inl is
  next_step q false is e = inr (ltb-true (next_intra q) q.pushed e)

  pub due_is : (q : Queue F) → is_due q ≡ true → Due q
  unfolding is_due
  due_is q e =
      let parts = and_parts (ltb 0 (length q.frames)) (q.ended || ltb (next_intra q) q.pushed) e in
      record { some = ltb-true 0 (length q.frames) parts.0; next = next_step q q.ended refl parts.1 }

  -- the numbers of a turn
  pub record Turn (q : Queue F) : Type 0 where
    pub low : first_of q ≤ intra_from q.settings (first_of q)
    pub near : intra_from q.settings (first_of q) < top_of q
    pub top : top_of q ≤ q.pushed
    pub next : top_of q ≤ next_intra q
    pub past : intra_from q.settings (first_of q) < first_next q
    pub high : first_next q ≤ top_of q
    pub after : first_of (after_group q) ≡ first_next q
    pub left : length (after_group q).frames + first_next q ≡ q.pushed

  pub turn_is : (q : Queue F) → IsGrouped q.settings → IsSoundQueue q → Due q → Turn q
  turn_is q ok sound due =
      let first = first_of q in
      let m = top_of q in
      let b = first_next q in
      let room = sound.room in
      let near = sound.near due.some in
      let low = intra_low q.settings first ok in
      let pos = ok.group in
      let below : intra_from q.settings first < m = omega (arith, near, pos) in
      let past = turn_past q.settings q.pushed first m ok below in
      let high = turn_high q.settings q.pushed first m (omega (arith, low, below)) in
      let size = length-drop (b - first) q.frames in
      record {
        low = low;
        near = below;
        top = omega arith;
        next = omega arith;
        past = past;
        high = high;
        after = omega (arith, room, past, low, high, size);
        left = omega (arith, room, past, low, high, size);
      }

  top_is : (q : Queue F) → q.pushed ≤ next_intra q → top_of q ≡ q.pushed
  top_is q behind = omega arith

  pub top_next : (q : Queue F) → next_intra q < q.pushed → top_of q ≡ next_intra q
  top_next q before = omega arith

  -- where frames are left, the next I frame has come
  pub has_next : (q : Queue F) → IsGrouped q.settings → Turn q → 0 < length (after_group q).frames → next_intra q < q.pushed
  has_next q ok turn some =
      ⊎_elim
      (λ (before : next_intra q < q.pushed). before)
      (λ (behind : q.pushed ≤ next_intra q).
      let m = top_is q behind in
      let near = turn.near in
      let low = turn.low in
      let left = turn.left in
      let all = turn_all q.settings q.pushed (first_of q) ok (omega (arith, near, low, m)) in
      let e : first_next q ≡ q.pushed = ap (next_first q.settings q.pushed (first_of q)) m ∙ all in
      absurd (omega (arith, e, left, some)))
      (cases_lt (next_intra q) q.pushed)

  -- the I frame after it is that of the group that follows
  pub next_is : (q : Queue F) → IsGrouped q.settings → Turn q → intra_from q.settings (first_next q) ≡ next_intra q
  next_is q ok turn =
      let high = turn.high in
      let next = turn.next in
      intra_next q.settings (first_of q) (first_next q) ok turn.past (omega (arith, high, next))

  -- none is left only after the end
  none_left : (q : Queue F) → Due q → Turn q → length (after_group q).frames ≡ 0 → q.ended ≡ false → ⊥
  none_left q due turn none going =
      ⊎_elim
      (λ (e : q.ended ≡ true). true_false q.ended e going)
      (λ (before : next_intra q < q.pushed).
      let next = turn.next in
      let high = turn.high in
      let left = turn.left in
      omega (arith, next, high, left, none, before))
      due.next

  next_clear : (q : Queue F) → IsGrouped q.settings → Turn q → 0 < length (after_group q).frames
      → filter (is_anchor q.settings q.pushed) (frames_between (first_of (after_group q)) (intra_from q.settings (first_of (after_group q)))) ≡ []
  next_clear q ok turn some =
      let near = turn.near in
      let low = turn.low in
      let m = top_next q (has_next q ok turn some) in
      rw (turn.after, next_is q ok turn)
      (subst (λ x. filter (is_anchor q.settings q.pushed) (frames_between (first_next q) x) ≡ []) m
      (turn_clear q.settings q.pushed (first_of q) (top_of q) (omega (arith, near, low))))

  pub sound_next : (q : Queue F) → IsGrouped q.settings → Due q → Turn q → IsSoundQueue (after_group q)
  sound_next q ok due turn =
      let left = turn.left in
      record {
        room = omega (arith, left);
        near = λ some. rw (turn.after, next_is q ok turn) (has_next q ok turn some);
        clear = λ some. next_clear q ok turn some;
        none = λ none going. absurd (none_left q due turn none going);
      }

  pub group_length : (q : Queue F) → IsSoundQueue q → Turn q → length (take (group_size q) q.frames) ≡ first_next q - first_of q
  group_length q sound turn =
      let room = sound.room in
      let high = turn.high in
      let top = turn.top in
      length-take-le (group_size q) q.frames (omega (arith, room, high, top))

  -- a group has a frame, and each of its pictures has its frame among the group's
  pub group_some : (q : Queue F) → IsSoundQueue q → Turn q → 0 < length (group_of q).frames
  unfolding group_of
  group_some q sound turn =
      let size = group_length q sound turn in
      let past = turn.past in
      let low = turn.low in
      omega (arith, size, past, low)

  pub group_places : (q : Queue F) → IsSoundQueue q → Turn q
      → All (λ (j : PictureJob). (j.display ≡ first_of q + j.frame) × (j.frame < length (group_of q).frames)) (group_of q).pictures
  unfolding group_of
  group_places q sound turn =
      let size = group_length q sound turn in
      rw size (turn_places q.settings q.pushed (first_of q) (top_of q))
