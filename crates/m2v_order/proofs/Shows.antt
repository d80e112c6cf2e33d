-- A display queue's steps over a list of frames, and display order.
use Rattle.std.proofs.Common.{◌≡◌, ℕ, zero, suc, Bool, true, false, cond, List, [], ◌∷◌, ◌++◌, refl, sym, ap, ◌∙◌, append_assoc, Option, Some, None, option_to_list, is_some}
use Rattle.std.specs.Prelude.{filter, not, ◌&&◌, ◌||◌}
use Rattle.std.specs.List.{list_any}
use Rattle.std.proofs.lemmas.List.{append-nil, map-append}
use Rattle.std.proofs.lemmas.List.Elements.{filter-append}
use Rattle.m2v_order.specs.Display.{is_b, is_reference, anchors, b_after, from_anchor, Order, is_kept, Shown, without_last_anchor, Due, Holder, opening, shown, held, handed, held_after, frames_of}

or_true : (t : Bool) → (t || true) ≡ true
or_true true = refl
or_true false = refl

neither : (s t : Bool) → (s || t) ≡ false → (s ≡ false) × (t ≡ false)
neither true t e = absurd (cc)
neither false t e = (refl, e)

module _ {F : Type 0} where
  -- what is shown of frames with their types, while an anchor is held
  shows : Option (F × ℕ) → List (F × ℕ) → List (F × ℕ)
  shows h [] = []
  shows h (p ∷ ps) = cond (is_b p) (p ∷ shows h ps) (option_to_list h ++ shows (Some p) ps)

  -- the anchor that is held after them
  last_held : Option (F × ℕ) → List (F × ℕ) → Option (F × ℕ)
  last_held h [] = h
  last_held h (p ∷ ps) = cond (is_b p) (last_held h ps) (last_held (Some p) ps)

  -- a B frame stands before no later anchor
  from_anchor-b : (p : F × ℕ) → is_b p ≡ true → (k : ℕ) (more ps : List (F × ℕ)) → from_anchor (suc k) more (p ∷ ps) ≡ from_anchor (suc k) more ps
  unfolding from_anchor b_after
  from_anchor-b p b k [] ps = refl
  from_anchor-b p b k (a ∷ more) ps = rw (b, from_anchor-b p b (suc k) more ps) refl

  -- behind an anchor, anchors are numbered one less
  from_anchor-a : (p : F × ℕ) → is_b p ≡ false → (k : ℕ) (more ps : List (F × ℕ)) → from_anchor (suc k) more (p ∷ ps) ≡ from_anchor k more ps
  unfolding from_anchor b_after
  from_anchor-a p b k [] ps = refl
  from_anchor-a p b k (a ∷ more) ps = rw (b, from_anchor-a p b (suc k) more ps) refl

  order_of : Option (F × ℕ) → List (F × ℕ) → List (F × ℕ)
  order_of h ps = b_after 0 ps ++ (option_to_list h ++ from_anchor 1 (anchors ps) ps)

  shows_step : (h : Option (F × ℕ)) (p : F × ℕ) (ps : List (F × ℕ)) (b : Bool) → is_b p ≡ b
      → ((g : Option (F × ℕ)) → shows g ps ++ option_to_list (last_held g ps) ≡ order_of g ps)
      → cond b (p ∷ shows h ps) (option_to_list h ++ shows (Some p) ps) ++ option_to_list (cond b (last_held h ps) (last_held (Some p) ps))
      ≡ cond b (p ∷ b_after 0 ps) [] ++ (option_to_list h ++ from_anchor 1 (cond (not b) (p ∷ anchors ps) (anchors ps)) (p ∷ ps))
  unfolding from_anchor b_after order_of
  shows_step h p ps true b rec = rw (from_anchor-b p b 0 (anchors ps) ps) (ap (λ xs. p ∷ xs) (rec h))
  shows_step h p ps false b rec =
      append_assoc (option_to_list h) (shows (Some p) ps) (option_to_list (last_held (Some p) ps))
      ∙ ap (λ xs. option_to_list h ++ xs) (rw (b, from_anchor-a p b 1 (anchors ps) ps) (rec (Some p)))

  -- what is shown, with the anchor that is held at the end, is display order
  shows_is : (h : Option (F × ℕ)) (ps : List (F × ℕ)) → shows h ps ++ option_to_list (last_held h ps) ≡ order_of h ps
  unfolding shows last_held order_of from_anchor b_after
  shows_is h [] = sym (append-nil (option_to_list h))
  shows_is h (p ∷ ps) = shows_step h p ps (is_b p) refl (λ g. shows_is g ps)

  -- no anchor was dropped
  anchors_step : (dropped : F → Bool) (p : F × ℕ) (fs ps : List (F × ℕ)) (b d : Bool) → is_b p ≡ b → anchors fs ≡ anchors ps
      → anchors (cond (not (b && d)) (p ∷ fs) fs) ≡ cond (not b) (p ∷ anchors ps) (anchors ps)
  anchors_step dropped p fs ps true true b rec = rec
  anchors_step dropped p fs ps true false b rec = rw b rec
  anchors_step dropped p fs ps false d b rec = rw b (ap (λ xs. p ∷ xs) rec)

  anchors_kept : (dropped : F → Bool) (ps : List (F × ℕ)) → anchors (filter (is_kept dropped) ps) ≡ anchors ps
  anchors_kept dropped [] = refl
  anchors_kept dropped (p ∷ ps) =
      anchors_step dropped p (filter (is_kept dropped) ps) ps (is_b p) (dropped p.0) refl (anchors_kept dropped ps)

  b_after_step : (dropped : F → Bool) (k : ℕ) (p : F × ℕ) (ps : List (F × ℕ)) (b d : Bool) → is_b p ≡ b → dropped p.0 ≡ d
      → ((n : ℕ) → b_after n (filter (is_kept dropped) ps) ≡ filter (is_kept dropped) (b_after n ps))
      → b_after k (filter (is_kept dropped) (p ∷ ps)) ≡ filter (is_kept dropped) (b_after k (p ∷ ps))
  unfolding b_after
  b_after_step dropped zero p ps true true b d rec = simp (b, d) (rec 0)
  b_after_step dropped zero p ps true false b d rec = simp (b, d) (ap (λ xs. p ∷ xs) (rec 0))
  b_after_step dropped zero p ps false d b e rec = simp b refl
  b_after_step dropped (suc k) p ps true true b d rec = simp (b, d) (rec (suc k))
  b_after_step dropped (suc k) p ps true false b d rec = simp (b, d) (rec (suc k))
  b_after_step dropped (suc k) p ps false d b e rec = simp b (rec k)

  b_after_kept : (dropped : F → Bool) (ps : List (F × ℕ)) (k : ℕ) → b_after k (filter (is_kept dropped) ps) ≡ filter (is_kept dropped) (b_after k ps)
  unfolding b_after
  b_after_kept dropped [] k = refl
  b_after_kept dropped (p ∷ ps) k = b_after_step dropped k p ps (is_b p) (dropped p.0) refl refl (b_after_kept dropped ps)

  from_anchor_step : (dropped : F → Bool) (q : F × ℕ) (qs ps : List (F × ℕ)) (k : ℕ) (b : Bool) → is_b q ≡ b
      → ((n : ℕ) → from_anchor n (anchors qs) (filter (is_kept dropped) ps) ≡ filter (is_kept dropped) (from_anchor n (anchors qs) ps))
      → from_anchor k (anchors (q ∷ qs)) (filter (is_kept dropped) ps) ≡ filter (is_kept dropped) (from_anchor k (anchors (q ∷ qs)) ps)
  unfolding from_anchor
  from_anchor_step dropped q qs ps k true b rec = rw b (rec k)
  from_anchor_step dropped q qs ps k false b rec =
      let keep = is_kept dropped in
      let more = from_anchor (suc k) (anchors qs) ps in
      rw (b, b_after_kept dropped ps k, rec (suc k), filter-append keep (b_after k ps) (q ∷ more)) (rw b refl)

  from_anchor_kept : (dropped : F → Bool) (qs ps : List (F × ℕ)) (k : ℕ)
      → from_anchor k (anchors qs) (filter (is_kept dropped) ps) ≡ filter (is_kept dropped) (from_anchor k (anchors qs) ps)
  unfolding from_anchor
  from_anchor_kept dropped [] ps k = refl
  from_anchor_kept dropped (q ∷ qs) ps k = from_anchor_step dropped q qs ps k (is_b q) refl (from_anchor_kept dropped qs ps)

  -- dropped frames may be left out before or after the frames are put in order
  pub order_kept : (dropped : F → Bool) (low_delay : Bool) (ps : List (F × ℕ)) → Order low_delay (filter (is_kept dropped) ps) ≡ Shown dropped low_delay ps
  unfolding Order
  order_kept dropped true ps = refl
  order_kept dropped false ps =
      let keep = is_kept dropped in
      rw (anchors_kept dropped ps, b_after_kept dropped ps 0, from_anchor_kept dropped ps ps 1)
      (sym (filter-append keep (b_after 0 ps) (from_anchor 1 (anchors ps) ps)))

  -- an anchor at the end is the last one
  any_last : (xs : List (F × ℕ)) (a : F × ℕ) → is_b a ≡ false → list_any is_reference (xs ++ a ∷ []) ≡ true
  any_last [] a b = rw b refl
  any_last (x ∷ xs) a b = rw (any_last xs a b) (or_true (is_reference x))

  not_both : (t : Bool) (xs ys : List (F × ℕ)) → cond (t && false) xs ys ≡ ys
  not_both true xs ys = refl
  not_both false xs ys = refl

  without_last : (xs : List (F × ℕ)) (a : F × ℕ) → is_b a ≡ false → without_last_anchor (xs ++ a ∷ []) ≡ xs
  unfolding without_last_anchor
  without_last [] a b = rw b refl
  without_last (x ∷ xs) a b =
      rw (any_last xs a b, without_last xs a b) (not_both (is_reference x) (xs ++ a ∷ []) (x ∷ xs))

  without_none : (xs : List (F × ℕ)) → list_any is_reference xs ≡ false → without_last_anchor xs ≡ xs
  unfolding without_last_anchor
  without_none [] e = refl
  without_none (x ∷ xs) e =
      let parts = neither (is_reference x) (list_any is_reference xs) e in
      rw (parts.0, without_none xs parts.1) refl

  -- the anchor that is held is one
  IsHeld : Option (F × ℕ) → Type 0
  IsHeld None = Unit {0}
  IsHeld (Some a) = is_b a ≡ false

  held_step : (h : Option (F × ℕ)) (p : F × ℕ) (ps : List (F × ℕ)) (b : Bool) → is_b p ≡ b → IsHeld h
      → ((g : Option (F × ℕ)) → IsHeld g → IsHeld (last_held g ps)) → IsHeld (cond b (last_held h ps) (last_held (Some p) ps))
  unfolding IsHeld
  held_step h p ps true b ok rec = rec h ok
  held_step h p ps false b ok rec = rec (Some p) b

  held_is : (ps : List (F × ℕ)) (h : Option (F × ℕ)) → IsHeld h → IsHeld (last_held h ps)
  unfolding last_held
  held_is [] h ok = ok
  held_is (p ∷ ps) h ok = held_step h p ps (is_b p) refl ok (held_is ps)

  some_step : (a p : F × ℕ) (ps : List (F × ℕ)) (b : Bool) → ((c : F × ℕ) → is_some (last_held (Some c) ps) ≡ true)
      → is_some (cond b (last_held (Some a) ps) (last_held (Some p) ps)) ≡ true
  some_step a p ps true rec = rec a
  some_step a p ps false rec = rec p

  -- an anchor that is held stays or makes way for the next one
  some_stays : (ps : List (F × ℕ)) (a : F × ℕ) → is_some (last_held (Some a) ps) ≡ true
  unfolding last_held
  some_stays [] a = refl
  some_stays (p ∷ ps) a = some_step a p ps (is_b p) (some_stays ps)

  none_step : (h : Option (F × ℕ)) (p : F × ℕ) (ps : List (F × ℕ)) (b : Bool) → is_b p ≡ b
      → is_some (cond b (last_held h ps) (last_held (Some p) ps)) ≡ false
      → (is_some (last_held h ps) ≡ false → list_any is_reference (shows h ps) ≡ false)
      → list_any is_reference (cond b (p ∷ shows h ps) (option_to_list h ++ shows (Some p) ps)) ≡ false
  none_step h p ps true b e rec = rw b (rec e)
  none_step h p ps false b e rec = absurd (let s = some_stays ps p in let t : true ≡ false = sym s ∙ e in cc)

  -- where no anchor is held, none was shown
  none_shown : (ps : List (F × ℕ)) (h : Option (F × ℕ)) → is_some (last_held h ps) ≡ false → list_any is_reference (shows h ps) ≡ false
  unfolding last_held shows
  none_shown [] h e = refl
  none_shown (p ∷ ps) h e = none_step h p ps (is_b p) refl e (none_shown ps h)

  due_step : (xs : List (F × ℕ)) (l : Option (F × ℕ)) → IsHeld l → (is_some l ≡ false → list_any is_reference xs ≡ false)
      → without_last_anchor (xs ++ option_to_list l) ≡ xs
  unfolding IsHeld
  due_step xs None ok none = rw (append-nil xs) (without_none xs (none refl))
  due_step xs (Some a) ok none = without_last xs a ok

  shows_due : (ps : List (F × ℕ)) → without_last_anchor (shows None ps ++ option_to_list (last_held None ps)) ≡ shows None ps
  unfolding IsHeld
  shows_due ps = due_step (shows None ps) (last_held None ps) (held_is ps None tt) (none_shown ps None)

  order_shows : (ps : List (F × ℕ)) → Order false ps ≡ shows None ps ++ option_to_list (last_held None ps)
  unfolding Order order_of
  order_shows ps = sym (shows_is None ps)

  due_shows : (dropped : F → Bool) (ps : List (F × ℕ)) → Due dropped false ps ≡ shows None (filter (is_kept dropped) ps)
  due_shows dropped ps =
      let kept = filter (is_kept dropped) ps in
      rw (sym (order_kept dropped false ps), order_shows kept) (shows_due kept)

  -- the queue's steps hand out what is shown
  frame_of : Option (F × ℕ) → Option F
  frame_of None = None
  frame_of (Some p) = Some p.0

  holding : Bool → Option F → Holder F
  holding low_delay anchor = record { low_delay = low_delay; anchor = anchor }

  handed_step : (h : Option (F × ℕ)) (p : F × ℕ) (ps : List (F × ℕ)) (b : Bool)
      → ((g : Option (F × ℕ)) → handed (holding false (frame_of g)) ps ≡ frames_of (shows g ps))
      → option_to_list (cond b (Some p.0) (frame_of h)) ++ handed (cond b (holding false (frame_of h)) (holding false (Some p.0))) ps
      ≡ frames_of (cond b (p ∷ shows h ps) (option_to_list h ++ shows (Some p) ps))
  unfolding frame_of
  handed_step h p ps true rec = ap (λ xs. p.0 ∷ xs) (rec h)
  handed_step None p ps false rec = rec (Some p)
  handed_step (Some a) p ps false rec = ap (λ xs. a.0 ∷ xs) (rec (Some p))

  handed_shows : (ps : List (F × ℕ)) (h : Option (F × ℕ)) → handed (holding false (frame_of h)) ps ≡ frames_of (shows h ps)
  unfolding handed shown held shows holding
  handed_shows [] h = refl
  handed_shows (p ∷ ps) h = handed_step h p ps (is_b p) (handed_shows ps)

  after_step : (h : Option (F × ℕ)) (p : F × ℕ) (ps : List (F × ℕ)) (b : Bool)
      → ((g : Option (F × ℕ)) → (held_after (holding false (frame_of g)) ps).anchor ≡ frame_of (last_held g ps))
      → (held_after (cond b (holding false (frame_of h)) (holding false (Some p.0))) ps).anchor ≡ frame_of (cond b (last_held h ps) (last_held (Some p) ps))
  unfolding frame_of
  after_step h p ps true rec = rec h
  after_step h p ps false rec = rec (Some p)

  after_shows : (ps : List (F × ℕ)) (h : Option (F × ℕ)) → (held_after (holding false (frame_of h)) ps).anchor ≡ frame_of (last_held h ps)
  unfolding held_after held last_held holding
  after_shows [] h = refl
  after_shows (p ∷ ps) h = after_step h p ps (is_b p) (after_shows ps)

  -- with low_delay each frame is shown at once
  handed_low : (ps : List (F × ℕ)) → handed (opening true) ps ≡ frames_of ps
  unfolding handed shown held
  handed_low [] = refl
  handed_low (p ∷ ps) = ap (λ xs. p.0 ∷ xs) (handed_low ps)

  after_low : (ps : List (F × ℕ)) → (held_after (opening true) ps).anchor ≡ None
  unfolding held_after held
  after_low [] = refl
  after_low (p ∷ ps) = after_low ps

  pub handed_due : (dropped : F → Bool) (low_delay : Bool) (ps : List (F × ℕ))
      → handed (opening low_delay) (filter (is_kept dropped) ps) ≡ frames_of (Due dropped low_delay ps)
  unfolding Order holding frame_of
  handed_due dropped true ps = handed_low (filter (is_kept dropped) ps)
  handed_due dropped false ps = rw (due_shows dropped ps) (handed_shows (filter (is_kept dropped) ps) None)

  frames_with : (xs : List (F × ℕ)) (l : Option (F × ℕ)) → frames_of xs ++ option_to_list (frame_of l) ≡ frames_of (xs ++ option_to_list l)
  unfolding frame_of
  frames_with xs None = append-nil (frames_of xs) ∙ ap frames_of (sym (append-nil xs))
  frames_with xs (Some a) = sym (map-append (λ (p : F × ℕ). p.0) xs (a ∷ []))

  pub handed_shown : (dropped : F → Bool) (low_delay : Bool) (ps : List (F × ℕ))
      → (let kept = filter (is_kept dropped) ps in
      handed (opening low_delay) kept ++ option_to_list (held_after (opening low_delay) kept).anchor ≡ frames_of (Shown dropped low_delay ps))
  unfolding Order holding frame_of
  handed_shown dropped true ps =
      let kept = filter (is_kept dropped) ps in
      rw (handed_low kept, after_low kept) (append-nil (frames_of kept))
  handed_shown dropped false ps =
      let kept = filter (is_kept dropped) ps in
      rw (handed_shows kept None, after_shows kept None, sym (order_kept dropped false ps), order_shows kept)
      (frames_with (shows None kept) (last_held None kept))

  shows_append_step : (h : Option (F × ℕ)) (p : F × ℕ) (ps qs : List (F × ℕ)) (b : Bool)
      → ((g : Option (F × ℕ)) → shows g (ps ++ qs) ≡ shows g ps ++ shows (last_held g ps) qs)
      → cond b (p ∷ shows h (ps ++ qs)) (option_to_list h ++ shows (Some p) (ps ++ qs))
      ≡ cond b (p ∷ shows h ps) (option_to_list h ++ shows (Some p) ps) ++ shows (cond b (last_held h ps) (last_held (Some p) ps)) qs
  shows_append_step h p ps qs true rec = ap (λ xs. p ∷ xs) (rec h)
  shows_append_step h p ps qs false rec =
      ap (λ xs. option_to_list h ++ xs) (rec (Some p)) ∙ sym (append_assoc (option_to_list h) (shows (Some p) ps) (shows (last_held (Some p) ps) qs))

  shows_append : (ps qs : List (F × ℕ)) (h : Option (F × ℕ)) → shows h (ps ++ qs) ≡ shows h ps ++ shows (last_held h ps) qs
  unfolding shows last_held
  shows_append [] qs h = refl
  shows_append (p ∷ ps) qs h = shows_append_step h p ps qs (is_b p) (shows_append ps qs)

  -- what is due of some frames is the begin of what is due of more
  pub due_prefix : (dropped : F → Bool) (low_delay : Bool) (ps qs : List (F × ℕ))
      → (more : List (F × ℕ)) × (Due dropped low_delay (ps ++ qs) ≡ Due dropped low_delay ps ++ more)
  unfolding Order
  due_prefix dropped true ps qs = (filter (is_kept dropped) qs, filter-append (is_kept dropped) ps qs)
  due_prefix dropped false ps qs =
      let keep = is_kept dropped in (
        shows (last_held None (filter keep ps)) (filter keep qs),
        rw (due_shows dropped (ps ++ qs), due_shows dropped ps, filter-append keep ps qs) (shows_append (filter keep ps) (filter keep qs) None),
      )
