-- Frames in coding order are shown in display order.
use Rattle.std.proofs.Common.{◌≡◌, ℕ, zero, suc, ◌+◌, ◌-◌, ◌≤◌, Bool, true, false, cond, not, List, [], ◌∷◌, ◌++◌, map, filter, refl, sym, ap, subst, ◌∙◌, arith, append_assoc, Option, Some, None, option_to_list}
use Rattle.std.specs.Prelude.{All, ◌&&◌}
use Rattle.std.specs.List.{range_with_len}
use Rattle.std.proofs.lemmas.List.{append-nil, map-append}
use Rattle.std.proofs.lemmas.List.Elements.{All-nil, All-cons, All-head, All-tail}
use Rattle.m2v_order.specs.Coding.{frames_between, in_order}
use Rattle.m2v_order.specs.Groups.{past_last}
use Rattle.m2v_order.specs.Display.{is_b, is_kept, Shown, Holder, shown, held, handed, held_after, frames_of}
use Rattle.m2v_order.proofs.Orders.{frames_split, frames_none}
use Rattle.m2v_order.proofs.Shows.{handed_shown}
use Rattle.m2v_law_shown.specs.Showing.{holding, ShowAll, IsAnchorFrom, AreAnchors}

-- the frames from one on, the first by itself
frames_first : (a b : ℕ) → a + 1 ≤ b → frames_between a b ≡ a ∷ frames_between (a + 1) b
frames_first a b le = let e : b - a ≡ suc (b - (a + 1)) = omega (arith, le) in rw e refl

module _ {F : Type 0} where
  pub handed_append : (ps qs : List (F × ℕ)) (q : Holder F) → handed q (ps ++ qs) ≡ handed q ps ++ handed (held_after q ps) qs
  unfolding handed held_after
  handed_append [] qs q = refl
  handed_append (p ∷ ps) qs q =
      let first = option_to_list (shown q p.0 p.1) in
      ap (λ xs. first ++ xs) (handed_append ps qs (held q p.0 p.1))
      ∙ sym (append_assoc first (handed (held q p.0 p.1) ps) (handed (held_after (held q p.0 p.1) ps) qs))

  pub held_append : (ps qs : List (F × ℕ)) (q : Holder F) → held_after q (ps ++ qs) ≡ held_after (held_after q ps) qs
  unfolding held_after
  held_append [] qs q = refl
  held_append (p ∷ ps) qs q = held_append ps qs (held q p.0 p.1)

  pub handed_anchor : (h : Option F) (p : F × ℕ) (ps : List (F × ℕ)) → is_b p ≡ false → handed (holding h) (p ∷ ps) ≡ option_to_list h ++ handed (holding (Some p.0)) ps
  unfolding handed shown held
  handed_anchor h p ps e = rw e refl

  pub held_anchor : (h : Option F) (p : F × ℕ) (ps : List (F × ℕ)) → is_b p ≡ false → held_after (holding h) (p ∷ ps) ≡ held_after (holding (Some p.0)) ps
  unfolding held_after held
  held_anchor h p ps e = rw e refl

  pub handed_b : (h : Option F) (p : F × ℕ) (ps : List (F × ℕ)) → is_b p ≡ true → handed (holding h) (p ∷ ps) ≡ p.0 ∷ handed (holding h) ps
  unfolding handed shown held
  handed_b h p ps e = rw e refl

  pub held_b : (h : Option F) (p : F × ℕ) (ps : List (F × ℕ)) → is_b p ≡ true → held_after (holding h) (p ∷ ps) ≡ held_after (holding h) ps
  unfolding held_after held
  held_b h p ps e = rw e refl

  -- B frames are shown at once
  module _ (f : ℕ → F × ℕ) where
    abbrev frame : ℕ → F
    frame i = (f i).0

    handed_others : (h : Option F) (xs : List ℕ) → All (λ i. is_b (f i) ≡ true) xs → handed (holding h) (map f xs) ≡ map frame xs
    unfolding handed
    handed_others h [] all = refl
    handed_others h (x ∷ xs) all =
        handed_b h (f x) (map f xs) (All-head (λ i. is_b (f i) ≡ true) x xs all)
        ∙ ap (λ ys. frame x ∷ ys) (handed_others h xs (All-tail (λ i. is_b (f i) ≡ true) x xs all))

    held_others : (h : Option F) (xs : List ℕ) → All (λ i. is_b (f i) ≡ true) xs → held_after (holding h) (map f xs) ≡ holding h
    unfolding held_after
    held_others h [] all = refl
    held_others h (x ∷ xs) all =
        held_b h (f x) (map f xs) (All-head (λ i. is_b (f i) ≡ true) x xs all) ∙ held_others h xs (All-tail (λ i. is_b (f i) ≡ true) x xs all)

    pub past_low : (from : ℕ) (anchors : List ℕ) → AreAnchors f from anchors → from ≤ past_last from anchors
    unfolding past_last AreAnchors
    past_low from [] ok = omega arith
    past_low from (a ∷ more) ok = let rest = past_low (a + 1) more ok.1 in omega (arith, rest, ok.0.low)

    -- an anchor with the B frames behind it in coding order, and all that follows
    module _ (h : Option F) (from a : ℕ) (is : IsAnchorFrom f from a) (later : List ℕ) where
      abbrev between : List ℕ
      between = frames_between from a

      split : map f (between ++ later) ≡ map f between ++ map f later
      split = map-append f between later

      handed_one : handed (holding h) (f a ∷ map f (between ++ later)) ≡ option_to_list h ++ (map frame between ++ handed (holding (Some (frame a))) (map f later))
      handed_one =
          let k = holding (Some (frame a)) in
          handed_anchor h (f a) (map f (between ++ later)) is.anchor
          ∙ ap (λ xs. option_to_list h ++ xs)
          (ap (handed k) split ∙ handed_append (map f between) (map f later) k
          ∙ (λ i. handed_others (Some (frame a)) between is.others i ++ handed (held_others (Some (frame a)) between is.others i) (map f later)))

      held_one : held_after (holding h) (f a ∷ map f (between ++ later)) ≡ held_after (holding (Some (frame a))) (map f later)
      held_one =
          let k = holding (Some (frame a)) in
          held_anchor h (f a) (map f (between ++ later)) is.anchor
          ∙ ap (held_after k) split ∙ held_append (map f between) (map f later) k
          ∙ ap (λ q. held_after q (map f later)) (held_others (Some (frame a)) between is.others)

    -- the frames from one on up to an anchor, that one, and those behind it
    frames_around : (from a b : ℕ) → from ≤ a → a + 1 ≤ b → frames_between from b ≡ frames_between from a ++ a ∷ frames_between (a + 1) b
    frames_around from a b low high =
        frames_split from a b low (omega (arith, high)) ∙ ap (λ xs. frames_between from a ++ xs) (frames_first a b high)

    regrouped : {A : Type 0} (x y z w : List A) → (x ++ (y ++ z)) ++ w ≡ x ++ (y ++ (z ++ w))
    regrouped x y z w = append_assoc x (y ++ z) w ∙ ap (λ xs. x ++ xs) (append_assoc y z w)

    -- a run of anchors, each with the B frames before it
    pub anchors_shown : (from : ℕ) (anchors : List ℕ) (h : Option F) → AreAnchors f from anchors
        → ShowAll h (map f (in_order from anchors)) (map frame (frames_between from (past_last from anchors)))
    unfolding in_order past_last AreAnchors handed held_after
    anchors_shown from [] h ok = record {
      behind = h;
      shown = rw (frames_none from) (sym (append-nil (option_to_list h)));
      held = refl;
    }
    anchors_shown from (a ∷ more) h ok =
        let rest = anchors_shown (a + 1) more (Some (frame a)) ok.1 in
        let later = in_order (a + 1) more in
        let b = past_last (a + 1) more in
        let all : map frame (frames_between from b) ≡ map frame (frames_between from a) ++ frame a ∷ map frame (frames_between (a + 1) b) =
        ap (map frame) (frames_around from a b ok.0.low (past_low (a + 1) more ok.1)) ∙ map-append frame (frames_between from a) (a ∷ frames_between (a + 1) b) in
        record {
          behind = rest.behind;
          shown = ap (λ xs. xs ++ option_to_list rest.behind) (handed_one h from a ok.0 later)
              ∙ regrouped (option_to_list h) (map frame (frames_between from a)) (handed (holding (Some (frame a))) (map f later)) (option_to_list rest.behind)
              ∙ ap (λ xs. option_to_list h ++ (map frame (frames_between from a) ++ xs)) rest.shown
              ∙ ap (λ xs. option_to_list h ++ xs) (sym all);
          held = held_one h from a ok.0 later ∙ rest.held;
        }

    -- ---- the frames that a test says are anchors

    earlier : (from : ℕ) (anchors : List ℕ) → is_b (f from) ≡ true → AreAnchors f (from + 1) anchors → AreAnchors f from anchors
    unfolding AreAnchors
    earlier from [] e ok = tt
    earlier from (a ∷ more) e ok =
        let low = ok.0.low in
        let P = λ (i : ℕ). is_b (f i) ≡ true in (
          record {
            low = omega (arith, low);
            anchor = ok.0.anchor;
            others = subst (All P) (sym (frames_first from a low)) (All-cons P from (frames_between (from + 1) a) e ok.0.others);
          },
          ok.1,
        )

    module _ (p : ℕ → Bool) (same : (i : ℕ) → is_b (f i) ≡ not (p i)) where
      anchor_step : (from : ℕ) (xs : List ℕ) (b : Bool) → p from ≡ b → AreAnchors f (from + 1) (filter p xs) → AreAnchors f from (cond b (from ∷ filter p xs) (filter p xs))
      unfolding AreAnchors
      anchor_step from xs true is rest =
          let P = λ (i : ℕ). is_b (f i) ≡ true in
          (record { low = omega arith; anchor = same from ∙ ap not is; others = subst (All P) (sym (frames_none from)) (All-nil P) }, rest)
      anchor_step from xs false is rest = earlier from (filter p xs) (same from ∙ ap not is) rest

      pub tested_anchors : (from n : ℕ) → AreAnchors f from (filter p (range_with_len from n))
      unfolding AreAnchors
      tested_anchors from zero = tt
      tested_anchors from (suc n) = anchor_step from (range_with_len (from + 1) n) (p from) refl (tested_anchors (from + 1) n)

  -- the frames that a test says are anchors, each with the B frames before it
  pub run_shown : (f : ℕ → F × ℕ) (p : ℕ → Bool) (from n : ℕ) (before : Option F) → ((i : ℕ) → is_b (f i) ≡ not (p i))
      → (let anchors = filter p (range_with_len from n) in
      ShowAll before (map f (in_order from anchors)) (map (λ i. (f i).0) (frames_between from (past_last from anchors))))
  run_shown f p from n before same = anchors_shown f from (filter p (range_with_len from n)) before (tested_anchors f p same from n)

  -- ---- one run behind another

  pub shown_on : (h : Option F) (ps qs : List (F × ℕ)) (out more : List F) (x : ShowAll h ps out) → ShowAll x.behind qs more → ShowAll h (ps ++ qs) (out ++ more)
  shown_on h ps qs out more x y = record {
    behind = y.behind;
    shown = ap (λ xs. xs ++ option_to_list y.behind) (handed_append ps qs (holding h) ∙ ap (λ q. handed (holding h) ps ++ handed q qs) x.held)
        ∙ append_assoc (handed (holding h) ps) (handed (holding x.behind) qs) (option_to_list y.behind)
        ∙ ap (λ xs. handed (holding h) ps ++ xs) y.shown
        ∙ sym (append_assoc (handed (holding h) ps) (option_to_list x.behind) more)
        ∙ ap (λ xs. xs ++ more) x.shown
        ∙ append_assoc (option_to_list h) out more;
    held = held_append ps qs (holding h) ∙ ap (λ q. held_after q qs) x.held ∙ y.held;
  }

  -- ---- what is shown of a whole list

  kept_step : (dropped : F → Bool) (p : F × ℕ) (xs ys : List (F × ℕ)) (d b : Bool) → d ≡ false → xs ≡ ys → cond (not (b && d)) (p ∷ xs) xs ≡ p ∷ ys
  kept_step dropped p xs ys true b e same = absurd cc
  kept_step dropped p xs ys false true e same = ap (λ zs. p ∷ zs) same
  kept_step dropped p xs ys false false e same = ap (λ zs. p ∷ zs) same

  pub all_kept : (dropped : F → Bool) (ps : List (F × ℕ)) → All (λ (p : F × ℕ). dropped p.0 ≡ false) ps → filter (is_kept dropped) ps ≡ ps
  all_kept dropped [] all = refl
  all_kept dropped (p ∷ ps) all =
      let P = λ (p : F × ℕ). dropped p.0 ≡ false in
      kept_step dropped p (filter (is_kept dropped) ps) ps (dropped p.0) (is_b p) (All-head P p ps all) (all_kept dropped ps (All-tail P p ps all))

  pub all_shown : (dropped : F → Bool) (ps : List (F × ℕ)) (out : List F) → All (λ (p : F × ℕ). dropped p.0 ≡ false) ps → ShowAll None ps out
      → frames_of (Shown dropped false ps) ≡ out
  all_shown dropped ps out all x =
      sym (handed_shown dropped false ps)
      ∙ ap (λ xs. handed (holding None) xs ++ option_to_list (held_after (holding None) xs).anchor) (all_kept dropped ps all)
      ∙ ap (λ (q : Holder F). handed (holding None) ps ++ option_to_list q.anchor) x.held
      ∙ x.shown
