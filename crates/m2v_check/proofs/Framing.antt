-- A frame more in its group: it is shown at once, or an anchor waits.
use Rattle.std.proofs.Common.{◌≡◌, ℕ, ◌+◌, ◌≤◌, Bool, true, false, List, [], ◌∷◌, ◌++◌, length, Option, Some, None, option_to_list, refl, sym, ap, subst, ◌∙◌, append_assoc, arith}
use Rattle.std.specs.Prelude.{◌||◌}
use Rattle.std.proofs.lemmas.List.{length-append}
use Rattle.m2v_order.specs.Display.{Order}
use Rattle.m2v_model.specs.States.{is_b}
use Rattle.m2v_model.specs.Lawful.{Numbered, display_place, frames_of_group}
use Rattle.m2v_check.specs.declared.places.Unplaced.{Unplaced}
use Rattle.m2v_check.specs.declared.places.UnplacedFrame.{UnplacedFrame}
use Rattle.m2v_check.specs.declared.places.Places.{Places}
use Rattle.m2v_check.specs.Breaking.{first_some}
use Rattle.m2v_check.specs.Running.{frame_breach, anchor_breach, waiting_in, with_frame}
use Rattle.m2v_check.proofs.Firsts.{first_none}
use Rattle.m2v_check.proofs.Displaying.{Frames, place_in, IsAbsent, AreBelow, other_above, absent_below, below_more, below-append, absent-append, place_here, place_is, shown_by, waits_by, once_order, later_order, once_shown, once_waits, later_shown, later_waits}
use Rattle.m2v_check.proofs.Placing.{Found, unplaced, frames_one, frames-append, Place, anchor_at, Matches, AnchorBelow, AnchorAbsent, Judged, one_more, upto_more, same_group, waits_count, waits_below}

abbrev frame_with : Places → Unplaced → UnplacedFrame
frame_with o u = record { first = o.begun; last = u }

once_is : (o : Places) (u : Unplaced) (b : Bool) → (o.low_delay || b) ≡ true
    → with_frame o u b ≡ record o { begun = None; later = first_some o.later (frame_breach (frame_with o u) o.shown); shown = o.shown + 1 }
once_is o u b e = rw e refl

later_is : (o : Places) (u : Unplaced) (b : Bool) → (o.low_delay || b) ≡ false
    → with_frame o u b ≡ record o { begun = None; settled = first_some o.settled (first_some (anchor_breach o.anchor o.shown) o.later); shown = o.shown + waiting_in o; anchor = Some (frame_with o u); later = None }
later_is o u b e = rw e refl

frames_more : (g : ℕ) (done : List Numbered) (n : Numbered) (f : ℕ) → n.group ≡ g → n.frame ≡ f → n.picture.ends_frame ≡ true → frames_of_group g (done ++ n ∷ []) ≡ frames_of_group g done ++ (f, n.picture.info.kind) ∷ []
frames_more g done n f eg ef on =
    frames-append g done (n ∷ []) ∙ ap (λ (l : Frames). frames_of_group g done ++ l) (frames_one g n true (same_group n g eg) ∙ rw on refl ∙ (λ i. (ef i, n.picture.info.kind) ∷ []))

-- the frames of the group with this one and what follows
frames_all : (g : ℕ) (done later : List Numbered) (n : Numbered) (f : ℕ) → n.group ≡ g → n.frame ≡ f → n.picture.ends_frame ≡ true
    → frames_of_group g (done ++ n ∷ later) ≡ frames_of_group g done ++ (f, n.picture.info.kind) ∷ frames_of_group g later
frames_all g done later n f eg ef on =
    ap (frames_of_group g) (sym (append_assoc done (n ∷ []) later)) ∙ frames-append g (done ++ n ∷ []) later
    ∙ ap (λ (l : Frames). l ++ frames_of_group g later) (frames_more g done n f eg ef on)
    ∙ append_assoc (frames_of_group g done) ((f, n.picture.info.kind) ∷ []) (frames_of_group g later)

-- ---- shown at once

anchor_still : (a b : ℕ) (w : Option ℕ) → a ≤ b → AnchorBelow a w → AnchorBelow b w
anchor_still a b None le h = tt
anchor_still a b (Some x) le h = omega arith

absent_still : (f : ℕ) (w : Option ℕ) (xs : List ℕ) → AnchorBelow f w → AnchorAbsent w xs → AnchorAbsent w (xs ++ f ∷ [])
absent_still f None xs b h = tt
absent_still f (Some a) xs b h = absent-append a xs (f ∷ []) h (other_above a f b, tt)

once_joined : (s a l x : Found) → first_some s (first_some a (first_some l x)) ≡ first_some s (first_some a (first_some (first_some l x) None))
once_joined s a l x = ap (λ (y : Found). first_some s (first_some a y)) (sym (first_none (first_some l x)))

-- ---- an anchor waits

anchor_then : (shown : ℕ) (a : Option UnplacedFrame) (w : Option ℕ) (xs : List ℕ) (P : ℕ → ℕ) → Matches a w → AnchorAbsent w xs → shown ≡ length xs
    → ((x : ℕ) → w ≡ Some x → (more : List ℕ) × (P x ≡ place_in x (xs ++ x ∷ more))) → anchor_at a w P ≡ anchor_breach a shown
anchor_then shown None None xs P m b e p = refl
anchor_then shown (Some f) (Some a) xs P m b e p = let q = p a refl in ap (frame_breach f) (q.1 ∙ place_here a xs q.0 b ∙ sym e)
anchor_then shown None (Some a) xs P m b e p = absurd m
anchor_then shown (Some f) None xs P m b e p = absurd m

later_joined : (s a l x : Found) → first_some s (first_some a (first_some l x)) ≡ first_some (first_some s (first_some a l)) (first_some x None)
later_joined None None None x = sym (first_none x)
later_joined None None (Some l) x = refl
later_joined None (Some a) l x = refl
later_joined (Some s) a l x = refl

-- ---- a frame

module _ (low c : Bool) (done : List Numbered) (n : Numbered) (g f : ℕ) (waits : Bool) (o : Places) (j : Judged low c done g f waits o)
    (eg : n.group ≡ g) (ef : n.frame ≡ f) (on : n.picture.ends_frame ≡ true) where
  -- it is shown at once
  pub with_shown : (low || is_b n.picture.info.kind) ≡ true → Judged low c (done ++ n ∷ []) g (f + 1) false (with_frame o (unplaced c n) (is_b n.picture.info.kind))
  with_shown e =
      let fs = frames_of_group g done in
      let kind = n.picture.info.kind in
      let u = unplaced c n in
      let more : frames_of_group g (done ++ n ∷ []) ≡ fs ++ (f, kind) ∷ [] = frames_more g done n f eg ef on in
      let shown : shown_by low (frames_of_group g (done ++ n ∷ [])) ≡ shown_by low fs ++ f ∷ [] = ap (shown_by low) more ∙ once_shown low fs f kind e in
      let w : waits_by low (frames_of_group g (done ++ n ∷ [])) ≡ waits_by low fs = ap (waits_by low) more ∙ once_waits low fs f kind e in
      let is = once_is o u (is_b kind) (ap (λ (b : Bool). b || is_b kind) j.low_is ∙ e) in
      subst (Judged low c (done ++ n ∷ []) g (f + 1) false) (sym is) (record {
        low_is = j.low_is;
        shown_is = sym (ap length shown ∙ length-append (shown_by low fs) (f ∷ []) ∙ ap (λ (k : ℕ). k + 1) (sym j.shown_is));
        anchor_is = subst (Matches o.anchor) (sym w) j.anchor_is;
        below = subst (AreBelow (f + 1)) (sym shown) (below-append (f + 1) (shown_by low fs) (f ∷ []) (below_more f (f + 1) (shown_by low fs) (omega arith) j.below) (omega arith, tt));
        anchor_below = subst (AnchorBelow (f + 1)) (sym w) (anchor_still f (f + 1) (waits_by low fs) (omega arith) j.anchor_below);
        absent = subst (λ (v : Option ℕ). AnchorAbsent v (shown_by low (frames_of_group g (done ++ n ∷ [])))) (sym w) (subst (AnchorAbsent (waits_by low fs)) (sym shown) (absent_still f (waits_by low fs) (shown_by low fs) j.anchor_below j.absent));
        begun_is = λ a. refl;
        upto = upto_more done n g eg j.upto;
        says = λ later none.
            let all = done ++ n ∷ later in
            let P = Place low g all in
            let order = once_order low fs (frames_of_group g later) f kind e in
            let place : P f ≡ o.shown =
            ap (λ (l : Frames). display_place f (Order low l)) (frames_all g done later n f eg ef on) ∙ place_is low f (fs ++ (f, kind) ∷ frames_of_group g later) ∙ ap (place_in f) order.1
            ∙ place_here f (shown_by low fs) order.0 (absent_below f (shown_by low fs) j.below) ∙ sym j.shown_is in
            one_more low c done later n g f waits o j eg ef none
            ∙ once_joined o.settled (anchor_at o.anchor (waits_by low fs) P) o.later (frame_breach (frame_with o u) (P f))
            ∙ (λ i. first_some o.settled (first_some (anchor_at o.anchor (sym w i) (Place low g (sym (append_assoc done (n ∷ []) later) i))) (first_some (first_some o.later (frame_breach (frame_with o u) (place i))) None)));
      })

  -- an anchor waits
  pub with_anchor : (low || is_b n.picture.info.kind) ≡ false → Judged low c (done ++ n ∷ []) g (f + 1) false (with_frame o (unplaced c n) (is_b n.picture.info.kind))
  with_anchor e =
      let fs = frames_of_group g done in
      let kind = n.picture.info.kind in
      let u = unplaced c n in
      let ws = waits_by low fs in
      let xs = shown_by low fs in
      let more : frames_of_group g (done ++ n ∷ []) ≡ fs ++ (f, kind) ∷ [] = frames_more g done n f eg ef on in
      let shown : shown_by low (frames_of_group g (done ++ n ∷ [])) ≡ xs ++ option_to_list ws = ap (shown_by low) more ∙ later_shown low fs f kind e in
      let w : waits_by low (frames_of_group g (done ++ n ∷ [])) ≡ Some f = ap (waits_by low) more ∙ later_waits low fs f kind e in
      let is = later_is o u (is_b kind) (ap (λ (b : Bool). b || is_b kind) j.low_is ∙ e) in
      let all_below = below-append f xs (option_to_list ws) j.below (waits_below f ws j.anchor_below) in
      subst (Judged low c (done ++ n ∷ []) g (f + 1) false) (sym is) (record {
        low_is = j.low_is;
        shown_is = sym (ap length shown ∙ length-append xs (option_to_list ws) ∙ (λ i. sym j.shown_is i + waits_count o.anchor ws j.anchor_is i));
        anchor_is = subst (Matches (Some (frame_with o u))) (sym w) tt;
        below = subst (AreBelow (f + 1)) (sym shown) (below_more f (f + 1) (xs ++ option_to_list ws) (omega arith) all_below);
        anchor_below = subst (AnchorBelow (f + 1)) (sym w) (omega arith);
        absent = subst (λ (v : Option ℕ). AnchorAbsent v (shown_by low (frames_of_group g (done ++ n ∷ [])))) (sym w) (subst (IsAbsent f) (sym shown) (absent_below f (xs ++ option_to_list ws) all_below));
        begun_is = λ a. refl;
        upto = upto_more done n g eg j.upto;
        says = λ later none.
            let all = done ++ n ∷ later in
            let P = Place low g all in
            let place : (x : ℕ) → P x ≡ place_in x (shown_by low (fs ++ (f, kind) ∷ frames_of_group g later) ++ option_to_list (waits_by low (fs ++ (f, kind) ∷ frames_of_group g later))) =
            λ x. ap (λ (l : Frames). display_place x (Order low l)) (frames_all g done later n f eg ef on) ∙ place_is low x (fs ++ (f, kind) ∷ frames_of_group g later) in
            let anchor : anchor_at o.anchor ws P ≡ anchor_breach o.anchor o.shown =
            anchor_then o.shown o.anchor ws xs P j.anchor_is j.absent j.shown_is (λ x is_x. let order = later_order low fs (frames_of_group g later) f kind x e is_x in (order.0, place x ∙ ap (place_in x) order.1)) in
            one_more low c done later n g f waits o j eg ef none
            ∙ later_joined o.settled (anchor_at o.anchor ws P) o.later (frame_breach (frame_with o u) (P f))
            ∙ (λ i. first_some (first_some o.settled (first_some (anchor i) o.later)) (first_some (frame_breach (frame_with o u) (P f)) None))
            ∙ (λ i. first_some (first_some o.settled (first_some (anchor_breach o.anchor o.shown) o.later)) (first_some (anchor_at (Some (frame_with o u)) (sym w i) (Place low g (sym (append_assoc done (n ∷ []) later) i))) None));
      })
