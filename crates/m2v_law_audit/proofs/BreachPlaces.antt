-- Rule 11 as it is told of the frames of a group: what was told so far, and what waits for its place, whatever follows.
use Rattle.std.proofs.Common.{◌≡◌, ℕ, zero, suc, ◌+◌, ◌<◌, Bool, true, false, List, [], ◌∷◌, ◌++◌, length, Option, Some, None, option_to_list, refl, sym, ap, subst, ◌∙◌, append_assoc, arith, inl, inr}
use Rattle.std.specs.Prelude.{◌||◌}
use Rattle.std.specs.List.{flat_map}
use Rattle.std.proofs.lemmas.Bool.{cases_Bool}
use Rattle.std.proofs.lemmas.List.{append-nil, length-append}
use Rattle.std.proofs.lemmas.List.Concat.{flat_map-append}
use Rattle.m2v_order.specs.Display.{Order}
use Rattle.m2v_model.specs.States.{is_b}
use Rattle.m2v_model.specs.Lawful.{Breach, Breaches, Numbered, display_place, frames_of_group, place_in_group, picture_breaches}
use Rattle.m2v_audit.specs.m2v_check.declared.places.UnplacedFrame.{UnplacedFrame}
use Rattle.m2v_audit.specs.m2v_check.declared.places.Unplaced.{Unplaced}
use Rattle.m2v_audit.specs.m2v_check.declared.places.Places.{Places as Checked}
use Rattle.m2v_audit.specs.m2v_check.Running.{some_waits as some_waits_checked, waiting_in as waiting_checked, no_places as none_checked, with_field as field_checked, with_frame as frame_checked, group_closed as closed_checked}
use Rattle.m2v_audit.proofs.m2v_check.Displaying.{Frames, place_in, absent_below, below-append, place_here, place_none, other_above, place_is, shown_by, waits_by, once_order, later_order, once_waits, later_waits}
use Rattle.m2v_audit.proofs.m2v_check.Placing.{unplaced, frames_one, frames-append, NoEarlier, Place, Matches, AnchorAbsent, Judged, judged_none, group_ended as ended_checked, waits_count, waits_below, same_group, with_first as first_checked}
use Rattle.m2v_audit.proofs.m2v_check.Framing.{with_shown as shown_checked, with_anchor as anchor_checked}
use Rattle.m2v_audit.specs.declared.places.Waiting.{Waiting}
use Rattle.m2v_audit.specs.declared.places.WaitingFrame.{WaitingFrame}
use Rattle.m2v_audit.specs.declared.places.Places.{Places}
use Rattle.m2v_audit.specs.Places.{misplaced, field_misplaced, frame_misplaced, anchor_misplaced, some_waits, waiting_in, no_places, with_field, frame_of, with_frame, told_with_frame, group_closed, told_at_close}
use Rattle.m2v_law_audit.proofs.BreachCounts.{many, many_none, many-append, place_breach, place_breaches, other_rules, waits_as, one_picture, place_one, place_two, place-append}

-- ---- as much is kept as the verifier keeps

pub record IsAlike (o : Places) (u : Checked) : Type 0 where
  pub low : o.low_delay ≡ u.low_delay
  pub shown : o.shown ≡ u.shown
  pub waiting : waiting_in o ≡ waiting_checked u

alike_field : (o : Places) (u : Checked) (p : Waiting) (q : Unplaced) → IsAlike o u → IsAlike (with_field o p) (field_checked u q)
alike_field o u p q a = record { low = a.low; shown = a.shown; waiting = a.waiting }

alike_closed : (o : Places) (u : Checked) → IsAlike o u → IsAlike (group_closed o) (closed_checked u)
alike_closed o u a = record { low = a.low; shown = refl; waiting = refl }

once_is : (o : Places) (p : Waiting) (b : Bool) → (o.low_delay || b) ≡ true → with_frame o p b ≡ record o { begun = None; shown = o.shown + 1 }
once_is o p b e = rw e refl

later_is : (o : Places) (p : Waiting) (b : Bool) → (o.low_delay || b) ≡ false → with_frame o p b ≡ record o { begun = None; shown = o.shown + waiting_in o; anchor = Some (frame_of o p) }
later_is o p b e = rw e refl

alike_frame : (o : Places) (u : Checked) (p : Waiting) (q : Unplaced) (b : Bool) → IsAlike o u → IsAlike (with_frame o p b) (frame_checked u q b)
alike_frame o u p q b a = elim (cases_Bool (u.low_delay || b)) [
  | inl e ↦ rw (a.low, e) (record { low = refl; shown = ap (λ (k : ℕ). k + 1) a.shown; waiting = a.waiting })
  | inr e ↦ rw (a.low, e) (record { low = refl; shown = (λ i. a.shown i + a.waiting i); waiting = refl })
]

-- ---- the frames of a group

frames_more : (g : ℕ) (done later : List Numbered) (n : Numbered) (f : ℕ) → n.group ≡ g → n.frame ≡ f → n.picture.ends_frame ≡ true
    → frames_of_group g (done ++ n ∷ later) ≡ frames_of_group g done ++ (f, n.picture.info.kind) ∷ frames_of_group g later
frames_more g done later n f eg ef on =
    let one : frames_of_group g (n ∷ []) ≡ (f, n.picture.info.kind) ∷ [] = frames_one g n true (same_group n g eg) ∙ rw on refl ∙ (λ i. (ef i, n.picture.info.kind) ∷ []) in
    frames-append g done (n ∷ later) ∙ ap (λ (l : Frames). frames_of_group g done ++ l) (frames-append g (n ∷ []) later ∙ ap (λ (l : Frames). l ++ frames_of_group g later) one)

frames_last : (g : ℕ) (done : List Numbered) (n : Numbered) (f : ℕ) → n.group ≡ g → n.frame ≡ f → n.picture.ends_frame ≡ true → frames_of_group g (done ++ n ∷ []) ≡ frames_of_group g done ++ (f, n.picture.info.kind) ∷ []
unfolding frames_of_group
frames_last g done n f eg ef on = frames_more g done [] n f eg ef on

frames_none : (g : ℕ) (done : List Numbered) (n : Numbered) → n.group ≡ g → n.picture.ends_frame ≡ false → frames_of_group g (done ++ n ∷ []) ≡ frames_of_group g done
frames_none g done n eg off =
    let fs = frames_of_group g done in
    frames-append g done (n ∷ []) ∙ ap (λ (l : Frames). fs ++ l) (frames_one g n true (same_group n g eg) ∙ rw off refl) ∙ append-nil fs

-- a picture of the group itself is none of an earlier group
none_with : (g : ℕ) (n : Numbered) (later : List Numbered) → n.group ≡ g → NoEarlier g later → NoEarlier g (n ∷ later)
none_with g n later e none h lt =
    let other : frames_of_group h (n ∷ []) ≡ [] = frames_one h n false (other_above h n.group (omega (arith, e))) in
    frames-append h (n ∷ []) later ∙ (λ i. other i ++ none h lt i)

less_none : (g h : ℕ) (later : List Numbered) → g < h → NoEarlier h later → NoEarlier g later
less_none g h later lt none k less = none k (omega arith)

-- ---- what was told so far

module _ (asks : Breach → Bool) where
  -- of a picture, a first field and a frame at a place, and of the anchor that waits
  abbrev pub at_place : Waiting → ℕ → ℕ
  at_place p place = many asks (place_breach (misplaced p place))

  abbrev pub field_at : Option Waiting → ℕ → ℕ
  field_at None place = 0
  field_at (Some p) place = at_place p place

  abbrev pub frame_at : WaitingFrame → ℕ → ℕ
  frame_at f place = field_at f.first place + at_place f.last place

  abbrev pub anchor_now : Option WaitingFrame → ℕ → ℕ
  anchor_now None place = 0
  anchor_now (Some f) place = frame_at f place

  abbrev pub anchor_at : Option WaitingFrame → Option ℕ → (ℕ → ℕ) → ℕ
  anchor_at None w P = 0
  anchor_at (Some f) None P = 0
  anchor_at (Some f) (Some a) P = frame_at f (P a)

  field_told : (o : Option Waiting) (place : ℕ) → many asks (place_breach (field_misplaced o place)) ≡ field_at o place
  field_told None place = many_none asks
  field_told (Some p) place = refl

  frame_told : (f : WaitingFrame) (place : ℕ) → many asks (place_breaches (frame_misplaced f place)) ≡ frame_at f place
  frame_told f place = place_two asks (field_misplaced f.first place) (misplaced f.last place) ∙ ap (λ (k : ℕ). k + at_place f.last place) (field_told f.first place)

  anchor_told : (a : Option WaitingFrame) (place : ℕ) → many asks (place_breaches (anchor_misplaced a place)) ≡ anchor_now a place
  anchor_told None place = omega (arith, place_two asks None None, many_none asks)
  anchor_told (Some f) place = frame_told f place

  close_told : (o : Places) → many asks (place_breaches (told_at_close o)) ≡ anchor_now o.anchor o.shown + field_at o.begun (o.shown + waiting_in o)
  close_told o =
      let last = field_misplaced o.begun (o.shown + waiting_in o) in
      omega (arith, place-append asks (anchor_misplaced o.anchor o.shown) (last ∷ []), place_one asks last, anchor_told o.anchor o.shown, field_told o.begun (o.shown + waiting_in o))

  -- the anchor at its place, where that is known
  anchor_is : (a : Option WaitingFrame) (b : Option UnplacedFrame) (w : Option ℕ) (P : ℕ → ℕ) (shown : ℕ) → some_waits a ≡ some_waits_checked b → Matches b w → ((x : ℕ) → w ≡ Some x → P x ≡ shown)
      → anchor_at a w P ≡ anchor_now a shown
  anchor_is None b w P shown e m h = refl
  anchor_is (Some f) (Some y) (Some x) P shown e m h = ap (frame_at f) (h x refl)
  anchor_is (Some f) (Some y) None P shown e m h = absurd m
  anchor_is (Some f) None w P shown e m h = absurd (omega (arith, e))

  module _ (low c : Bool) where
    -- Of these pictures so many were told; the group of the last one, the number of the frame that comes next, and whether a
    -- first field waits. What isn't told yet is the anchor's and the first field's, at their places.
    pub record Counted (done : List Numbered) (g f : ℕ) (waits : Bool) (o : Places) (t : ℕ) : Type 0 where
      pub checked : Checked
      pub judged : Judged low c done g f waits checked
      pub alike : IsAlike o checked
      pub alone : waits ≡ false → o.begun ≡ None
      pub says : (later : List Numbered) → NoEarlier g later
          → many asks (flat_map (picture_breaches low c (done ++ later)) done)
          ≡ t + (anchor_at o.anchor (waits_by low (frames_of_group g done)) (Place low g (done ++ later)) + field_at o.begun (Place low g (done ++ later) f))

    -- ---- the group ends

    pub ended : (done : List Numbered) (g f : ℕ) (waits : Bool) (o : Places) (t : ℕ) → Counted done g f waits o t → (later : List Numbered) → NoEarlier g later → frames_of_group g later ≡ []
        → many asks (flat_map (picture_breaches low c (done ++ later)) done) ≡ t + many asks (place_breaches (told_at_close o))
    ended done g f waits o t j later none here =
        let u = j.checked in
        let fs = frames_of_group g done in
        let xs = shown_by low fs in
        let w = waits_by low fs in
        let P = Place low g (done ++ later) in
        let shown : o.shown ≡ length xs = j.alike.shown ∙ j.judged.shown_is in
        let waiting : length (option_to_list w) ≡ waiting_in o = waits_count u.anchor w j.judged.anchor_is ∙ sym j.alike.waiting in
        let frames : frames_of_group g (done ++ later) ≡ fs = frames-append g done later ∙ ap (λ (l : Frames). fs ++ l) here ∙ append-nil fs in
        let place : (x : ℕ) → P x ≡ place_in x (xs ++ option_to_list w) = λ x. ap (λ (l : Frames). display_place x (Order low l)) frames ∙ place_is low x fs in
        let anchor : anchor_at o.anchor w P ≡ anchor_now o.anchor o.shown =
        anchor_is o.anchor u.anchor w P o.shown j.alike.waiting j.judged.anchor_is (λ x e.
        place x ∙ ap (λ (v : Option ℕ). place_in x (xs ++ option_to_list v)) e ∙ place_here x xs [] (subst (λ (v : Option ℕ). AnchorAbsent v xs) e j.judged.absent) ∙ sym shown) in
        let absent = absent_below f (xs ++ option_to_list w) (below-append f xs (option_to_list w) j.judged.below (waits_below f w j.judged.anchor_below)) in
        let last : P f ≡ o.shown + waiting_in o = place f ∙ place_none f (xs ++ option_to_list w) absent ∙ omega (arith, length-append xs (option_to_list w), waiting, shown) in
        j.says later none ∙ (λ i. t + (anchor i + field_at o.begun (last i))) ∙ ap (λ (k : ℕ). t + k) (sym (close_told o))

    pub group_ended : (done : List Numbered) (g h f : ℕ) (waits : Bool) (o : Places) (t : ℕ) → Counted done g f waits o t → g < h
        → Counted done h f waits (group_closed o) (t + many asks (place_breaches (told_at_close o)))
    group_ended done g h f waits o t j lt = record {
      checked = closed_checked j.checked;
      judged = ended_checked low c done g h f waits j.checked j.judged lt;
      alike = alike_closed o j.checked j.alike;
      alone = λ e. refl;
      says = λ later free.
          ended done g f waits o t j later (less_none g h later lt free) (free g lt) ∙ omega arith;
    }

    -- nothing was told yet
    none_at : (g : ℕ) → (u : Checked) × (IsAlike (no_places low) u × Judged low c [] g 0 false u)
    none_at zero = (record none_checked { low_delay = low }, (record { low = refl; shown = refl; waiting = refl }, judged_none low c))
    none_at (suc g) =
        let u : Checked = record none_checked { low_delay = low } in
        (closed_checked u, (record { low = refl; shown = refl; waiting = refl }, ended_checked low c [] 0 (suc g) 0 false u (judged_none low c) (omega arith)))

    pub counted_none : (g : ℕ) → Counted [] g 0 false (no_places low) 0
    counted_none g =
        let n = none_at g in
        record { checked = n.0; judged = n.1.1; alike = n.1.0; alone = λ e. refl; says = λ later none. many_none asks }

    -- ---- one picture more

    one_more : (done later : List Numbered) (n : Numbered) (bit g f : ℕ) (waits : Bool) (o : Places) (t : ℕ) → Counted done g f waits o t → n.group ≡ g → n.frame ≡ f → NoEarlier g later
        → (let P = Place low g (done ++ n ∷ later) in
        many asks (flat_map (picture_breaches low c (done ++ n ∷ later)) (done ++ n ∷ []))
        ≡ t + (anchor_at o.anchor (waits_by low (frames_of_group g done)) P + field_at o.begun (P f)) + (many asks (other_rules c n) + at_place (waits_as bit n) (P f)))
    unfolding place_in_group
    one_more done later n bit g f waits o t j eg ef none =
        let all = done ++ n ∷ later in
        let P = Place low g all in
        let rule = picture_breaches low c all in
        let place : place_in_group low all n ≡ P f = (λ i. display_place (ef i) (Order low (frames_of_group (eg i) all))) in
        let own : many asks (rule n) ≡ many asks (other_rules c n) + at_place (waits_as bit n) (P f) = one_picture asks low c all bit n ∙ ap (λ (k : ℕ). many asks (other_rules c n) + at_place (waits_as bit n) k) place in
        ap (many asks) (flat_map-append rule done (n ∷ []) ∙ ap (λ (l : Breaches). flat_map rule done ++ l) (append-nil (rule n)))
        ∙ many-append asks (flat_map rule done) (rule n)
        ∙ (λ i. j.says (n ∷ later) (none_with g n later eg none) i + own i)

    -- the same, with the picture among those before
    abbrev Says : List Numbered → ℕ → ℕ → Places → Option ℕ → ℕ → List Numbered → Type 0
    Says done g f o w t all = many asks (flat_map (picture_breaches low c all) done) ≡ t + (anchor_at o.anchor w (Place low g all) + field_at o.begun (Place low g all f))

    said : (done later : List Numbered) (n : Numbered) (g f : ℕ) (o : Places) (v w : Option ℕ) (t : ℕ) → v ≡ w → Says (done ++ n ∷ []) g f o w t (done ++ n ∷ later) → Says (done ++ n ∷ []) g f o v t ((done ++ n ∷ []) ++ later)
    said done later n g f o v w t e s =
        subst (λ (x : Option ℕ). Says (done ++ n ∷ []) g f o x t ((done ++ n ∷ []) ++ later)) (sym e)
        (subst (Says (done ++ n ∷ []) g f o w t) (sym (append_assoc done (n ∷ []) later)) s)

    -- a first field
    pub with_first : (done : List Numbered) (n : Numbered) (bit g f : ℕ) (waits : Bool) (o : Places) (t : ℕ) → Counted done g f waits o t → n.group ≡ g → n.frame ≡ f → n.picture.ends_frame ≡ false → waits ≡ false
        → Counted (done ++ n ∷ []) g f true (with_field o (waits_as bit n)) (t + many asks (other_rules c n))
    with_first done n bit g f waits o t j eg ef off alone =
        let fs = frames_of_group g done in
        let w : waits_by low (frames_of_group g (done ++ n ∷ [])) ≡ waits_by low fs = ap (waits_by low) (frames_none g done n eg off) in
        record {
          checked = field_checked j.checked (unplaced c n);
          judged = first_checked low c done n g f waits j.checked j.judged eg ef off alone;
          alike = alike_field o j.checked (waits_as bit n) (unplaced c n) j.alike;
          alone = λ e. absurd cc;
          says = λ later none.
              let P = Place low g (done ++ n ∷ later) in
              let free : field_at o.begun (P f) ≡ 0 = ap (λ (b : Option Waiting). field_at b (P f)) (j.alone alone) in
              said done later n g f (with_field o (waits_as bit n)) _ (waits_by low fs) _ w
              (one_more done later n bit g f waits o t j eg ef none ∙ omega (arith, free));
        }

    -- a frame: what is left of the places is so, and this is the frame that waits
    module _ (done : List Numbered) (n : Numbered) (bit g f : ℕ) (waits : Bool) (o : Places) (t : ℕ) (j : Counted done g f waits o t)
        (eg : n.group ≡ g) (ef : n.frame ≡ f) (on : n.picture.ends_frame ≡ true) where
      abbrev pub fs : Frames
      fs = frames_of_group g done

      abbrev pub xs : List ℕ
      xs = shown_by low fs

      abbrev pub kind : ℕ
      kind = n.picture.info.kind

      abbrev pub p : Waiting
      p = waits_as bit n

      -- what was told with it
      abbrev pub told : ℕ
      told = t + many asks (other_rules c n) + many asks (place_breaches (told_with_frame o p (is_b kind)))

      abbrev pub Whole : Type 0
      Whole = Counted (done ++ n ∷ []) g (f + 1) false (with_frame o p (is_b kind)) told

      whole_as : (left : Places) (w : Option ℕ) → with_frame o p (is_b kind) ≡ left → left.begun ≡ None
          → waits_by low (frames_of_group g (done ++ n ∷ [])) ≡ w
          → Judged low c (done ++ n ∷ []) g (f + 1) false (frame_checked j.checked (unplaced c n) (is_b kind))
          → ((later : List Numbered) → NoEarlier g later → Says (done ++ n ∷ []) g (f + 1) left w told (done ++ n ∷ later)) → Whole
      whole_as left w is alone now judged says = record {
        checked = frame_checked j.checked (unplaced c n) (is_b kind);
        judged = judged;
        alike = alike_frame o j.checked p (unplaced c n) (is_b kind) j.alike;
        alone = λ a. ap (λ (x : Places). x.begun) is ∙ alone;
        says = λ later none.
            said done later n g (f + 1) (with_frame o p (is_b kind)) _ w _ now
            (subst (λ (x : Places). Says (done ++ n ∷ []) g (f + 1) x w told (done ++ n ∷ later)) (sym is) (says later none));
      }

      own_order : (b : Bool) → (low || is_b kind) ≡ b → (o.low_delay || is_b kind) ≡ b
      own_order b e = ap (λ (x : Bool). x || is_b kind) (j.alike.low ∙ j.judged.low_is) ∙ e

      -- it is shown at once
      with_shown : (low || is_b kind) ≡ true → Whole
      with_shown e =
          let own = own_order true e in
          let misplaced : told_with_frame o p (is_b kind) ≡ frame_misplaced (frame_of o p) o.shown = rw own refl in
          let count : many asks (place_breaches (told_with_frame o p (is_b kind))) ≡ field_at o.begun o.shown + at_place p o.shown = ap (λ ms. many asks (place_breaches ms)) misplaced ∙ frame_told (frame_of o p) o.shown in
          whole_as _ (waits_by low fs) (once_is o p (is_b kind) own) refl
          (ap (waits_by low) (frames_last g done n f eg ef on) ∙ once_waits low fs f kind e)
          (shown_checked low c done n g f waits j.checked j.judged eg ef on e)
          (λ later none.
          let order = once_order low fs (frames_of_group g later) f kind e in
          let place : Place low g (done ++ n ∷ later) f ≡ o.shown =
          ap (λ (l : Frames). display_place f (Order low l)) (frames_more g done later n f eg ef on) ∙ place_is low f (fs ++ (f, kind) ∷ frames_of_group g later) ∙ ap (place_in f) order.1
          ∙ place_here f xs order.0 (absent_below f xs j.judged.below) ∙ sym (j.alike.shown ∙ j.judged.shown_is) in
          let field = ap (field_at o.begun) place in
          let last = ap (at_place p) place in
          one_more done later n bit g f waits o t j eg ef none ∙ omega (arith, count, field, last))

      -- an anchor waits
      with_anchor : (low || is_b kind) ≡ false → Whole
      with_anchor e =
          let ws = waits_by low fs in
          let own = own_order false e in
          let misplaced : told_with_frame o p (is_b kind) ≡ anchor_misplaced o.anchor o.shown = rw own refl in
          let count : many asks (place_breaches (told_with_frame o p (is_b kind))) ≡ anchor_now o.anchor o.shown = ap (λ ms. many asks (place_breaches ms)) misplaced ∙ anchor_told o.anchor o.shown in
          whole_as _ (Some f) (later_is o p (is_b kind) own) refl
          (ap (waits_by low) (frames_last g done n f eg ef on) ∙ later_waits low fs f kind e)
          (anchor_checked low c done n g f waits j.checked j.judged eg ef on e)
          (λ later none.
          let P = Place low g (done ++ n ∷ later) in
          let rest = fs ++ (f, kind) ∷ frames_of_group g later in
          let place : (x : ℕ) → P x ≡ place_in x (shown_by low rest ++ option_to_list (waits_by low rest)) =
          λ x. ap (λ (l : Frames). display_place x (Order low l)) (frames_more g done later n f eg ef on) ∙ place_is low x rest in
          let anchor : anchor_at o.anchor ws P ≡ anchor_now o.anchor o.shown =
          anchor_is o.anchor j.checked.anchor ws P o.shown j.alike.waiting j.judged.anchor_is (λ x is_x.
          let order = later_order low fs (frames_of_group g later) f kind x e is_x in
          place x ∙ ap (place_in x) order.1 ∙ place_here x xs order.0 (subst (λ (v : Option ℕ). AnchorAbsent v xs) is_x j.judged.absent) ∙ sym (j.alike.shown ∙ j.judged.shown_is)) in
          one_more done later n bit g f waits o t j eg ef none ∙ omega (arith, count, anchor))

      pub with_whole : Whole
      with_whole = elim (cases_Bool (low || is_b kind)) [ inl e ↦ with_shown e | inr e ↦ with_anchor e ]
