-- The rules on pictures, picture by picture: what was found so far, whatever follows.
use Rattle.std.proofs.Common.{◌≡◌, ℕ, ◌+◌, ◌<◌, ◌%◌, Bool, true, false, List, [], ◌∷◌, ◌++◌, length, Option, Some, None, option_to_list, refl, sym, ap, subst, ◌∙◌, append_assoc, arith}
use Rattle.std.specs.Prelude.{if◌then◌else◌, nat_eq, ◌&&◌, ◌||◌, not}
use Rattle.std.specs.List.{flat_map}
use Rattle.std.proofs.lemmas.List.{append-nil, length-append}
use Rattle.std.proofs.lemmas.List.Concat.{flat_map-append}
use Rattle.m2v_order.specs.Display.{Order, handed, held_after}
use Rattle.m2v_model.specs.States.{is_frame, is_b}
use Rattle.m2v_model.specs.Lawful.{Breaches, breach, judge, Numbered, display_place, frames_of_group, place_in_group, horizontal_rule, vertical_rule, intra_rule, reference_rule, crowd_rule, repeat_rule, progressive_rule, precision_rule, picture_breaches}
use Rattle.m2v_check.specs.declared.broken.BrokenRule.{BrokenRule}
use Rattle.m2v_check.specs.declared.places.Unplaced.{Unplaced}
use Rattle.m2v_check.specs.declared.places.UnplacedFrame.{UnplacedFrame}
use Rattle.m2v_check.specs.declared.places.Places.{Places}
use Rattle.m2v_check.specs.Breaking.{first_some, found}
use Rattle.m2v_check.specs.Running.{breach_at, field_breach, frame_breach, anchor_breach, some_waits, waiting_in, all_broken, no_places, with_field, with_frame, group_closed, begun_with}
use Rattle.m2v_check.proofs.Firsts.{found_more, first_none, of_one}
use Rattle.m2v_check.proofs.Displaying.{Frames, place_in, IsAbsent, AreBelow, other_number, other_above, absent_below, below-append, place_here, place_none, place_is, shown_by, waits_by}

abbrev pub Found : Type 0
Found = Option BrokenRule

-- ---- one picture

abbrev pub ends : Numbered → Bool
ends n = is_frame n.picture.extension || not n.picture.begins_frame

abbrev pub unplaced : Bool → Numbered → Unplaced
unplaced c n = record {
  number = n.number;
  reference = n.picture.info.temporal_reference;
  before = found (horizontal_rule n ++ vertical_rule n ++ intra_rule n);
  behind = found (crowd_rule n ++ repeat_rule c n ++ progressive_rule n ++ precision_rule n);
}

-- a picture that is the first of its group, or not, has its frame
abbrev pub added : Bool → Places → Numbered → Places
added c o n = if ends n then with_frame o (unplaced c n) (is_b n.picture.info.kind) else with_field o (unplaced c n)

abbrev pub step : Bool → Places → Numbered → Places
step c o n = added c (begun_with n.first_in_group o) n

abbrev pub steps : Bool → Places → List Numbered → Places
steps c o [] = o
steps c o (n ∷ ns) = steps c (step c o n) ns

reference_found : (b : Bool) (n r p : ℕ) → found (judge b (breach 11 n r p)) ≡ (if b then None else Some (record { rule = 11; picture = n; have = r; need = p }))
reference_found true n r p = refl
reference_found false n r p = refl

regroup : (x r d e f g : Breaches) → ((((x ++ r) ++ d) ++ e) ++ f) ++ g ≡ x ++ (r ++ (((d ++ e) ++ f) ++ g))
regroup x r d e f g = simp append_assoc

in_three : (x r d e f g : Breaches) → found (((((x ++ r) ++ d) ++ e) ++ f) ++ g) ≡ first_some (found x) (first_some (found r) (found (((d ++ e) ++ f) ++ g)))
in_three x r d e f g =
    ap found (regroup x r d e f g) ∙ found_more x (r ++ (((d ++ e) ++ f) ++ g)) ∙ ap (first_some (found x)) (found_more r (((d ++ e) ++ f) ++ g))

picture_found : (low c : Bool) (all : List Numbered) (n : Numbered) → found (picture_breaches low c all n) ≡ breach_at (unplaced c n) (place_in_group low all n)
unfolding picture_breaches reference_rule
picture_found low c all n =
    let place = place_in_group low all n in
    in_three (horizontal_rule n ++ vertical_rule n ++ intra_rule n) (reference_rule low all n) (crowd_rule n) (repeat_rule c n) (progressive_rule n) (precision_rule n)
    ∙ ap (λ (x : Found). first_some (unplaced c n).before (first_some x (unplaced c n).behind))
    (reference_found (nat_eq n.picture.info.temporal_reference (place % 1024)) n.number n.picture.info.temporal_reference (place % 1024))

-- ---- frames of a group

pub frames_one : (g : ℕ) (n : Numbered) (b : Bool) → nat_eq n.group g ≡ b → frames_of_group g (n ∷ []) ≡ (if b && n.picture.ends_frame then (n.frame, n.picture.info.kind) ∷ [] else [])
unfolding frames_of_group
frames_one g n b e = rw e refl

pick_more : (b : Bool) (f : ℕ × ℕ) (xs ys zs : Frames) → xs ≡ ys ++ zs → (if b then f ∷ xs else xs) ≡ (if b then f ∷ ys else ys) ++ zs
pick_more true f xs ys zs e = ap (λ (l : Frames). f ∷ l) e
pick_more false f xs ys zs e = e

pub frames-append : (g : ℕ) (xs ys : List Numbered) → frames_of_group g (xs ++ ys) ≡ frames_of_group g xs ++ frames_of_group g ys
unfolding frames_of_group
frames-append g [] ys = refl
frames-append g (n ∷ xs) ys = pick_more (nat_eq n.group g && n.picture.ends_frame) (n.frame, n.picture.info.kind) _ _ _ (frames-append g xs ys)

-- none of the groups before
abbrev pub NoEarlier : ℕ → List Numbered → Type 0
NoEarlier g ns = (h : ℕ) → h < g → frames_of_group h ns ≡ []

frames_other : (h : ℕ) (n : Numbered) → nat_eq n.group h ≡ false → frames_of_group h (n ∷ []) ≡ []
frames_other h n e = frames_one h n false e

none_with : (g : ℕ) (n : Numbered) (ns : List Numbered) → n.group ≡ g → NoEarlier g ns → NoEarlier g (n ∷ ns)
none_with g n ns e none h lt =
    frames-append h (n ∷ []) ns ∙ (λ i. frames_other h n (ap (λ (x : ℕ). nat_eq x h) e ∙ other_above h g lt) i ++ none h lt i)

-- ---- what was found so far

abbrev pub Place : Bool → ℕ → List Numbered → ℕ → ℕ
Place low g all x = display_place x (Order low (frames_of_group g all))

abbrev pub anchor_at : Option UnplacedFrame → Option ℕ → (ℕ → ℕ) → Found
anchor_at None a P = None
anchor_at (Some f) None P = None
anchor_at (Some f) (Some a) P = frame_breach f (P a)

abbrev pub pending : Places → Option ℕ → ℕ → (ℕ → ℕ) → Found
pending o a f P = first_some o.settled (first_some (anchor_at o.anchor a P) (first_some o.later (field_breach o.begun (P f))))

abbrev pub Matches : Option UnplacedFrame → Option ℕ → Type 0
Matches None None = Unit {0}
Matches (Some f) (Some a) = Unit {0}
Matches None (Some a) = ⊥
Matches (Some f) None = ⊥

abbrev pub AnchorBelow : ℕ → Option ℕ → Type 0
AnchorBelow f None = Unit {0}
AnchorBelow f (Some a) = a < f

abbrev pub AnchorAbsent : Option ℕ → List ℕ → Type 0
AnchorAbsent None xs = Unit {0}
AnchorAbsent (Some a) xs = IsAbsent a xs

-- pictures were judged; the group of the last one, the number of the frame that comes next, and whether a first field waits
pub record Judged (low c : Bool) (done : List Numbered) (g f : ℕ) (waits : Bool) (o : Places) : Type 0 where
  pub low_is : o.low_delay ≡ low
  pub shown_is : o.shown ≡ length (shown_by low (frames_of_group g done))
  pub anchor_is : Matches o.anchor (waits_by low (frames_of_group g done))
  pub below : AreBelow f (shown_by low (frames_of_group g done))
  pub anchor_below : AnchorBelow f (waits_by low (frames_of_group g done))
  pub absent : AnchorAbsent (waits_by low (frames_of_group g done)) (shown_by low (frames_of_group g done))
  pub begun_is : waits ≡ false → o.begun ≡ None
  pub upto : (h : ℕ) → g < h → frames_of_group h done ≡ []
  pub says : (later : List Numbered) → NoEarlier g later
      → found (flat_map (picture_breaches low c (done ++ later)) done) ≡ pending o (waits_by low (frames_of_group g done)) f (Place low g (done ++ later))

pub judged_none : (low c : Bool) → Judged low c [] 0 0 false (record no_places { low_delay = low })
unfolding frames_of_group handed held_after
judged_none low c = record {
  low_is = refl;
  shown_is = refl;
  anchor_is = tt;
  below = tt;
  anchor_below = tt;
  absent = tt;
  begun_is = λ e. refl;
  upto = λ h lt. refl;
  says = λ later none. refl;
}

-- ---- the group ends

pub waits_count : (a : Option UnplacedFrame) (w : Option ℕ) → Matches a w → length (option_to_list w) ≡ some_waits a
waits_count None None m = refl
waits_count (Some f) (Some a) m = refl
waits_count None (Some a) m = absurd m
waits_count (Some f) None m = absurd m

pub waits_below : (f : ℕ) (w : Option ℕ) → AnchorBelow f w → AreBelow f (option_to_list w)
waits_below f None b = tt
waits_below f (Some a) b = (b, tt)

anchor_last : (shown : ℕ) (a : Option UnplacedFrame) (w : Option ℕ) (xs : List ℕ) (P : ℕ → ℕ) → Matches a w → AnchorAbsent w xs → shown ≡ length xs
    → ((x : ℕ) → P x ≡ place_in x (xs ++ option_to_list w)) → anchor_at a w P ≡ anchor_breach a shown
anchor_last shown None None xs P m b e p = refl
anchor_last shown (Some f) (Some a) xs P m b e p = ap (frame_breach f) (p a ∙ place_here a xs [] b ∙ sym e)
anchor_last shown None (Some a) xs P m b e p = absurd m
anchor_last shown (Some f) None xs P m b e p = absurd m

pub ended : (low c : Bool) (done : List Numbered) (g f : ℕ) (waits : Bool) (o : Places) → Judged low c done g f waits o → (later : List Numbered) → NoEarlier g later → frames_of_group g later ≡ []
    → found (flat_map (picture_breaches low c (done ++ later)) done) ≡ all_broken o
ended low c done g f waits o j later none here =
    let fs = frames_of_group g done in
    let xs = shown_by low fs in
    let w = waits_by low fs in
    let P = Place low g (done ++ later) in
    let frames : frames_of_group g (done ++ later) ≡ fs = frames-append g done later ∙ ap (λ (l : Frames). fs ++ l) here ∙ append-nil fs in
    let place : (x : ℕ) → P x ≡ place_in x (xs ++ option_to_list w) = λ x. ap (λ (l : Frames). display_place x (Order low l)) frames ∙ place_is low x fs in
    let anchor : anchor_at o.anchor w P ≡ anchor_breach o.anchor o.shown = anchor_last o.shown o.anchor w xs P j.anchor_is j.absent j.shown_is place in
    let absent = absent_below f (xs ++ option_to_list w) (below-append f xs (option_to_list w) j.below (waits_below f w j.anchor_below)) in
    let last : P f ≡ o.shown + waiting_in o =
    place f ∙ place_none f (xs ++ option_to_list w) absent ∙ omega (arith, length-append xs (option_to_list w), waits_count o.anchor w j.anchor_is, j.shown_is) in
    j.says later none ∙ (λ i. first_some o.settled (first_some (anchor i) (first_some o.later (field_breach o.begun (last i)))))

less_none : (g h : ℕ) (ns : List Numbered) → g < h → NoEarlier h ns → NoEarlier g ns
less_none g h ns lt none k less = none k (omega arith)

pub group_ended : (low c : Bool) (done : List Numbered) (g h f : ℕ) (waits : Bool) (o : Places) → Judged low c done g f waits o → g < h → Judged low c done h f waits (group_closed o)
unfolding handed held_after
group_ended low c done g h f waits o j lt =
    let none : frames_of_group h done ≡ [] = j.upto h lt in
    record {
      low_is = j.low_is;
      shown_is = sym (ap (λ (l : Frames). length (shown_by low l)) none);
      anchor_is = subst (λ (l : Frames). Matches None (waits_by low l)) (sym none) tt;
      below = subst (λ (l : Frames). AreBelow f (shown_by low l)) (sym none) tt;
      anchor_below = subst (λ (l : Frames). AnchorBelow f (waits_by low l)) (sym none) tt;
      absent = subst (λ (l : Frames). AnchorAbsent (waits_by low l) (shown_by low l)) (sym none) tt;
      begun_is = λ e. refl;
      upto = λ k less. j.upto k (omega arith);
      says = λ later free.
          ended low c done g f waits o j later (less_none g h later lt free) (free g lt) ∙ sym (first_none (all_broken o));
    }

-- ---- one picture more

-- what is found of one picture more
joined : (s a l b x : Found) → first_some (first_some s (first_some a (first_some l b))) x ≡ first_some s (first_some a (first_some l (first_some b x)))
joined None None None b x = refl
joined None None (Some l) b x = refl
joined None (Some a) l b x = refl
joined (Some s) a l b x = refl

pub one_more : (low c : Bool) (done later : List Numbered) (n : Numbered) (g f : ℕ) (waits : Bool) (o : Places) → Judged low c done g f waits o → n.group ≡ g → n.frame ≡ f → NoEarlier g later
    → (let P = Place low g (done ++ n ∷ later) in
    found (flat_map (picture_breaches low c ((done ++ n ∷ []) ++ later)) (done ++ n ∷ []))
    ≡ first_some o.settled (first_some (anchor_at o.anchor (waits_by low (frames_of_group g done)) P) (first_some o.later (first_some (field_breach o.begun (P f)) (breach_at (unplaced c n) (P f))))))
unfolding place_in_group
one_more low c done later n g f waits o j eg ef none =
    let all = done ++ n ∷ later in
    let P = Place low g all in
    let w = waits_by low (frames_of_group g done) in
    let rule = picture_breaches low c all in
    let place : place_in_group low all n ≡ P f = (λ i. display_place (ef i) (Order low (frames_of_group (eg i) all))) in
    ap (λ (l : List Numbered). found (flat_map (picture_breaches low c l) (done ++ n ∷ []))) (append_assoc done (n ∷ []) later)
    ∙ ap found (flat_map-append rule done (n ∷ []) ∙ ap (λ (l : Breaches). flat_map rule done ++ l) (of_one rule n))
    ∙ found_more (flat_map rule done) (rule n)
    ∙ (λ i. first_some (j.says (n ∷ later) (none_with g n later eg none) i) ((picture_found low c all n ∙ ap (breach_at (unplaced c n)) place) i))
    ∙ joined o.settled (anchor_at o.anchor w P) o.later (field_breach o.begun (P f)) (breach_at (unplaced c n) (P f))

pub upto_more : (done : List Numbered) (n : Numbered) (g : ℕ) → n.group ≡ g → ((h : ℕ) → g < h → frames_of_group h done ≡ []) → (h : ℕ) → g < h → frames_of_group h (done ++ n ∷ []) ≡ []
upto_more done n g e old h lt =
    frames-append h done (n ∷ []) ∙ (λ i. old h lt i ++ frames_other h n (ap (λ (x : ℕ). nat_eq x h) e ∙ other_number h g lt) i)

pub same_group : (n : Numbered) (g : ℕ) → n.group ≡ g → nat_eq n.group g ≡ true
same_group n g e = ap (λ (x : ℕ). nat_eq x g) e ∙ yes_same g
  where
    yes_same : (k : ℕ) → nat_eq k k ≡ true
    yes_same k = search arith

-- a first field
pub with_first : (low c : Bool) (done : List Numbered) (n : Numbered) (g f : ℕ) (waits : Bool) (o : Places) → Judged low c done g f waits o → n.group ≡ g → n.frame ≡ f → n.picture.ends_frame ≡ false
    → waits ≡ false → Judged low c (done ++ n ∷ []) g f true (with_field o (unplaced c n))
with_first low c done n g f waits o j eg ef off alone =
    let fs = frames_of_group g done in
    let same : frames_of_group g (done ++ n ∷ []) ≡ fs =
    frames-append g done (n ∷ []) ∙ ap (λ (l : Frames). fs ++ l) (frames_one g n true (same_group n g eg) ∙ rw off refl) ∙ append-nil fs in
    record {
      low_is = j.low_is;
      shown_is = j.shown_is ∙ sym (ap (λ (l : Frames). length (shown_by low l)) same);
      anchor_is = subst (λ (l : Frames). Matches o.anchor (waits_by low l)) (sym same) j.anchor_is;
      below = subst (λ (l : Frames). AreBelow f (shown_by low l)) (sym same) j.below;
      anchor_below = subst (λ (l : Frames). AnchorBelow f (waits_by low l)) (sym same) j.anchor_below;
      absent = subst (λ (l : Frames). AnchorAbsent (waits_by low l) (shown_by low l)) (sym same) j.absent;
      begun_is = λ e. absurd cc;
      upto = upto_more done n g eg j.upto;
      says = λ later none.
          let P = Place low g (done ++ n ∷ later) in
          one_more low c done later n g f waits o j eg ef none
          ∙ ap (λ (b : Option Unplaced). first_some o.settled (first_some (anchor_at o.anchor (waits_by low fs) P) (first_some o.later (first_some (field_breach b (P f)) (breach_at (unplaced c n) (P f)))))) (j.begun_is alone)
          ∙ (λ i. first_some o.settled (first_some (anchor_at o.anchor (waits_by low (sym same i)) (Place low g (sym (append_assoc done (n ∷ []) later) i))) (first_some o.later (breach_at (unplaced c n) (Place low g (sym (append_assoc done (n ∷ []) later) i) f)))));
    }
