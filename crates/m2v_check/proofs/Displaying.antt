-- The place of a frame in display order is how many frames were shown before it.
use Rattle.std.proofs.Common.{◌≡◌, ℕ, suc, ◌+◌, ◌<◌, ◌≤◌, Bool, true, false, List, [], ◌∷◌, ◌++◌, length, Option, Some, option_to_list, refl, sym, ap, ◌∙◌, append_assoc, arith, inl, inr}
use Rattle.std.specs.Prelude.{if◌then◌else◌, nat_eq, ◌==◌, ◌&&◌, ◌||◌, not, filter}
use Rattle.std.proofs.lemmas.Bool.{cases_Bool, eqb-true}
use Rattle.std.proofs.lemmas.List.{append-nil}
use Rattle.m2v_order.specs.Display.{Order, Holder, opening, shown, held, handed, held_after, is_kept, frames_of}
use Rattle.m2v_order.proofs.Shows.{order_kept, handed_shown}
use Rattle.m2v_model.specs.Lawful.{display_place}

abbrev pub Frames : Type 0
Frames = List (ℕ × ℕ)

-- the place of a number in a list
abbrev pub place_in : ℕ → List ℕ → ℕ
place_in x [] = 0
place_in x (y ∷ ys) = if nat_eq y x then 0 else suc (place_in x ys)

-- a number doesn't stand in a list
abbrev pub IsAbsent : ℕ → List ℕ → Type 0
IsAbsent x [] = Unit {0}
IsAbsent x (y ∷ ys) = (nat_eq y x ≡ false) × IsAbsent x ys

-- all numbers of a list are below a number
abbrev pub AreBelow : ℕ → List ℕ → Type 0
AreBelow x [] = Unit {0}
AreBelow x (y ∷ ys) = (y < x) × AreBelow x ys

pub other_number : (x y : ℕ) → y < x → nat_eq y x ≡ false
other_number x y lt = elim (cases_Bool (nat_eq y x)) [
  | inl t ↦ let e = eqb-true y x t in absurd (omega arith)
  | inr f ↦ f
]

pub other_above : (x y : ℕ) → x < y → nat_eq y x ≡ false
other_above x y lt = elim (cases_Bool (nat_eq y x)) [
  | inl t ↦ let e = eqb-true y x t in absurd (omega arith)
  | inr f ↦ f
]

pub same_number : (x : ℕ) → nat_eq x x ≡ true
same_number x = elim (cases_Bool (nat_eq x x)) [
  | inl t ↦ t
  | inr f ↦ absurd (let e = not_self x in let d : true ≡ false = sym e ∙ f in cc)
]
  where
    not_self : (n : ℕ) → nat_eq n n ≡ true
    not_self n = search arith

pub absent_below : (x : ℕ) (ys : List ℕ) → AreBelow x ys → IsAbsent x ys
absent_below x [] b = tt
absent_below x (y ∷ ys) b = (other_number x y b.0, absent_below x ys b.1)

pub below_more : (x z : ℕ) (ys : List ℕ) → x ≤ z → AreBelow x ys → AreBelow z ys
below_more x z [] le b = tt
below_more x z (y ∷ ys) le b = (omega (arith, b.0), below_more x z ys le b.1)

pub below-append : (x : ℕ) (xs ys : List ℕ) → AreBelow x xs → AreBelow x ys → AreBelow x (xs ++ ys)
below-append x [] ys a b = b
below-append x (y ∷ xs) ys a b = (a.0, below-append x xs ys a.1 b)

pub absent-append : (x : ℕ) (xs ys : List ℕ) → IsAbsent x xs → IsAbsent x ys → IsAbsent x (xs ++ ys)
absent-append x [] ys a b = b
absent-append x (y ∷ xs) ys a b = (a.0, absent-append x xs ys a.1 b)

pub place_behind : (x : ℕ) (xs ys : List ℕ) → IsAbsent x xs → place_in x (xs ++ ys) ≡ length xs + place_in x ys
place_behind x [] ys a = omega arith
place_behind x (y ∷ xs) ys a = rw a.0 (let h = place_behind x xs ys a.1 in omega arith)

pub place_first : (x : ℕ) (ys : List ℕ) → place_in x (x ∷ ys) ≡ 0
place_first x ys = rw (same_number x) refl

pub place_here : (x : ℕ) (xs ys : List ℕ) → IsAbsent x xs → place_in x (xs ++ x ∷ ys) ≡ length xs
place_here x xs ys a = let h = place_behind x xs (x ∷ ys) a in let z = place_first x ys in omega arith

pub place_none : (x : ℕ) (xs : List ℕ) → IsAbsent x xs → place_in x xs ≡ length xs
place_none x xs a =
    let h = place_behind x xs [] a in
    let e : place_in x (xs ++ []) ≡ place_in x xs = ap (place_in x) (append-nil xs) in
    omega arith

place_of_pair : (x : ℕ) (fs : Frames) → display_place x fs ≡ place_in x (frames_of fs)
unfolding display_place
place_of_pair x [] = refl
place_of_pair x (f ∷ fs) = ap (λ (n : ℕ). if nat_eq f.0 x then 0 else suc n) (place_of_pair x fs)

-- ---- what is shown

abbrev none_dropped : ℕ → Bool
none_dropped f = false

and_false : (b : Bool) → not (b && false) ≡ true
and_false true = refl
and_false false = refl

all_kept : (fs : Frames) → filter (is_kept none_dropped) fs ≡ fs
all_kept [] = refl
all_kept (f ∷ fs) = rw (and_false (f.1 == 3)) (ap (λ (l : Frames). f ∷ l) (all_kept fs))

-- what was shown when the last of some frames was decoded
abbrev pub shown_by : Bool → Frames → List ℕ
shown_by low fs = handed (opening low) fs

-- the anchor that waits then
abbrev pub waits_by : Bool → Frames → Option ℕ
waits_by low fs = (held_after (opening low) fs).anchor

pub order_is : (low : Bool) (fs : Frames) → frames_of (Order low fs) ≡ shown_by low fs ++ option_to_list (waits_by low fs)
order_is low fs =
    ap frames_of (ap (Order low) (sym (all_kept fs)) ∙ order_kept none_dropped low fs)
    ∙ sym (handed_shown none_dropped low fs)
    ∙ ap (λ (l : Frames). handed (opening low) l ++ option_to_list (held_after (opening low) l).anchor) (all_kept fs)

pub place_is : (low : Bool) (x : ℕ) (fs : Frames) → display_place x (Order low fs) ≡ place_in x (shown_by low fs ++ option_to_list (waits_by low fs))
place_is low x fs = place_of_pair x (Order low fs) ∙ ap (place_in x) (order_is low fs)

handed-append : (q : Holder ℕ) (fs gs : Frames) → handed q (fs ++ gs) ≡ handed q fs ++ handed (held_after q fs) gs
unfolding handed held_after
handed-append q [] gs = refl
handed-append q (f ∷ fs) gs =
    ap (λ (l : List ℕ). option_to_list (shown q f.0 f.1) ++ l) (handed-append (held q f.0 f.1) fs gs)
    ∙ sym (append_assoc (option_to_list (shown q f.0 f.1)) (handed (held q f.0 f.1) fs) (handed (held_after (held q f.0 f.1) fs) gs))

held-append : (q : Holder ℕ) (fs gs : Frames) → held_after q (fs ++ gs) ≡ held_after (held_after q fs) gs
unfolding held_after
held-append q [] gs = refl
held-append q (f ∷ fs) gs = held-append (held q f.0 f.1) fs gs

low_kept : (q : Holder ℕ) (fs : Frames) → (held_after q fs).low_delay ≡ q.low_delay
unfolding held_after held
low_kept q [] = refl
low_kept q (f ∷ fs) = low_kept (held q f.0 f.1) fs ∙ one (q.low_delay || (f.1 == 3))
  where
    one : (b : Bool) → (if b then q else record q { anchor = Some f.0 }).low_delay ≡ q.low_delay
    one true = refl
    one false = refl

-- the queue behind some frames
abbrev queue_by : Bool → Frames → Holder ℕ
queue_by low fs = held_after (opening low) fs

queue_is : (low : Bool) (fs : Frames) → queue_by low fs ≡ record { low_delay = low; anchor = waits_by low fs }
queue_is low fs = λ i. record { low_delay = low_kept (opening low) fs i; anchor = waits_by low fs }

-- the frames behind one more, and what follows it
abbrev queue_at : Bool → Option ℕ → Holder ℕ
queue_at low anchor = record { low_delay = low; anchor = anchor }

shown_at_once : (low : Bool) (a : Option ℕ) (x kind : ℕ) (gs : Frames) → (low || (kind == 3)) ≡ true → handed (queue_at low a) ((x, kind) ∷ gs) ≡ x ∷ handed (queue_at low a) gs
unfolding handed shown held
shown_at_once low a x kind gs e = rw e refl

shown_later : (low : Bool) (a : Option ℕ) (x kind : ℕ) (gs : Frames) → (low || (kind == 3)) ≡ false → handed (queue_at low a) ((x, kind) ∷ gs) ≡ option_to_list a ++ handed (queue_at low (Some x)) gs
unfolding handed shown held
shown_later low a x kind gs e = rw e refl

held_at_once : (low : Bool) (a : Option ℕ) (x kind : ℕ) → (low || (kind == 3)) ≡ true → held_after (queue_at low a) ((x, kind) ∷ []) ≡ queue_at low a
unfolding held_after held
held_at_once low a x kind e = rw e refl

held_later : (low : Bool) (a : Option ℕ) (x kind : ℕ) → (low || (kind == 3)) ≡ false → held_after (queue_at low a) ((x, kind) ∷ []) ≡ queue_at low (Some x)
unfolding held_after held
held_later low a x kind e = rw e refl

-- one frame more, and others behind it: it is shown at once, or the anchor before it
pub once_order : (low : Bool) (fs gs : Frames) (x kind : ℕ) → (low || (kind == 3)) ≡ true
    → (more : List ℕ) × (shown_by low (fs ++ (x, kind) ∷ gs) ++ option_to_list (waits_by low (fs ++ (x, kind) ∷ gs)) ≡ shown_by low fs ++ x ∷ more)
unfolding handed
once_order low fs gs x kind e =
    let rest = handed (queue_at low (waits_by low fs)) gs in
    let last = option_to_list (waits_by low (fs ++ (x, kind) ∷ gs)) in (
      rest ++ last,
      ap (λ (l : List ℕ). l ++ last) (handed-append (opening low) fs ((x, kind) ∷ gs) ∙ ap (λ (q : Holder ℕ). shown_by low fs ++ handed q ((x, kind) ∷ gs)) (queue_is low fs)
          ∙ ap (λ (l : List ℕ). shown_by low fs ++ l) (shown_at_once low (waits_by low fs) x kind gs e))
          ∙ append_assoc (shown_by low fs) (x ∷ rest) last,
    )

pub later_order : (low : Bool) (fs gs : Frames) (x kind a : ℕ) → (low || (kind == 3)) ≡ false → waits_by low fs ≡ Some a
    → (more : List ℕ) × (shown_by low (fs ++ (x, kind) ∷ gs) ++ option_to_list (waits_by low (fs ++ (x, kind) ∷ gs)) ≡ shown_by low fs ++ a ∷ more)
unfolding handed
later_order low fs gs x kind a e w =
    let rest = handed (queue_at low (Some x)) gs in
    let last = option_to_list (waits_by low (fs ++ (x, kind) ∷ gs)) in (
      rest ++ last,
      ap (λ (l : List ℕ). l ++ last) (handed-append (opening low) fs ((x, kind) ∷ gs) ∙ ap (λ (q : Holder ℕ). shown_by low fs ++ handed q ((x, kind) ∷ gs)) (queue_is low fs ∙ ap (queue_at low) w)
          ∙ ap (λ (l : List ℕ). shown_by low fs ++ l) (shown_later low (Some a) x kind gs e))
          ∙ append_assoc (shown_by low fs) (a ∷ rest) last,
    )

-- what is shown, and what waits, behind one more
pub once_shown : (low : Bool) (fs : Frames) (x kind : ℕ) → (low || (kind == 3)) ≡ true → shown_by low (fs ++ (x, kind) ∷ []) ≡ shown_by low fs ++ x ∷ []
unfolding handed
once_shown low fs x kind e =
    handed-append (opening low) fs ((x, kind) ∷ []) ∙ ap (λ (q : Holder ℕ). shown_by low fs ++ handed q ((x, kind) ∷ [])) (queue_is low fs)
    ∙ ap (λ (l : List ℕ). shown_by low fs ++ l) (shown_at_once low (waits_by low fs) x kind [] e)

pub once_waits : (low : Bool) (fs : Frames) (x kind : ℕ) → (low || (kind == 3)) ≡ true → waits_by low (fs ++ (x, kind) ∷ []) ≡ waits_by low fs
once_waits low fs x kind e =
    ap (λ (q : Holder ℕ). q.anchor) (held-append (opening low) fs ((x, kind) ∷ []) ∙ ap (λ (q : Holder ℕ). held_after q ((x, kind) ∷ [])) (queue_is low fs) ∙ held_at_once low (waits_by low fs) x kind e)

pub later_shown : (low : Bool) (fs : Frames) (x kind : ℕ) → (low || (kind == 3)) ≡ false → shown_by low (fs ++ (x, kind) ∷ []) ≡ shown_by low fs ++ option_to_list (waits_by low fs)
unfolding handed
later_shown low fs x kind e =
    handed-append (opening low) fs ((x, kind) ∷ []) ∙ ap (λ (q : Holder ℕ). shown_by low fs ++ handed q ((x, kind) ∷ [])) (queue_is low fs)
    ∙ ap (λ (l : List ℕ). shown_by low fs ++ l) (shown_later low (waits_by low fs) x kind [] e ∙ append-nil (option_to_list (waits_by low fs)))

pub later_waits : (low : Bool) (fs : Frames) (x kind : ℕ) → (low || (kind == 3)) ≡ false → waits_by low (fs ++ (x, kind) ∷ []) ≡ Some x
later_waits low fs x kind e =
    ap (λ (q : Holder ℕ). q.anchor) (held-append (opening low) fs ((x, kind) ∷ []) ∙ ap (λ (q : Holder ℕ). held_after q ((x, kind) ∷ [])) (queue_is low fs) ∙ held_later low (waits_by low fs) x kind e)
