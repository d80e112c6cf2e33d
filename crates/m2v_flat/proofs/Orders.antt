-- Where each picture is an anchor, pictures are shown in decoding order.
use Rattle.std.proofs.Common.{◌≡◌, ℕ, zero, suc, Bool, true, false, All, List, [], ◌∷◌, refl, ap, ◌∙◌}
use Rattle.std.specs.Prelude.{filter}
use Rattle.std.proofs.lemmas.List.Elements.{All-head, All-tail}
use Rattle.m2v_order.specs.Display.{is_b, is_kept, anchors, b_after, from_anchor, Order, Shown}

abbrev pub IsAnchor : {F : Type 0} → F × ℕ → Type 0
IsAnchor p = is_b p ≡ false

no_b : {F : Type 0} (k : ℕ) (ps : List (F × ℕ)) → All IsAnchor ps → b_after k ps ≡ []
unfolding b_after
no_b k [] h = refl
no_b zero (p ∷ ps) h = let e = All-head IsAnchor p ps h in rw e refl
no_b (suc k) (p ∷ ps) h = let e = All-head IsAnchor p ps h in rw e (no_b k ps (All-tail IsAnchor p ps h))

in_turn : {F : Type 0} (k : ℕ) (xs ps : List (F × ℕ)) → All IsAnchor ps → from_anchor k xs ps ≡ xs
unfolding from_anchor
in_turn k [] ps h = refl
in_turn k (x ∷ xs) ps h = rw (no_b k ps h) (ap (λ (l : List _). x ∷ l) (in_turn (suc k) xs ps h))

all_anchors : {F : Type 0} (ps : List (F × ℕ)) → All IsAnchor ps → anchors ps ≡ ps
all_anchors [] h = refl
all_anchors (p ∷ ps) h = let e = All-head IsAnchor p ps h in rw e (ap (λ (x : List _). p ∷ x) (all_anchors ps (All-tail IsAnchor p ps h)))

all_kept : {F : Type 0} (dropped : F → Bool) (ps : List (F × ℕ)) → All IsAnchor ps → filter (is_kept dropped) ps ≡ ps
all_kept dropped [] h = refl
all_kept dropped (p ∷ ps) h = let e = All-head IsAnchor p ps h in rw e (ap (λ (x : List _). p ∷ x) (all_kept dropped ps (All-tail IsAnchor p ps h)))

-- where each picture is an anchor, display order is decoding order
pub in_order : {F : Type 0} (low_delay : Bool) (ps : List (F × ℕ)) → All IsAnchor ps → Order low_delay ps ≡ ps
unfolding Order
in_order true ps h = refl
in_order false ps h = rw (no_b 0 ps h) (in_turn 1 (anchors ps) ps h ∙ all_anchors ps h)

pub all_shown : {F : Type 0} (dropped : F → Bool) (low_delay : Bool) (ps : List (F × ℕ)) → All IsAnchor ps → Shown dropped low_delay ps ≡ ps
all_shown dropped low_delay ps h = ap (filter (is_kept dropped)) (in_order low_delay ps h) ∙ all_kept dropped ps h
