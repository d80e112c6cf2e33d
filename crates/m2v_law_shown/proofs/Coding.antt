-- The coding order of all frames is shown in display order.
use Rattle.std.proofs.Common.{◌≡◌, ℕ, ◌-◌, ◌≤◌, Bool, true, false, not, List, map, refl, arith, None, [], ◌∷◌, subst}
use Rattle.std.specs.Prelude.{All, ◌<◌}
use Rattle.std.specs.List.{range_with_len}
use Rattle.std.proofs.lemmas.List.Elements.{All-nil, All-cons, All-head, All-tail}
use Rattle.m2v_set.specs.declared.settings.Settings.{Settings}
use Rattle.m2v_set.specs.Rules.{Passes}
use Rattle.m2v_order.specs.Coding.{is_anchor, kind_of, frames_between, anchors_between, coding_order}
use Rattle.m2v_order.specs.Display.{is_b, Shown, frames_of}
use Rattle.m2v_order.proofs.Anchors.{Between, within}
use Rattle.m2v_order.proofs.Intra.{IsGrouped, kind_anchor, kind_b}
use Rattle.m2v_order.proofs.Queues.{grouped}
use Rattle.m2v_order.proofs.Turns.{turn_all}
use Rattle.m2v_law_shown.specs.Showing.{ShowAll}
use Rattle.m2v_law_shown.proofs.Order.{anchors_shown, tested_anchors, all_shown}

-- the B frames are those that are no anchors
pub b_is : (s : Settings) (count : ℕ) → IsGrouped s → (i : ℕ) → (let p : ℕ × ℕ = (i, kind_of s count i) in is_b p ≡ not (is_anchor s count i))
b_is s count ok i = by_anchor (is_anchor s count i) refl
  where
    by_anchor : (b : Bool) → is_anchor s count i ≡ b → (let p : ℕ × ℕ = (i, kind_of s count i) in is_b p ≡ not b)
    by_anchor true e = kind_anchor s count i e
    by_anchor false e = kind_b s count i ok e

none_dropped : {F : Type 0} (f : ℕ → F × ℕ) (dropped : F → Bool) (count : ℕ) → ((i : ℕ) → i < count → dropped (f i).0 ≡ false) → (xs : List ℕ) → All (Between 0 count) xs
    → All (λ (p : F × ℕ). dropped p.0 ≡ false) (map f xs)
none_dropped {F = F} f dropped count none [] within_all = All-nil (λ (p : F × ℕ). dropped p.0 ≡ false)
none_dropped {F = F} f dropped count none (x ∷ xs) within_all =
    All-cons (λ (p : F × ℕ). dropped p.0 ≡ false) (f x) (map f xs) (none x (All-head (Between 0 count) x xs within_all).1)
    (none_dropped f dropped count none xs (All-tail (Between 0 count) x xs within_all))

pub coding_shown : {F : Type 0} (s : Settings) (count : ℕ) (f : ℕ → F) (dropped : F → Bool) → Passes s → 1 ≤ count → ((i : ℕ) → i < count → dropped (f i) ≡ false)
    → frames_of (Shown dropped false (map (λ i. (f i, kind_of s count i)) (coding_order s count))) ≡ map f (range_with_len 0 count)
coding_shown {F = F} s count f dropped passes some none =
    let ok = grouped s passes in
    let g : ℕ → F × ℕ = λ i. (f i, kind_of s count i) in
    let all = turn_all s count 0 ok some in
    let n : count - 0 ≡ count = omega arith in
    let inside : All (Between 0 count) (coding_order s count) = subst (λ (m : ℕ). All (Between 0 m) (coding_order s count)) all (within (is_anchor s count) 0 (count - 0)) in
    all_shown dropped (map g (coding_order s count)) (map f (range_with_len 0 count)) (none_dropped g dropped count none (coding_order s count) inside)
    (subst (λ (m : ℕ). ShowAll None (map g (coding_order s count)) (map f (range_with_len 0 m))) n
    (subst (λ (m : ℕ). ShowAll None (map g (coding_order s count)) (map f (frames_between 0 m))) all
    (anchors_shown g 0 (anchors_between s count 0 count) None (tested_anchors g (is_anchor s count) (b_is s count ok) 0 (count - 0)))))
