-- A dropped picture and one that isn't there show the same: nothing.
use Rattle.std.proofs.Common.{◌≡◌, ℕ, zero, suc, Bool, true, false, List, [], ◌∷◌, ◌++◌, map, filter, refl, sym, ap, subst, ◌∙◌}
use Rattle.std.specs.Prelude.{nat_le, not, ◌&&◌, if◌then◌else◌}
use Rattle.std.proofs.lemmas.List.Elements.{filter-append}
use Rattle.m2v_order.specs.Display.{is_b, anchors, b_after, from_anchor, Order, is_kept, Shown}
use Rattle.m2v_model.specs.States as states
use Rattle.m2v_model.specs.Pictures.{Picture, Pictures, is_ending, typed, frames_in}
use Rattle.m2v_model.specs.Decoding.{is_dropped, raw_frames, shown}
use Rattle.m2v_law_group.specs.Chosen.{anchors_behind, is_leading, without_leading, left_in}

-- ---- display order without frames that aren't kept

module _ {F : Type 0} (dropped : F → Bool) where
  abbrev kept : List (F × ℕ) → List (F × ℕ)
  kept fs = filter (is_kept dropped) fs

  anchor_kept : (b d : Bool) → b ≡ false → not (b && d) ≡ true
  anchor_kept true d e = absurd cc
  anchor_kept false d e = refl

  anchors_step : (f : F × ℕ) (fs : List (F × ℕ)) (b k : Bool) → is_b f ≡ b → is_kept dropped f ≡ k → anchors (kept fs) ≡ anchors fs → anchors (kept (f ∷ fs)) ≡ anchors (f ∷ fs)
  anchors_step f fs true true eb ek ih = rw (ek, eb) ih
  anchors_step f fs true false eb ek ih = rw (ek, eb) ih
  anchors_step f fs false true eb ek ih = rw (ek, eb) (ap (λ (l : List (F × ℕ)). f ∷ l) ih)
  anchors_step f fs false false eb ek ih = let h = sym ek ∙ anchor_kept (is_b f) (dropped f.0) eb in absurd cc

  kept_anchors : (fs : List (F × ℕ)) → anchors (kept fs) ≡ anchors fs
  kept_anchors [] = refl
  kept_anchors (f ∷ fs) = anchors_step f fs (is_b f) (is_kept dropped f) refl refl (kept_anchors fs)

  after_step : (n : ℕ) (f : F × ℕ) (fs : List (F × ℕ)) (b k : Bool) → is_b f ≡ b → is_kept dropped f ≡ k → ((m : ℕ) → b_after m (kept fs) ≡ kept (b_after m fs)) → b_after n (kept (f ∷ fs)) ≡ kept (b_after n (f ∷ fs))
  unfolding b_after
  after_step zero f fs true true eb ek ih = rw (ek, eb, ek) (ap (λ (l : List (F × ℕ)). f ∷ l) (ih 0))
  after_step zero f fs true false eb ek ih = rw (ek, eb, ek) (ih 0)
  after_step zero f fs false true eb ek ih = rw (ek, eb) refl
  after_step (suc n) f fs true true eb ek ih = rw (ek, eb) (ih (suc n))
  after_step (suc n) f fs true false eb ek ih = rw (ek, eb) (ih (suc n))
  after_step (suc n) f fs false true eb ek ih = rw (ek, eb) (ih n)
  after_step n f fs false false eb ek ih = let h = sym ek ∙ anchor_kept (is_b f) (dropped f.0) eb in absurd cc

  kept_after : (fs : List (F × ℕ)) (n : ℕ) → b_after n (kept fs) ≡ kept (b_after n fs)
  unfolding b_after
  kept_after [] n = refl
  kept_after (f ∷ fs) n = after_step n f fs (is_b f) (is_kept dropped f) refl refl (kept_after fs)

  -- only anchors stand in a list
  abbrev AreAnchors : List (F × ℕ) → Type 0
  AreAnchors [] = Unit {0}
  AreAnchors (a ∷ more) = (is_b a ≡ false) × AreAnchors more

  anchors_are_step : (f : F × ℕ) (fs : List (F × ℕ)) (b : Bool) → is_b f ≡ b → AreAnchors (anchors fs) → AreAnchors (anchors (f ∷ fs))
  anchors_are_step f fs true e h = rw e h
  anchors_are_step f fs false e h = rw e (e, h)

  anchors_are : (fs : List (F × ℕ)) → AreAnchors (anchors fs)
  anchors_are [] = tt
  anchors_are (f ∷ fs) = anchors_are_step f fs (is_b f) refl (anchors_are fs)

  kept_from : (n : ℕ) (more fs : List (F × ℕ)) → AreAnchors more → from_anchor n more (kept fs) ≡ kept (from_anchor n more fs)
  unfolding from_anchor
  kept_from n [] fs h = refl
  kept_from n (a ∷ more) fs h =
      let own : is_kept dropped a ≡ true = anchor_kept (is_b a) (dropped a.0) h.0 in
      let rest = kept_from (suc n) more fs h.1 in
      let joint : kept (a ∷ from_anchor (suc n) more fs) ≡ a ∷ kept (from_anchor (suc n) more fs) = rw own refl in
      ap (λ (l : List (F × ℕ)). l ++ a ∷ from_anchor (suc n) more (kept fs)) (kept_after fs n)
      ∙ ap (λ (l : List (F × ℕ)). kept (b_after n fs) ++ a ∷ l) rest
      ∙ ap (λ (l : List (F × ℕ)). kept (b_after n fs) ++ l) (sym joint)
      ∙ sym (filter-append (is_kept dropped) (b_after n fs) (a ∷ from_anchor (suc n) more fs))

  kept_order : (low : Bool) (fs : List (F × ℕ)) → Order low (kept fs) ≡ kept (Order low fs)
  unfolding Order
  kept_order true fs = refl
  kept_order false fs =
      ap (λ (l : List (F × ℕ)). b_after 0 (kept fs) ++ from_anchor 1 l (kept fs)) (kept_anchors fs)
      ∙ ap (λ (l : List (F × ℕ)). l ++ from_anchor 1 (anchors fs) (kept fs)) (kept_after fs 0)
      ∙ ap (λ (l : List (F × ℕ)). kept (b_after 0 fs) ++ l) (kept_from 1 (anchors fs) fs (anchors_are fs))
      ∙ sym (filter-append (is_kept dropped) (b_after 0 fs) (from_anchor 1 (anchors fs) fs))

-- frames that are the same but for those that aren't kept show the same
pub shows_same : {F : Type 0} (dropped : F → Bool) (low : Bool) (fs gs : List (F × ℕ)) → filter (is_kept dropped) fs ≡ filter (is_kept dropped) gs → Shown dropped low fs ≡ Shown dropped low gs
shows_same {F} dropped low fs gs e = sym (kept_order dropped low fs) ∙ ap (Order low) e ∙ kept_order dropped low gs

-- ---- pictures beside those of the cut

-- a picture of the cut: one that is left out is dropped, each other is the same
abbrev pub Beside : Bool → Picture → Picture → Type 0
Beside true p q = (q.dropped ≡ true) × (q.info.kind ≡ p.info.kind)
Beside false p q = p ≡ q

-- a picture is left out of a cut, behind so many anchors
abbrev pub is_left : Bool → ℕ → Picture → Bool
is_left changed anchors p = changed && is_leading anchors p

-- pictures of the whole and those of the cut, behind so many anchors
abbrev pub AreBeside : Bool → ℕ → Pictures → Pictures → Type 0
AreBeside changed anchors [] [] = Unit {0}
AreBeside changed anchors [] (q ∷ qs) = ⊥
AreBeside changed anchors (p ∷ ps) [] = ⊥
AreBeside changed anchors (p ∷ ps) (q ∷ qs) = Beside (is_left changed anchors p) p q × AreBeside changed (anchors_behind anchors p) ps qs

-- the frames of pictures that are shown
abbrev frames_kept : Pictures → List (Picture × ℕ)
frames_kept ps = filter (is_kept is_dropped) (frames_in ps)

-- pictures of which a picture is left out
frame_left : (q : Picture) (qs : Pictures) (ends : Bool) → q.ends_frame ≡ ends → q.dropped ≡ true → states.is_b q.info.kind ≡ true → frames_kept (q ∷ qs) ≡ frames_kept qs
frame_left q qs true e d b = rw (e, b, d) refl
frame_left q qs false e d b = rw e refl

-- and those of which one more is the same
next_same : (ends : Bool) (p : Picture) (xs ys : Pictures) → filter (is_kept is_dropped) (map typed xs) ≡ filter (is_kept is_dropped) (map typed ys)
    → filter (is_kept is_dropped) (map typed (if ends then p ∷ xs else xs)) ≡ filter (is_kept is_dropped) (map typed (if ends then p ∷ ys else ys))
next_same true p xs ys h = ap (λ (g : List (Picture × ℕ)). if is_kept is_dropped (typed p) then typed p ∷ g else g) h
next_same false p xs ys h = h

frame_same : (p : Picture) (ps qs : Pictures) → frames_kept ps ≡ frames_kept qs → frames_kept (p ∷ ps) ≡ frames_kept (p ∷ qs)
frame_same p ps qs h = next_same p.ends_frame p (filter is_ending ps) (filter is_ending qs) h

both_parts : (a b : Bool) → (a && b) ≡ true → a ≡ true
both_parts true b e = refl
both_parts false b e = absurd cc

beside_step : (anchors : ℕ) (p q : Picture) (ps qs : Pictures) (left : Bool) → is_leading anchors p ≡ left → Beside left p q
    → ((n : ℕ) → (n ≡ anchors) → left ≡ true → frames_kept qs ≡ frames_kept (without_leading anchors ps)) → (left ≡ false → frames_kept qs ≡ frames_kept (without_leading (anchors_behind anchors p) ps))
    → frames_kept (q ∷ qs) ≡ frames_kept (if left then without_leading anchors ps else p ∷ without_leading (anchors_behind anchors p) ps)
beside_step anchors p q ps qs true e h out kept =
    let b : states.is_b q.info.kind ≡ true = ap states.is_b h.1 ∙ both_parts (states.is_b p.info.kind) (not (nat_le 2 anchors)) e in
    frame_left q qs q.ends_frame refl h.0 b ∙ out anchors refl refl
beside_step anchors p q ps qs false e h out kept =
    subst (λ (x : Picture). frames_kept (x ∷ qs) ≡ frames_kept (p ∷ without_leading (anchors_behind anchors p) ps)) h
    (frame_same p qs (without_leading (anchors_behind anchors p) ps) (kept refl))

-- a B picture leaves the anchors as they are
leads_on : (ends b late : Bool) (anchors more : ℕ) → (b && not late) ≡ true → (if ends && not b then more else anchors) ≡ anchors
leads_on true true late anchors more e = refl
leads_on false true late anchors more e = refl
leads_on ends false late anchors more e = absurd cc

beside_leading : (anchors : ℕ) (ps qs : Pictures) → AreBeside true anchors ps qs → frames_kept qs ≡ frames_kept (without_leading anchors ps)
unfolding without_leading
beside_leading anchors [] [] h = refl
beside_leading anchors [] (q ∷ qs) h = absurd h
beside_leading anchors (p ∷ ps) [] h = absurd h
beside_leading anchors (p ∷ ps) (q ∷ qs) h =
    let rest = beside_leading (anchors_behind anchors p) ps qs h.1 in
    beside_step anchors p q ps qs (is_leading anchors p) refl h.0
    (λ n e on. let same : anchors_behind anchors p ≡ anchors = leads_on p.ends_frame (states.is_b p.info.kind) (nat_le 2 anchors) anchors _ on in rest ∙ ap (λ (m : ℕ). frames_kept (without_leading m ps)) same)
    (λ off. rest)

beside_all : (anchors : ℕ) (ps qs : Pictures) → AreBeside false anchors ps qs → ps ≡ qs
beside_all anchors [] [] h = refl
beside_all anchors [] (q ∷ qs) h = absurd h
beside_all anchors (p ∷ ps) [] h = absurd h
beside_all anchors (p ∷ ps) (q ∷ qs) h =
    let rest : ps ≡ qs = beside_all (anchors_behind anchors p) ps qs h.1 in
    ap (λ (l : Pictures). p ∷ l) rest ∙ ap (λ (x : Picture). x ∷ qs) h.0

beside_kept : (changed : Bool) (ps qs : Pictures) → AreBeside changed 0 ps qs → frames_kept qs ≡ frames_kept (left_in changed ps)
beside_kept true ps qs h = beside_leading 0 ps qs h
beside_kept false ps qs h = ap frames_kept (sym (beside_all 0 ps qs h))

-- what the pictures of the cut show
pub beside_shown : (changed low : Bool) (ps qs : Pictures) → AreBeside changed 0 ps qs → shown low (left_in changed ps) ≡ shown low qs
beside_shown changed low ps qs h = ap raw_frames (sym (shows_same is_dropped low (frames_in qs) (frames_in (left_in changed ps)) (beside_kept changed ps qs h)))
