-- Display order of frames, and of others behind them: where these have no B frame before their first anchor, it is that of both,
-- one behind the other.
use Rattle.std.proofs.Common.{◌≡◌, ℕ, zero, suc, ◌+◌, Bool, true, false, List, [], ◌∷◌, ◌++◌, filter, length, refl, sym, ap, subst, ◌∙◌, append_assoc, append-nil, arith}
use Rattle.std.specs.Prelude.{if◌then◌else◌, not, ◌&&◌, ◌||◌, nat_eq}
use Rattle.std.proofs.lemmas.List.Elements.{filter-append}
use Rattle.std.proofs.lemmas.List.{map-append}
use Rattle.m2v_order.specs.Display.{is_b, anchors, b_after, from_anchor, Order, is_kept, Shown}
use Rattle.m2v_model.specs.States as states
use Rattle.m2v_model.specs.Pictures.{Picture, Pictures, frames_in}
use Rattle.m2v_model.specs.Decoding.{is_dropped, raw_frames, shown}
use Rattle.m2v_model.proofs.Fronts.{frames_in-append}
use Rattle.m2v_law_group.specs.Chosen.{anchors_behind}
use Rattle.m2v_law_group.proofs.Lists.{and_parts}
use Rattle.m2v_law_seam.specs.Strands.{may_stand, all_stand}

module _ {F : Type 0} where
  anchors_append : (fs gs : List (F × ℕ)) → anchors (fs ++ gs) ≡ anchors fs ++ anchors gs
  anchors_append fs gs = filter-append _ fs gs

  -- how many anchors there are
  abbrev count : List (F × ℕ) → ℕ
  count fs = length (anchors fs)

  count_step : (f : F × ℕ) (fs : List (F × ℕ)) (b : Bool) → is_b f ≡ b → count (f ∷ fs) ≡ (if b then count fs else suc (count fs))
  count_step f fs true e = rw e refl
  count_step f fs false e = rw e refl

  -- the B frames behind fewer anchors than the first frames have stand among these
  before_step : (f : F × ℕ) (fs gs : List (F × ℕ)) (k : ℕ) (b : Bool) → is_b f ≡ b → ((j d : ℕ) → count fs ≡ suc (j + d) → b_after j (fs ++ gs) ≡ b_after j fs) → (d : ℕ) → count (f ∷ fs) ≡ suc (k + d) → b_after k (f ∷ (fs ++ gs)) ≡ b_after k (f ∷ fs)
  unfolding b_after
  before_step f fs gs zero true e ih d c = rw e (ap (λ (l : List (F × ℕ)). f ∷ l) (ih 0 d (sym (count_step f fs true e) ∙ c)))
  before_step f fs gs (suc k) true e ih d c = rw e (ih (suc k) d (sym (count_step f fs true e) ∙ c))
  before_step f fs gs zero false e ih d c = rw e refl
  before_step f fs gs (suc k) false e ih d c =
      let own : suc (count fs) ≡ suc (suc k + d) = sym (count_step f fs false e) ∙ c in
      let less : count fs ≡ suc (k + d) = omega (arith, own) in
      rw e (ih k d less)

  before : (fs gs : List (F × ℕ)) (k d : ℕ) → count fs ≡ suc (k + d) → b_after k (fs ++ gs) ≡ b_after k fs
  before [] gs k d c = absurd (omega (arith, c))
  before (f ∷ fs) gs k d c = before_step f fs gs k (is_b f) refl (before fs gs) d c

  -- those behind as many anchors or more, or the first ones of these
  behind_step : (f : F × ℕ) (fs gs : List (F × ℕ)) (j : ℕ) (b : Bool) → is_b f ≡ b → ((i : ℕ) → b_after (count fs + i) (fs ++ gs) ≡ b_after (count fs + i) fs ++ b_after i gs) → b_after (count (f ∷ fs) + j) (f ∷ (fs ++ gs)) ≡ b_after (count (f ∷ fs) + j) (f ∷ fs) ++ b_after j gs
  unfolding b_after
  behind_step f fs gs j true e ih =
      let n : count (f ∷ fs) ≡ count fs = count_step f fs true e in
      rw (n) (b_on f fs gs (count fs + j) (b_after j gs) e (ih j))
    where
      b_on : (f : F × ℕ) (fs gs : List (F × ℕ)) (k : ℕ) (rest : List (F × ℕ)) → is_b f ≡ true → b_after k (fs ++ gs) ≡ b_after k fs ++ rest → b_after k (f ∷ (fs ++ gs)) ≡ b_after k (f ∷ fs) ++ rest
      b_on f fs gs zero rest e h = rw e (ap (λ (l : List (F × ℕ)). f ∷ l) h)
      b_on f fs gs (suc k) rest e h = rw e h
  behind_step f fs gs j false e ih =
      let n : count (f ∷ fs) ≡ suc (count fs) = count_step f fs false e in
      let m : suc (count fs) + j ≡ suc (count fs + j) = omega arith in
      rw (n, m, e) (ih j)

  behind : (fs gs : List (F × ℕ)) (j : ℕ) → b_after (count fs + j) (fs ++ gs) ≡ b_after (count fs + j) fs ++ b_after j gs
  unfolding b_after
  behind [] gs j = let z : count [] + j ≡ j = omega arith in rw (z) (none j (b_after j gs))
    where
      none : (j : ℕ) (rest : List (F × ℕ)) → rest ≡ b_after j [] ++ rest
      none zero rest = refl
      none (suc j) rest = refl
  behind (f ∷ fs) gs j = behind_step f fs gs j (is_b f) refl (behind fs gs)

  -- anchors of the first frames, and the B frames before them
  first_anchors : (fs gs : List (F × ℕ)) (more : List (F × ℕ)) (k : ℕ) → b_after (count fs) (fs ++ gs) ≡ b_after (count fs) fs → k + length more ≡ suc (count fs) → from_anchor k more (fs ++ gs) ≡ from_anchor k more fs
  unfolding from_anchor
  first_anchors fs gs [] k last c = refl
  first_anchors fs gs (a ∷ []) k last c =
      let n : k ≡ count fs = omega (arith, c) in
      ap (λ (l : List (F × ℕ)). l ++ a ∷ []) (subst (λ (m : ℕ). b_after m (fs ++ gs) ≡ b_after m fs) (sym n) last)
  first_anchors fs gs (a ∷ x ∷ more) k last c =
      let n : count fs ≡ suc (k + length more) = omega (arith, c) in
      let later : suc k + length (x ∷ more) ≡ suc (count fs) = omega (arith, c) in
      ap (λ (l : List (F × ℕ)). l ++ a ∷ from_anchor (suc k) (x ∷ more) (fs ++ gs)) (before fs gs k (length more) n)
      ∙ ap (λ (l : List (F × ℕ)). b_after k fs ++ a ∷ l) (first_anchors fs gs (x ∷ more) (suc k) last later)

  -- anchors of the other ones
  other_anchors : (fs gs : List (F × ℕ)) (more : List (F × ℕ)) (k : ℕ) → ((j : ℕ) → b_after (count fs + suc j) fs ≡ []) → from_anchor (count fs + suc k) more (fs ++ gs) ≡ from_anchor (suc k) more gs
  unfolding from_anchor
  other_anchors fs gs [] k none = refl
  other_anchors fs gs (a ∷ more) k none =
      let own : b_after (count fs + suc k) (fs ++ gs) ≡ b_after (suc k) gs = behind fs gs (suc k) ∙ ap (λ (l : List (F × ℕ)). l ++ b_after (suc k) gs) (none k) in
      let n : suc (count fs + suc k) ≡ count fs + suc (suc k) = omega arith in
      ap (λ (l : List (F × ℕ)). l ++ a ∷ from_anchor (suc (count fs + suc k)) more (fs ++ gs)) own
      ∙ ap (λ (m : ℕ). b_after (suc k) gs ++ a ∷ from_anchor m more (fs ++ gs)) n
      ∙ ap (λ (l : List (F × ℕ)). b_after (suc k) gs ++ a ∷ l) (other_anchors fs gs more (suc k) none)

  -- no B frame stands behind more anchors than there are
  none_step : (f : F × ℕ) (fs : List (F × ℕ)) (j : ℕ) (b : Bool) → is_b f ≡ b → ((i : ℕ) → b_after (count fs + suc i) fs ≡ []) → b_after (count (f ∷ fs) + suc j) (f ∷ fs) ≡ []
  unfolding b_after
  none_step f fs j true e ih =
      let n : count (f ∷ fs) + suc j ≡ suc (count fs + j) = omega (arith, count_step f fs true e) in
      let m : suc (count fs + j) ≡ count fs + suc j = omega arith in
      ap (λ (k : ℕ). b_after k (f ∷ fs)) n ∙ rw e (ap (λ (k : ℕ). b_after k fs) m ∙ ih j)
  none_step f fs j false e ih =
      let n : count (f ∷ fs) + suc j ≡ suc (count fs + suc j) = omega (arith, count_step f fs false e) in
      ap (λ (k : ℕ). b_after k (f ∷ fs)) n ∙ rw e (ih j)

  none_behind : (fs : List (F × ℕ)) (j : ℕ) → b_after (count fs + suc j) fs ≡ []
  unfolding b_after
  none_behind [] j = let n : count [] + suc j ≡ suc j = omega arith in ap (λ (k : ℕ). b_after k []) n
  none_behind (f ∷ fs) j = none_step f fs j (is_b f) refl (none_behind fs)

  from_append : (xs ys ps : List (F × ℕ)) (k : ℕ) → from_anchor k (xs ++ ys) ps ≡ from_anchor k xs ps ++ from_anchor (k + length xs) ys ps
  unfolding from_anchor
  from_append [] ys ps k = let n : k ≡ k + 0 = omega arith in ap (λ (m : ℕ). from_anchor m ys ps) n
  from_append (a ∷ xs) ys ps k =
      let n : suc k + length xs ≡ k + length (a ∷ xs) = omega arith in
      ap (λ (l : List (F × ℕ)). b_after k ps ++ a ∷ l) (from_append xs ys ps (suc k) ∙ ap (λ (m : ℕ). from_anchor (suc k) xs ps ++ from_anchor m ys ps) n)
      ∙ sym (append_assoc (b_after k ps) (a ∷ from_anchor (suc k) xs ps) (from_anchor (k + length (a ∷ xs)) ys ps))

  -- no B frame of the others is shown before the first anchor of the first ones
  zero_before : (fs gs : List (F × ℕ)) → b_after 0 gs ≡ [] → (n : ℕ) → count fs ≡ n → b_after 0 (fs ++ gs) ≡ b_after 0 fs
  zero_before fs gs none zero c =
      let z : count fs + 0 ≡ 0 = omega (arith, c) in
      subst (λ (m : ℕ). b_after m (fs ++ gs) ≡ b_after m fs ++ b_after 0 gs) z (behind fs gs 0) ∙ ap (λ (l : List (F × ℕ)). b_after 0 fs ++ l) none ∙ append-nil (b_after 0 fs)
  zero_before fs gs none (suc n) c = before fs gs 0 n (omega (arith, c))

  last_before : (fs gs : List (F × ℕ)) → b_after 0 gs ≡ [] → b_after (count fs) (fs ++ gs) ≡ b_after (count fs) fs
  last_before fs gs none =
      let z : count fs + 0 ≡ count fs = omega arith in
      subst (λ (m : ℕ). b_after m (fs ++ gs) ≡ b_after m fs ++ b_after 0 gs) z (behind fs gs 0) ∙ ap (λ (l : List (F × ℕ)). b_after (count fs) fs ++ l) none ∙ append-nil (b_after (count fs) fs)

  pub order_append : (low : Bool) (fs gs : List (F × ℕ)) → b_after 0 gs ≡ [] → Order low (fs ++ gs) ≡ Order low fs ++ Order low gs
  unfolding Order
  order_append true fs gs none = refl
  order_append false fs gs none =
      let n : 1 + count fs ≡ suc (count fs) = omega arith in
      let m : 1 + count fs ≡ count fs + suc 0 = omega arith in
      ap (λ (l : List (F × ℕ)). l ++ from_anchor 1 (anchors (fs ++ gs)) (fs ++ gs)) (zero_before fs gs none (count fs) refl)
      ∙ ap (λ (l : List (F × ℕ)). b_after 0 fs ++ from_anchor 1 l (fs ++ gs)) (anchors_append fs gs)
      ∙ ap (λ (l : List (F × ℕ)). b_after 0 fs ++ l) (from_append (anchors fs) (anchors gs) (fs ++ gs) 1)
      ∙ ap (λ (l : List (F × ℕ)). b_after 0 fs ++ (l ++ from_anchor (1 + count fs) (anchors gs) (fs ++ gs))) (first_anchors fs gs (anchors fs) 1 (last_before fs gs none) n)
      ∙ ap (λ (k : ℕ). b_after 0 fs ++ (from_anchor 1 (anchors fs) fs ++ from_anchor k (anchors gs) (fs ++ gs))) m
      ∙ ap (λ (l : List (F × ℕ)). b_after 0 fs ++ (from_anchor 1 (anchors fs) fs ++ l)) (other_anchors fs gs (anchors gs) 0 (none_behind fs))
      ∙ sym (append_assoc (b_after 0 fs) (from_anchor 1 (anchors fs) fs) (from_anchor 1 (anchors gs) gs))
      ∙ ap (λ (l : List (F × ℕ)). (b_after 0 fs ++ from_anchor 1 (anchors fs) fs) ++ (l ++ from_anchor 1 (anchors gs) gs)) (sym none)

-- ---- what is shown

pub shown_order : {F : Type 0} (dropped : F → Bool) (low : Bool) (fs gs : List (F × ℕ)) → b_after 0 gs ≡ [] → Shown dropped low (fs ++ gs) ≡ Shown dropped low fs ++ Shown dropped low gs
shown_order dropped low fs gs none = ap (filter (is_kept dropped)) (order_append low fs gs none) ∙ filter-append (is_kept dropped) (Order low fs) (Order low gs)

-- pictures of which no B picture stands before the first anchor
first_step : (p : Picture) (ps : Pictures) (ends b : Bool) → p.ends_frame ≡ ends → states.is_b p.info.kind ≡ b → may_stand 0 p ≡ true → (ends ≡ false → b_after 0 (frames_in ps) ≡ []) → b_after 0 (frames_in (p ∷ ps)) ≡ []
unfolding b_after
first_step p ps false b e eb may ih = rw e (ih refl)
first_step p ps true false e eb may ih = rw (e, eb) refl
first_step p ps true true e eb may ih = let wrong : false ≡ true = sym (second_false (nat_eq p.info.kind 1) (states.is_b p.info.kind) eb) ∙ may in absurd cc
  where
    second_false : (x b : Bool) → b ≡ true → ((not true || x) && not (b && not false)) ≡ false
    second_false true true e = refl
    second_false false true e = refl
    second_false x false e = absurd cc

pub first_none : (ps : Pictures) → all_stand 0 ps ≡ true → b_after 0 (frames_in ps) ≡ []
unfolding b_after all_stand
first_none [] h = refl
first_none (p ∷ ps) h =
    let parts = and_parts (may_stand 0 p) (all_stand (anchors_behind 0 p) ps) h in
    first_step p ps p.ends_frame (states.is_b p.info.kind) refl refl parts.0
    (λ off. let same : anchors_behind 0 p ≡ 0 = ap (λ (b : Bool). if b && not (states.is_b p.info.kind) then states.one_anchor_more 0 else 0) off in first_none ps (subst (λ (n : ℕ). all_stand n ps ≡ true) same parts.1))

-- pictures behind others show what they show by themselves, where no B picture stands before their first anchor
pub shown_append : (low : Bool) (ps qs : Pictures) → all_stand 0 qs ≡ true → shown low (ps ++ qs) ≡ shown low ps ++ shown low qs
shown_append low ps qs h =
    ap (λ (fs : List (Picture × ℕ)). raw_frames (Shown is_dropped low fs)) (frames_in-append ps qs)
    ∙ ap raw_frames (shown_order is_dropped low (frames_in ps) (frames_in qs) (first_none qs h))
    ∙ map-append _ (Shown is_dropped low (frames_in ps)) (Shown is_dropped low (frames_in qs))
