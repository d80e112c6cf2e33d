-- A macroblock leaves a state that the next one can go by.
use Rattle.std.proofs.Common.{◌≡◌, ℕ, zero, suc, ◌^◌, ◌≤◌, Bool, true, false, List, ℤ, pos, neg_ℤ, ◌≤ℤ◌, refl, sym, subst, inl, inr, arith}
use Rattle.std.specs.Prelude.{nat_eq, ◌||◌, slice_index, slice_index_or}
use Rattle.std.proofs.lemmas.Int.{ints}
use Rattle.std.proofs.lemmas.Bool.{cases_Bool, and_parts, eqb-true}
use Rattle.m2v_vlc.specs.declared.values.MbType.{MbType}
use Rattle.m2v_vlc.specs.Values.{has_type_i, has_type_p}
use Rattle.m2v_vector.specs.declared.predictors.Motion.{Motion}
use Rattle.m2v_vector.specs.Vectors.{scale, IsVector}
use Rattle.m2v_vector.specs.Predictors.{pair_of, has_vectors, AreSmall}
use Rattle.m2v_vector.proofs.Ranges.{powers, Small, zeros_small, two_small, all_small}
use Rattle.m2v_macro.specs.declared.values.MacroSyntax.{MacroSyntax}
use Rattle.m2v_macro.specs.declared.values.SliceState.{SliceState}
use Rattle.m2v_macro.specs.declared.values.PictureContext.{PictureContext}
use Rattle.m2v_macro.specs.declared.values.Shape.{Shape}
use Rattle.m2v_macro.specs.declared.values.Selected.{Selected}
use Rattle.m2v_macro.specs.declared.values.Direction.{Direction}
use Rattle.m2v_macro.specs.States.{is_field, motion, pmv_before, after}
use Rattle.m2v_macro.specs.Vectors.{shape_of, no_vector}
use Rattle.m2v_macro.specs.Macros.{is_concealed, f_codes_of}
use Rattle.m2v_macro.specs.Conditions.{IsContext, IsReady, AreScales, IsPair, IsHalf, IsSelected, IsDirection, IsMacro, has_type, is_used, forward_of, backward_of}
use Rattle.m2v_macro.proofs.Types.{of_i, of_p}
use Rattle.m2v_macro.proofs.Predicted.{Leaves, forward_after, backward_after, forward_before, backward_before}

-- ---- which directions a picture's types have

still_i : (v : MbType) → has_type_i v ≡ true → (v.forward ≡ false) × (v.backward ≡ false)
still_i v h = elim (cases_Bool v.intra) [
  | inl intra ↦ elim (cases_Bool v.forward) [
    | inl f ↦ absurd (let g = rw (intra, f) at h in cc)
    | inr f ↦ elim (cases_Bool v.backward) [ inl b ↦ absurd (let g = rw (intra, f, b) at h in cc) | inr b ↦ (f, b) ]
  ]
  | inr other ↦ absurd (let g = rw other at h in cc)
]

still_p : (v : MbType) → has_type_p v ≡ true → v.backward ≡ false
still_p v h = elim (cases_Bool v.backward) [
  | inr b ↦ b
  | inl b ↦ elim (cases_Bool v.intra) [
    | inl intra ↦ elim (cases_Bool v.forward) [ inl f ↦ absurd (let g = rw (b, intra, f) at h in cc) | inr f ↦ absurd (let g = rw (b, intra, f) at h in cc) ]
    | inr other ↦ absurd (let g = rw (b, other) at h in cc)
  ]
]

pub used_forward : (c : PictureContext) (v : MbType) → has_type c.kind v ≡ true → (v.forward || is_concealed c v) ≡ true → is_used c 0 ≡ true
unfolding is_used
used_forward c v h told = elim (cases_Bool (nat_eq c.kind 1)) [
  | inr other ↦ rw other refl
  | inl intra ↦
      let still = (still_i v (of_i c.kind v (eqb-true c.kind 1 intra) h)).0 in
      let hidden : is_concealed c v ≡ true = rw still at told in
      rw intra (and_parts v.intra c.extension.concealment hidden).1
]

pub used_backward : (c : PictureContext) (v : MbType) → 1 ≤ c.kind → c.kind ≤ 3 → has_type c.kind v ≡ true → v.backward ≡ true → is_used c 1 ≡ true
unfolding is_used
used_backward c v low high h told = elim (cases_Bool (nat_eq c.kind 1)) [
  | inl intra ↦ absurd (let still = (still_i v (of_i c.kind v (eqb-true c.kind 1 intra) h)).1 in cc)
  | inr not_i ↦ elim (cases_Bool (nat_eq c.kind 2)) [
    | inl forward ↦ absurd (let still = still_p v (of_p c.kind v (eqb-true c.kind 2 forward) h) in cc)
    | inr not_p ↦ let three : c.kind ≡ 3 = from c.kind low high not_i not_p in rw three refl
  ]
]
  where
    from : (kind : ℕ) → 1 ≤ kind → kind ≤ 3 → nat_eq kind 1 ≡ false → nat_eq kind 2 ≡ false → kind ≡ 3
    from zero l h a b = absurd (omega arith)
    from (suc zero) l h a b = absurd cc
    from (suc (suc zero)) l h a b = absurd cc
    from (suc (suc (suc n))) l h a b = omega arith

-- ---- ranges

number_small : (f_code : ℕ) (v : ℤ) → f_code ≤ 9 → IsVector (scale f_code) v → (neg_ℤ (pos (2 ^ 16)) ≤ℤ v) × (v ≤ℤ pos (2 ^ 16))
number_small f_code v most h = let f = powers f_code most in (omega (arith, ints, h.0, h.1, f.1), omega (arith, ints, h.0, h.1, f.1))

selected_small : (shape : Shape) (f_code : List ℕ) (s : Selected) → AreScales f_code → IsSelected shape f_code s → Small s.vector
selected_small shape f_code s scales h =
    subst (λ (v : List ℤ). Small v) (sym h.numbers)
    (two_small _ _ (number_small _ _ scales.horizontal.1 h.vector.horizontal) (number_small _ _ scales.vertical.1 h.vector.vertical))

none_small : (s : Selected) → s ≡ no_vector → Small s.vector
none_small s e = subst (λ (x : Selected). Small x.vector) (sym e) zeros_small

direction_small : (told : Bool) (shape : Shape) (f_code : List ℕ) (d : Direction) → (told ≡ true → AreScales f_code) → IsDirection told shape f_code d → Small d.first.vector × Small d.second.vector
direction_small told shape f_code d scales h = elim (cases_Bool told) [
  | inl on ↦ elim (cases_Bool shape.two) [
    | inl two ↦ (selected_small shape f_code d.first (scales on) (h.first on), selected_small shape f_code d.second (scales on) (h.second on two))
    | inr one ↦ (selected_small shape f_code d.first (scales on) (h.first on), none_small d.second (h.one on one))
  ]
  | inr off ↦ (none_small d.first (h.none off).0, none_small d.second (h.none off).1)
]

pub vectors_small : (c : PictureContext) (st : SliceState) (m : MacroSyntax) → IsContext c → IsMacro c st m → AreSmall m.vectors
vectors_small c st m ctx h =
    let forward = direction_small (m.kind.forward || is_concealed c m.kind) (shape_of (is_field c) m.form) (f_codes_of c 0) (forward_of m) (λ told. ctx.forward (used_forward c m.kind h.kind told)) h.forward in
    let backward = direction_small m.kind.backward (shape_of (is_field c) m.form) (f_codes_of c 1) (backward_of m) (λ told. ctx.backward (used_backward c m.kind ctx.kind.0 ctx.kind.1 h.kind told)) h.backward in
    subst (λ (x : MacroSyntax). AreSmall x.vectors) (sym h.arranged) (all_small _ _ _ _ forward.0 backward.0 forward.1 backward.1)

-- ---- the state behind

direction_leaves : (f_code : List ℕ) (m : Motion) (direction : ℕ) (d : Direction) → IsDirection (has_vectors m direction) (shape_of m.field_picture m.form) f_code d
    → d.first.vector ≡ pair_of m.vectors 0 direction → d.second.vector ≡ pair_of m.vectors 1 direction → Leaves f_code m direction
unfolding shape_of
direction_leaves f_code m direction d h first second =
    let half : List ℤ → Type 0 = λ (v : List ℤ). IsHalf (scale (slice_index f_code 1)) (slice_index_or v 1 (pos 0)) in
    record {
      first = λ told. subst (λ (v : List ℤ). IsPair f_code v) first (h.first told).vector;
      first_half = λ told halved. subst half first ((h.first told).half halved);
      second = λ told two. subst (λ (v : List ℤ). IsPair f_code v) second (h.second told two).vector;
      second_half = λ told two halved. subst half second ((h.second told two).half halved);
    }

forward_leaves : (c : PictureContext) (st : SliceState) (m : MacroSyntax) → IsMacro c st m → Leaves (f_codes_of c 0) (motion c m) 0
unfolding has_vectors
forward_leaves c st m h = direction_leaves (f_codes_of c 0) (motion c m) 0 (forward_of m) h.forward refl refl

backward_leaves : (c : PictureContext) (st : SliceState) (m : MacroSyntax) → IsMacro c st m → Leaves (f_codes_of c 1) (motion c m) 1
unfolding has_vectors
backward_leaves c st m h = direction_leaves (f_codes_of c 1) (motion c m) 1 (backward_of m) h.backward refl refl

pub ready_after : (c : PictureContext) (st : SliceState) (m : MacroSyntax) → IsReady c st → IsMacro c st m → IsReady c (after c st m)
unfolding after
ready_after c st m r h = record {
  forward = λ used. forward_after (f_codes_of c 0) (motion c m) (pmv_before c st m.increment) (forward_before (f_codes_of c 0) c st m.increment (r.forward used)) (forward_leaves c st m h);
  backward = λ used. backward_after (f_codes_of c 1) (motion c m) (pmv_before c st m.increment) (backward_before (f_codes_of c 1) c st m.increment (r.backward used)) (backward_leaves c st m h);
  quantiser = elim (cases_Bool m.kind.quant) [ inl told ↦ rw told (h.quantiser told) | inr kept ↦ rw kept r.quantiser ];
}
