-- Where the best candidate so far scores no more than three bits cost, none that comes behind hold and skip in a P or B picture
-- scores less.
use Rattle.std.proofs.Common.{◌≡◌, ℕ, zero, suc, ◌+◌, ◌-◌, ◌*◌, ◌/◌, ◌%◌, ◌^◌, ◌≤◌, ◌<◌, Bool, true, false, ◌⊎◌, inl, inr, All, List, [], ◌∷◌, ◌++◌, cond, filter, map, length, refl, arith}
use Rattle.std.specs.Prelude.{nat_le, nat_eq}
use Rattle.std.specs.List.{flat_map}
use Rattle.std.proofs.lemmas.Bool.{leb-true, lt-ltb, eq-eqb}
use Rattle.std.proofs.lemmas.List.{length-append}
use Rattle.std.proofs.lemmas.List.Elements.{All-nil, All-cons, All-head, All-tail, All-append}
use Rattle.std.proofs.Math.Nat.{mul-le-mul_left}
use Rattle.m2v_bits.specs.Bits.{bits_of}
use Rattle.m2v_bits.proofs.Bits.{length-bits_of}
use Rattle.m2v_vlc.specs.Codes.{code_of}
use Rattle.m2v_vlc.specs.Values.{same_increment}
use Rattle.m2v_vlc.specs.Tables.{increment, increment_code, type_p, type_b}
use Rattle.m2v_vlc.specs.declared.values.Increment.TheVariants.{Step}
use Rattle.m2v_vlc.proofs.ValueLaws.{below, agree}
use Rattle.m2v_macro.specs.declared.values.Direction.{Direction}
use Rattle.m2v_macro.specs.States.{after}
use Rattle.m2v_macro.specs.Texts.{macro_text, kind_text, increment_text, escapes_text, pattern_text}
use Rattle.m2v_macroblock.specs.Texts.{blocks_text, macroblock_text}
use Rattle.m2v_choose.specs.declared.trial.Best.{Best}
use Rattle.m2v_choose.specs.Decisions.{Decision, Candidate, Prediction, Coding, uncoded_syntax, coded_syntax, levels_by}
use Rattle.m2v_choose.specs.Candidates.{prediction, predictions_by, zero_prediction, plain_form, plain_direction, field_direction, codings, intra_by, uncoded_by, coded_by, samples_by, has_block, by_prediction}
use Rattle.m2v_choose.specs.Decisions.{has_dct_type}
use Rattle.m2v_choose.specs.Choice.{bits_taken, score}
use Rattle.m2v_choose.specs.Own.{IsOwn}
use Rattle.m2v_choose.specs.Trials.{IsRated, Tried, zero_predictions, later_predictions}
use Rattle.m2v_choose.proofs.Headers.{bare_kind, some_long, text_length}
use Rattle.m2v_choose.proofs.CheapestIntra.{intra_left}
use Rattle.m2v_choose.proofs.Stands.{first_of, second_of}
use Rattle.m2v_choose.proofs.Tried.{kept, tried_none, tried_on}
use Rattle.m2v_choose.proofs.Written.{pattern_most}

-- ---- bits

unfoldable has_bit : ℕ → Bool
has_bit k = nat_le 1 (length (increment_code (Step (k + 1))))

steps_told : below has_bit 33 ≡ below (λ k. true) 33
unfolding below has_bit increment code_of bits_of same_increment
steps_told = refl

-- an increment has a bit
increment_least : (n : ℕ) → 1 ≤ length (increment_text n)
unfolding increment_text has_bit
increment_least n =
    let k = (n - 1) % 33 in
    let step = leb-true 1 (length (increment_code (Step (k + 1)))) (agree has_bit (λ j. true) 33 k steps_told (omega arith)) in
    omega (arith, length-append (escapes_text ((n - 1) / 33)) (increment_code (Step (k + 1))), step)

-- a type without blocks has two: in a P picture forward, in a B picture in any direction
abbrev IsTold : ℕ → Prediction → Type 0
IsTold kind p = p.uncoded ≡ true → 2 ≤ length (kind_text kind (bare_kind p.has_forward p.has_backward))

forward_told : (kind : ℕ) → kind ≡ 2 → 2 ≤ length (kind_text kind (bare_kind true false))
unfolding kind_text type_p code_of
forward_told kind two = rw two (omega (arith, length-bits_of 3 1))

any_told : (kind : ℕ) → kind ≡ 3 → (f b : Bool) → cond f true b ≡ true → 2 ≤ length (kind_text kind (bare_kind f b))
unfolding kind_text type_b code_of
any_told kind three true true e = rw three (omega (arith, length-bits_of 2 2))
any_told kind three true false e = rw three (omega (arith, length-bits_of 4 2))
any_told kind three false true e = rw three (omega (arith, length-bits_of 3 2))
any_told kind three false false e = absurd cc

module _ (d : Decision) (best : Best) (rated : IsRated d best) (low : best.below ≤ (2 * d.limits.q) ^ 2 * 3) where
  scores : (x : Candidate) → 3 ≤ bits_taken d x → best.below ≤ score d x
  unfolding score
  scores x bits = omega (arith, low, mul-le-mul_left ((2 * d.limits.q) ^ 2) bits)

  uncoded_bits : (p : Prediction) → 2 ≤ length (kind_text d.context.kind (bare_kind p.has_forward p.has_backward)) → 3 ≤ bits_taken d (uncoded_by d p)
  unfolding bits_taken uncoded_by uncoded_syntax macroblock_text
  uncoded_bits p told =
      let x = (uncoded_by d p).macroblock in
      let c = d.context in
      omega (arith, length-append (macro_text c d.state x.syntax) (blocks_text c (after c d.state x.syntax) x 0 6), text_length c d.state x.syntax, told, increment_least x.syntax.increment)

  coded_bits : (p : Prediction) (k : Coding) → 0 < (coded_by d p k).macroblock.syntax.pattern → 3 ≤ bits_taken d (coded_by d p k)
  unfolding bits_taken coded_by coded_syntax uncoded_syntax macroblock_text pattern_text
  coded_bits p k some =
      let x = (coded_by d p k).macroblock in
      let c = d.context in
      let long = some_long x.syntax.pattern some (pattern_most (levels_by d (samples_by d p) false k)) in
      omega (arith, length-append (macro_text c d.state x.syntax) (blocks_text c (after c d.state x.syntax) x 0 6), text_length c d.state x.syntax, long)

  coded_next : (p : Prediction) (k : Coding) (xs : List Candidate) → Tried d best best (filter has_block xs) → (z : ℕ) → (coded_by d p k).macroblock.syntax.pattern ≡ z
      → Tried d best best (filter has_block (coded_by d p k ∷ xs))
  coded_next p k xs rest zero e = second_of (Tried d best best) (has_block (coded_by d p k)) (coded_by d p k ∷ filter has_block xs) (filter has_block xs) (rw e refl) rest
  coded_next p k xs rest (suc z) e =
      let x = coded_by d p k in
      let some : 0 < x.macroblock.syntax.pattern = omega (arith, e) in
      first_of (Tried d best best) (has_block x) (x ∷ filter has_block xs) (filter has_block xs) (lt-ltb 0 x.macroblock.syntax.pattern some)
      (tried_on d best best best (x ∷ []) (filter has_block xs) (kept d x best rated (scores x (coded_bits p k some))) rest)

  coded_left : (p : Prediction) (ks : List Coding) → Tried d best best (filter has_block (map (coded_by d p) ks))
  coded_left p [] = tried_none d best rated
  coded_left p (k ∷ ks) = coded_next p k (map (coded_by d p) ks) (coded_left p ks) (coded_by d p k).macroblock.syntax.pattern refl

  uncoded_left : (p : Prediction) (b : Bool) → (b ≡ true → 2 ≤ length (kind_text d.context.kind (bare_kind p.has_forward p.has_backward))) → Tried d best best (cond b (uncoded_by d p ∷ []) [])
  uncoded_left p true told = kept d (uncoded_by d p) best rated (scores (uncoded_by d p) (uncoded_bits p (told refl)))
  uncoded_left p false told = tried_none d best rated

  one_left : (p : Prediction) → IsTold d.context.kind p → Tried d best best (by_prediction d p)
  unfolding by_prediction
  one_left p told = tried_on d best best best (cond p.uncoded (uncoded_by d p ∷ []) []) (filter has_block (map (coded_by d p) (codings d))) (uncoded_left p p.uncoded told) (coded_left p (codings d))

  all_left : (ps : List Prediction) → All (IsTold d.context.kind) ps → Tried d best best (flat_map (by_prediction d) ps)
  all_left [] told = tried_none d best rated
  all_left (p ∷ ps) told =
      tried_on d best best best (by_prediction d p) (flat_map (by_prediction d) ps) (one_left p (All-head (IsTold d.context.kind) p ps told)) (all_left ps (All-tail (IsTold d.context.kind) p ps told))

  -- ---- predictions

  by_told : (kind : (d.context.kind ≡ 2) ⊎ (d.context.kind ≡ 3)) (form : ℕ) (f b : Direction) → All (IsTold d.context.kind) (predictions_by d form f b)
  unfolding predictions_by
  by_told (inl two) form f b =
      let x = prediction form true false f b in
      first_of (All (IsTold d.context.kind)) (nat_eq d.context.kind 2) (x ∷ []) (x ∷ prediction form false true f b ∷ prediction form true true f b ∷ []) (eq-eqb d.context.kind 2 two)
      (All-cons (IsTold d.context.kind) x [] (λ e. forward_told d.context.kind two) (All-nil (IsTold d.context.kind)))
  by_told (inr three) form f b =
      let x = prediction form true false f b in
      let y = prediction form false true f b in
      let z = prediction form true true f b in
      let P = IsTold d.context.kind in
      second_of (All P) (nat_eq d.context.kind 2) (x ∷ []) (x ∷ y ∷ z ∷ []) (rw three refl)
      (All-cons P x (y ∷ z ∷ []) (λ e. any_told d.context.kind three true false refl) (All-cons P y (z ∷ []) (λ e. any_told d.context.kind three false true refl) (All-cons P z [] (λ e. any_told d.context.kind three true true refl) (All-nil P))))

  fields_told : (b : Bool) (ps : List Prediction) → All (IsTold d.context.kind) ps → All (IsTold d.context.kind) (cond b ps [])
  fields_told true ps told = told
  fields_told false ps told = All-nil (IsTold d.context.kind)

  zero_told : (b : Bool) → All (IsTold d.context.kind) (cond b (zero_prediction d ∷ []) [])
  zero_told true = All-cons (IsTold d.context.kind) (zero_prediction d) [] (λ e. absurd cc) (All-nil (IsTold d.context.kind))
  zero_told false = All-nil (IsTold d.context.kind)

  later_told : (kind : (d.context.kind ≡ 2) ⊎ (d.context.kind ≡ 3)) → All (IsTold d.context.kind) (later_predictions d)
  unfolding later_predictions
  later_told kind =
      let P = IsTold d.context.kind in
      let y = predictions_by d (plain_form d.context) (plain_direction d d.forward) (plain_direction d d.backward) in
      let w = predictions_by d 1 (field_direction d d.forward) (field_direction d d.backward) in
      second_of (All P) (nat_eq d.context.kind 1) [] (y ++ cond (has_dct_type d) w []) (moves kind)
      (All-append P y (cond (has_dct_type d) w []) (by_told kind (plain_form d.context) (plain_direction d d.forward) (plain_direction d d.backward))
      (fields_told (has_dct_type d) w (by_told kind 1 (field_direction d d.forward) (field_direction d d.backward))))
    where
      moves : (d.context.kind ≡ 2) ⊎ (d.context.kind ≡ 3) → nat_eq d.context.kind 1 ≡ false
      moves (inl e) = rw e refl
      moves (inr e) = rw e refl

  pub later_left : (d.context.kind ≡ 2) ⊎ (d.context.kind ≡ 3) → Tried d best best (flat_map (by_prediction d) (later_predictions d))
  later_left kind = all_left (later_predictions d) (later_told kind)

  pub earlier_left : IsOwn d.context → (d.context.kind ≡ 2) ⊎ (d.context.kind ≡ 3) → Tried d best best (map (intra_by d) (codings d) ++ flat_map (by_prediction d) (zero_predictions d))
  earlier_left own kind =
      let cost : (2 * d.limits.q) ^ 2 * 3 ≤ (2 * d.limits.q) ^ 2 * 29 = mul-le-mul_left ((2 * d.limits.q) ^ 2) (let le : 3 ≤ 29 = omega arith in le) in
      tried_on d best best best (map (intra_by d) (codings d)) (flat_map (by_prediction d) (zero_predictions d))
      (intra_left d own kind best rated (omega (arith, low, cost)) (codings d))
      (all_left (zero_predictions d) (zero_told (nat_eq d.context.kind 2)))
