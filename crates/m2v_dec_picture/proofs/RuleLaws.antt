-- The rules on what macroblocks are predicted from, by places of the row.
use Rattle.std.proofs.Common.{◌≡◌, ℕ, zero, suc, ◌+◌, ◌-◌, ◌*◌, ◌<◌, ◌≤◌, Bool, true, false, ◌&&◌, ◌||◌, not, refl, sym, ap, ◌∙◌, subst, arith, nat_eq, inl, inr}
use Rattle.std.specs.Prelude.{IsTrue, ◌⊎◌, ◌/◌, replicate, if◌then◌else◌}
use Rattle.m2v_plane.specs.declared.dims.Dims.{Dims}
use Rattle.m2v_plane.specs.declared.planes.Plane.TheVariants.{Y}
use Rattle.std.specs.List.{list_all, range_with_len}
use Rattle.std.proofs.lemmas.Bool.{and_parts, cases_Bool, eqb-true}
use Rattle.m2v_plane.specs.Sizes.{lines_of}
use Rattle.m2v_pred.specs.declared.mode.MbPlace.{MbPlace}
use Rattle.m2v_pred.specs.Motion.{own_lines}
use Rattle.m2v_pred.specs.Vectors.{IsPlace}
use Rattle.m2v_pred.specs.Inside.{is_inside}
use Rattle.m2v_macro.specs.declared.values.MacroSyntax.{MacroSyntax}
use Rattle.m2v_macro.specs.declared.values.SliceState.{SliceState}
use Rattle.m2v_macro.specs.declared.values.PictureContext.{PictureContext}
use Rattle.m2v_macro.specs.States.{skips, may_skip}
use Rattle.m2v_macro.specs.Conditions.{IsMacro}
use Rattle.m2v_plane.specs.Samples.{Samples}
use Rattle.m2v_pred.specs.Predicted.{predicted, block_by}
use Rattle.m2v_macroblock.specs.Predictions.{View, prediction_of}
use Rattle.m2v_macroblock.specs.Modes.{address_of, place_of, skipped_before, first_skipped, skipped_mode, mode_of, told_mode, without_motion_type}
use Rattle.m2v_model.specs.declared.setup.SliceSetup.{SliceSetup}
use Rattle.m2v_model.specs.Modes.{is_decoded, all_inside, references_decoded}
use Rattle.m2v_model.specs.Samples.{References, Put, skipped_painted}
use Rattle.m2v_dec_picture.specs.declared.gap.Gap.{Gap}
use Rattle.m2v_dec_picture.specs.Conditions.{IsSetup, IsState, rows_in, place_in, IsColumn, IsGap, CanPaint, CanPredict}
use Rattle.m2v_dec_picture.proofs.Ranges.{all_below, each_below}
use Rattle.m2v_dec_picture.proofs.RowLaws.{place_is}

row_lies : (structure rows row : ℕ) (d : Dims) → 1 ≤ structure → structure ≤ 3 → d.mb_rows ≡ rows → row < (if nat_eq structure 3 then rows else rows / 2) → 16 * row + 16 ≤ lines_of d Y (own_lines structure)
row_lies zero rows row d some most is lt = absurd (omega (arith, some))
row_lies (suc zero) rows row d some most is lt = rw is (omega (arith, lt))
row_lies (suc (suc zero)) rows row d some most is lt = rw is (omega (arith, lt))
row_lies (suc (suc (suc zero))) rows row d some most is lt = rw is (omega (arith, lt))
row_lies (suc (suc (suc (suc n)))) rows row d some most is lt = absurd (omega (arith, most))

-- a place of the row lies in the picture
pub lies : (s : SliceSetup) (row column : ℕ) → IsSetup s → row < rows_in s → column < s.context.columns → IsPlace (place_in s row column) s.dims
lies s row column h below small = record {
  least = h.picture.context.structure.0;
  most = h.picture.context.structure.1;
  row = row_lies s.context.extension.structure s.dims.mb_rows row s.dims h.picture.context.structure.0 h.picture.context.structure.1 refl below;
  column = rw h.columns small;
}

-- the places of a gap
pub gap_place : (s : SliceSetup) (row : ℕ) (st : SliceState) (m : MacroSyntax) (gap : Gap) → IsGap s.context row st m gap → (k : ℕ) → k < gap.count
    → place_of s.context (first_skipped st + k) ≡ place_in s row (gap.column + k)
gap_place s row st m gap h k lt =
    let first = h.first (omega (arith, lt)) in
    let within = h.within (omega (arith, lt)) in
    let moved : first_skipped st + k ≡ row * s.context.columns + (gap.column + k) = omega (arith, first) in
    ap (place_of s.context) moved ∙ place_is s row (gap.column + k) (omega (arith, within, lt))

false-true : false ≡ true → ⊥
false-true e = cc

same_tests : (f g : ℕ → Bool) (n : ℕ) → ((k : ℕ) → k < n → f k ≡ g k) → (a b : Bool) → list_all f (range_with_len 0 n) ≡ a → list_all g (range_with_len 0 n) ≡ b → a ≡ b
same_tests f g n same true true x y = refl
same_tests f g n same false false x y = refl
same_tests f g n same true false x y = absurd (false-true (sym y ∙ all_below g n (λ k lt. sym (same k lt) ∙ each_below f n k x lt)))
same_tests f g n same false true x y = absurd (false-true (sym x ∙ all_below f n (λ k lt. same k lt ∙ each_below g n k y lt)))

-- the tests of a gap by columns, and by addresses
gap_tests : (s : SliceSetup) (row : ℕ) (st : SliceState) (m : MacroSyntax) (gap : Gap) → IsGap s.context row st m gap
    → list_all (λ k. is_inside (skipped_mode s.context st) (place_in s row (gap.column + k)) s.dims) (range_with_len 0 gap.count)
    ≡ list_all (λ k. is_inside (skipped_mode s.context st) (place_of s.context (first_skipped st + k)) s.dims) (range_with_len 0 (skipped_before st m))
gap_tests s row st m gap h =
    let f = λ (k : ℕ). is_inside (skipped_mode s.context st) (place_in s row (gap.column + k)) s.dims in
    let g = λ (k : ℕ). is_inside (skipped_mode s.context st) (place_of s.context (first_skipped st + k)) s.dims in
    same_tests f g gap.count (λ k lt. ap (λ at. is_inside (skipped_mode s.context st) at s.dims) (sym (gap_place s row st m gap h k lt))) _ _ refl refl
    ∙ ap (λ n. list_all g (range_with_len 0 n)) h.count

-- the place of the macroblock itself
pub own_place : (s : SliceSetup) (row column : ℕ) (st : SliceState) (m : MacroSyntax) → IsColumn s.context row st m column → place_of s.context (address_of st m) ≡ place_in s row column
own_place s row column st m h = ap (place_of s.context) h.address ∙ place_is s row column h.below

-- the rule on what is read, by columns of the row
pub inside_by_columns : (s : SliceSetup) (row column : ℕ) (st : SliceState) (m : MacroSyntax) (gap : Gap) → IsGap s.context row st m gap → IsColumn s.context row st m column
    → (list_all (λ k. is_inside (skipped_mode s.context st) (place_in s row (gap.column + k)) s.dims) (range_with_len 0 gap.count) && is_inside (mode_of s.context m) (place_in s row column) s.dims)
    ≡ all_inside s st m
unfolding all_inside
inside_by_columns s row column st m gap g h =
    (λ i. gap_tests s row st m gap g i && is_inside (mode_of s.context m) (sym (own_place s row column st m h) i) s.dims)

-- what a macroblock that can be painted is predicted by
pub own_can : (s : SliceSetup) (row column : ℕ) (st : SliceState) (m : MacroSyntax) → IsSetup s → row < rows_in s → CanPaint s st m → IsColumn s.context row st m column
    → IsTrue (mode_of s.context m).forward ⊎ IsTrue (mode_of s.context m).backward → CanPredict s (mode_of s.context m) (place_in s row column)
unfolding all_inside references_decoded
own_can s row column st m h below can col some =
    let skipped = list_all (λ k. is_inside (skipped_mode s.context st) (place_of s.context (first_skipped st + k)) s.dims) (range_with_len 0 (skipped_before st m)) in
    let own = is_inside (mode_of s.context m) (place_of s.context (address_of st m)) s.dims in
    let before = nat_eq (skipped_before st m) 0 || is_decoded s.references s.context.extension.structure (skipped_mode s.context st) in
    record {
      some = some;
      place = lies s row column h below col.below;
      inside = subst (λ (at : MbPlace). is_inside (mode_of s.context m) at s.dims ≡ true) (own_place s row column st m col) (and_parts skipped own can.inside).1;
      decoded = (and_parts before (is_decoded s.references s.context.extension.structure (mode_of s.context m)) can.decoded).1;
    }

or_given : (n : ℕ) (test : Bool) → 0 < n → (nat_eq n 0 || test) ≡ true → test ≡ true
or_given zero test some e = absurd (omega (arith, some))
or_given (suc n) test some e = grind arith

-- and what those of a gap are predicted by
pub gap_can : (s : SliceSetup) (row : ℕ) (st : SliceState) (m : MacroSyntax) (gap : Gap) → IsSetup s → row < rows_in s → CanPaint s st m → IsGap s.context row st m gap
    → IsTrue (skipped_mode s.context st).forward ⊎ IsTrue (skipped_mode s.context st).backward → (k : ℕ) → k < gap.count
    → CanPredict s (skipped_mode s.context st) (place_in s row (gap.column + k))
unfolding all_inside references_decoded
gap_can s row st m gap h below can g some k lt =
    let mode = skipped_mode s.context st in
    let test = λ (k : ℕ). is_inside mode (place_of s.context (first_skipped st + k)) s.dims in
    let own = is_inside (mode_of s.context m) (place_of s.context (address_of st m)) s.dims in
    let within = g.within (omega (arith, lt)) in
    let n = skipped_before st m in
    let known = is_decoded s.references s.context.extension.structure mode in
    let small : k < n = subst (λ (c : ℕ). k < c) g.count lt in
    record {
      some = some;
      place = lies s row (gap.column + k) h below (omega (arith, within, lt));
      inside = subst (λ (at : MbPlace). is_inside mode at s.dims ≡ true) (gap_place s row st m gap g k lt)
          (each_below test n k (and_parts (list_all test (range_with_len 0 n)) own can.inside).0 small);
      decoded = or_given n known (omega (arith, small)) (and_parts (nat_eq n 0 || known) (is_decoded s.references s.context.extension.structure (mode_of s.context m)) can.decoded).0;
    }

-- a macroblock that isn't intra has a direction, or goes forward
pub own_some : (s : SliceSetup) (st : SliceState) (m : MacroSyntax) → m.kind.intra ≡ false → IsTrue (mode_of s.context m).forward ⊎ IsTrue (mode_of s.context m).backward
unfolding mode_of told_mode without_motion_type
own_some s st m e = by_direction m.kind.forward m.kind.backward refl refl
  where
    by_direction : (f b : Bool) → m.kind.forward ≡ f → m.kind.backward ≡ b → IsTrue (mode_of s.context m).forward ⊎ IsTrue (mode_of s.context m).backward
    by_direction true b ef eb = inl (rw (e, ef) refl)
    by_direction false true ef eb = inr (rw (e, ef, eb) refl)
    by_direction false false ef eb = inl (rw (e, ef, eb) refl)

-- ---- painting a gap

pub in_gap : (c : PictureContext) (row : ℕ) (st : SliceState) (m : MacroSyntax) (gap : Gap) → IsGap c row st m gap → (k : ℕ) → k < gap.count → gap.column + k < c.columns
in_gap c row st m gap g k lt = let within = g.within (omega (arith, lt)) in omega (arith, within, lt)

some_skipped : (st : SliceState) (increment : ℕ) (test : Bool) → skips st increment ≡ test → 0 < (if test then increment - 1 else 0) → skips st increment ≡ true
some_skipped st increment true e some = e
some_skipped st increment false e some = absurd (omega (arith, some))

no_more : (b : Bool) → not b ≡ true → b ≡ false
no_more true e = absurd cc
no_more false e = refl

one_of : (a b : Bool) → (a || b) ≡ true → IsTrue a ⊎ IsTrue b
one_of true b e = inl refl
one_of false b e = inr e

not_intra : (kind : ℕ) (skips intra : Bool) → kind ≡ 3 → skips ≡ true → (not skips || (nat_eq kind 2 || (nat_eq kind 3 && not intra))) ≡ true → intra ≡ false
not_intra kind skips true is e h = absurd (false-true (rw (is, e) at h))
not_intra kind skips false is e h = refl

-- where a macroblock is skipped, those skipped have a direction
pub gap_some : (s : SliceSetup) (row : ℕ) (st : SliceState) (m : MacroSyntax) (gap : Gap) → IsState s.context row st → IsMacro s.context st m → IsGap s.context row st m gap → (k : ℕ) → k < gap.count
    → IsTrue (skipped_mode s.context st).forward ⊎ IsTrue (skipped_mode s.context st).backward
unfolding skipped_mode without_motion_type may_skip skips
gap_some s row st m gap h fits g k lt =
    let kind = s.context.kind in
    let count : 0 < skipped_before st m = omega (arith, lt, g.count) in
    let skip = some_skipped st m.increment (skips st m.increment) refl count in
    let first = no_more st.first (and_parts (not st.first) (not (nat_eq m.increment 1)) skip).0 in
    elim (cases_Bool (nat_eq kind 3)) [
      | inl e ↦
          let is = eqb-true kind 3 e in
          let intra = not_intra kind (skips st m.increment) st.intra is skip fits.step.skip in
          rw e (one_of st.forward st.backward (h.direction is first intra))
      | inr e ↦ rw e (inl refl)
    ]

-- one more macroblock of a gap
pub gap_painted : (put : Put) (s : SliceSetup) (refs : References) (st : SliceState) (at k count : ℕ) (now : Samples) → k < count
    → skipped_painted put s refs st (at + (k + 1)) (count - (k + 1)) (put (place_of s.context (at + k)) (predicted refs.forward refs.backward (skipped_mode s.context st) (place_of s.context (at + k))) now)
    ≡ skipped_painted put s refs st (at + k) (count - k) now
unfolding skipped_painted
gap_painted put s refs st at k count now lt =
    let e : count - k ≡ suc (count - (k + 1)) = omega (arith, lt) in
    let f : at + (k + 1) ≡ at + k + 1 = omega arith in
    rw (e, f) refl

pub gap_over : (put : Put) (s : SliceSetup) (refs : References) (st : SliceState) (at k count : ℕ) (now : Samples) → count ≤ k → skipped_painted put s refs st at (count - k) now ≡ now
unfolding skipped_painted
gap_over put s refs st at k count now le = let e : count - k ≡ 0 = omega (arith, le) in rw e refl

pub gap_none : (put : Put) (s : SliceSetup) (refs : References) (st : SliceState) (at count : ℕ) (now : Samples) → count ≡ 0 → skipped_painted put s refs st at count now ≡ now
unfolding skipped_painted
gap_none put s refs st at count now e = rw e refl

-- the prediction of a macroblock that isn't intra
pub own_prediction : (f b : View) (c : PictureContext) (at : MbPlace) (m : MacroSyntax) → m.kind.intra ≡ false → prediction_of f b c at m ≡ block_by (predicted f b (mode_of c m) at)
unfolding prediction_of
own_prediction f b c at m e = by_intra m.kind.intra e
  where
    by_intra : (intra : Bool) → intra ≡ false → (if intra then replicate 384 0 else block_by (predicted f b (mode_of c m) at)) ≡ block_by (predicted f b (mode_of c m) at)
    by_intra true e = absurd cc
    by_intra false e = refl
