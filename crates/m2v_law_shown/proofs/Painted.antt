-- The macroblocks of a slice, painted one after another, are its row.
use Rattle.std.proofs.Common.{◌≡◌, ◌≢◌, ℕ, zero, suc, ◌+◌, ◌-◌, ◌*◌, ◌<◌, ◌≤◌, Bool, true, false, ◌&&◌, not, cond, ◌⊎◌, inl, inr, List, [], ◌∷◌, ◌++◌, refl, sym, ap, subst, ◌∙◌, arith, pos, ◌-ℤ◌}
use Rattle.std.specs.Prelude.{nat_eq, nat_abs, replicate}
use Rattle.std.proofs.lemmas.Int.{ints}
use Rattle.std.proofs.lemmas.Bool.{cases_lt, ne_eqb, eqb-true}
use Rattle.std.proofs.lemmas.Nat.{div-mul-add, mod-mul-add}
use Rattle.m2v_plane.specs.declared.planes.Plane.{Plane}
use Rattle.m2v_plane.specs.declared.planes.Plane.TheVariants.{Y}
use Rattle.m2v_plane.specs.Sizes.{side}
use Rattle.m2v_plane.specs.Samples.{Samples, blank}
use Rattle.m2v_pred.specs.declared.mode.Mode.{Mode}
use Rattle.m2v_pred.specs.declared.mode.MbPlace.{MbPlace}
use Rattle.m2v_pred.specs.Vectors.{IsPlace}
use Rattle.m2v_pred.specs.Predicted.{predicted}
use Rattle.m2v_model.specs.m2v_macro.declared.values.SliceState.{SliceState}
use Rattle.m2v_model.specs.m2v_macro.declared.values.PictureContext.{PictureContext}
use Rattle.m2v_model.specs.m2v_macro.States.{address, skips, at_start, after}
use Rattle.m2v_model.specs.m2v_macroblock.Macroblocks.{Macroblock, after_macroblock}
use Rattle.m2v_model.specs.m2v_macroblock.Modes.{place_of, address_of, skipped_before, first_skipped, skipped_mode, mode_of}
use Rattle.m2v_model.specs.m2v_macroblock.Predictions.{prediction_of, sample_at}
use Rattle.m2v_slice.specs.m2v_choose.Decisions.{Decision, Candidate, increment_of}
use Rattle.m2v_slice.specs.m2v_choose.Decisions as decisions
use Rattle.m2v_slice.specs.m2v_choose.Choice.{choice_of}
use Rattle.m2v_slice.specs.Slices.{SliceTask, Begun, decision, with_candidate, begun}
use Rattle.m2v_slice.specs.Laws.{IsSlice, Keeps}
use Rattle.m2v_slice.specs.Steps.{HasReferences, CanPredict, CanCode, row_place}
use Rattle.m2v_slice.proofs.Choices.{choice_there}
use Rattle.m2v_slice.proofs.Candidates.{skipped_samples, written_samples}
use Rattle.m2v_slice.proofs.Keeps.{keeps_some, increment_is}
use Rattle.m2v_slice.proofs.Columns.{can_code}
use Rattle.m2v_model.specs.declared.setup.SliceSetup.{SliceSetup}
use Rattle.m2v_model.specs.Slices.{slice_start}
use Rattle.m2v_model.specs.Samples.{References, put_in_frame, all_painted}
use Rattle.m2v_model.specs.Painting.{IsPainted, lines_in, LiesIn, skipped_sample, IsPartOf, ArePartsOf, after_macroblocks}
use Rattle.m2v_model.proofs.Painting.{all_more}
use Rattle.m2v_enc_stream.specs.Slices.{setup_of, slice_read}
use Rattle.m2v_law_shown.specs.Views.{AreReferencesOf, HasRowOf}
use Rattle.m2v_law_shown.proofs.Reading.{predicted_same, block_same}
use Rattle.m2v_law_shown.proofs.Squares.{so_far, decided, lies_at}

-- ---- macroblocks one behind another

parts_append : (s : SliceSetup) (refs : References) (st : SliceState) (xs : List Macroblock) (x : Macroblock) (at : Plane → ℕ → ℕ → ℕ)
    → ArePartsOf s refs st xs at → IsPartOf s refs (after_macroblocks s.context st xs) x at → ArePartsOf s refs st (xs ++ x ∷ []) at
unfolding ArePartsOf after_macroblocks
parts_append s refs st [] x at are is = (is, tt)
parts_append s refs st (y ∷ ys) x at are is = (are.0, parts_append s refs (after_macroblock s.context st y) ys x at are.1 is)

behind_append : (c : PictureContext) (st : SliceState) (xs : List Macroblock) (x : Macroblock) → after_macroblocks c st (xs ++ x ∷ []) ≡ after_macroblock c (after_macroblocks c st xs) x
unfolding after_macroblocks
behind_append c st [] x = refl
behind_append c st (y ∷ ys) x = behind_append c (after_macroblock c st y) ys x

-- how many macroblocks are skipped before one
before_is : (first : Bool) (increment g : ℕ) → increment ≡ g + 1 → (first ≡ true → g ≡ 0) → cond (not first && not (nat_eq increment 1)) (increment - 1) 0 ≡ g
before_is true increment g e none = sym (none refl)
before_is false increment g e none = subst (λ (i : ℕ). cond (not (nat_eq i 1)) (i - 1) 0 ≡ g) (sym e) (counted g)
  where
    counted : (k : ℕ) → cond (not (nat_eq (k + 1) 1)) (k + 1 - 1) 0 ≡ k
    counted zero = refl
    counted (suc k) =
        let less : suc k + 1 - 1 ≡ suc k = omega arith in
        ap (λ (b : Bool). cond (not b) (suc k + 1 - 1) 0) (ne_eqb (suc k + 1) 1 (λ one. omega (arith, one))) ∙ less

either_same : (b : Bool) (x y z : List ℕ) → (b ≡ false → y ≡ z) → cond b x y ≡ cond b x z
either_same true x y z same = refl
either_same false x y z same = same refl

-- ---- states behind a macroblock

begun_suc : (t : SliceTask) (n : ℕ) → so_far t (suc n) ≡ with_candidate (decided t n) (so_far t n) (choice_of (decided t n))
unfolding begun
begun_suc t n = refl

skip_leaves : (e : Decision) (s : Begun) (x : Candidate) → x.skip ≡ true → ((with_candidate e s x).state ≡ e.state) × ((with_candidate e s x).macroblocks ≡ s.macroblocks)
unfolding with_candidate
skip_leaves e s x is = rw is (refl, refl)

write_leaves : (e : Decision) (s : Begun) (x : Candidate) → x.skip ≡ false
    → ((with_candidate e s x).state ≡ after_macroblock e.context e.state x.macroblock) × ((with_candidate e s x).macroblocks ≡ s.macroblocks ++ x.macroblock ∷ [])
unfolding with_candidate
write_leaves e s x is = rw is (refl, refl)

-- ---- addresses

first_of : (st : SliceState) (b n g : ℕ) → st.address ≡ pos (b + n) -ℤ pos (g + 1) → g ≤ n → first_skipped st + g ≡ b + n
first_of st b n g e le = omega (arith, ints, e, le)

last_of : (st : SliceState) (row width g : ℕ) → st.address ≡ pos (row * width + width) -ℤ pos (g + 1) → g ≡ 0 → first_skipped st ≡ suc row * width
last_of st row width g e none = omega (arith, ints, e, none)

first_start : (c : PictureContext) (row q : ℕ) → first_skipped (slice_start c row (row * c.columns) q) ≡ row * c.columns
unfolding slice_start at_start
first_start c row q = omega (arith, ints)

address_here : (st : SliceState) (b n g increment : ℕ) → st.address ≡ pos (b + n) -ℤ pos (g + 1) → increment ≡ g + 1 → nat_abs (address st increment) ≡ b + n
address_here st b n g increment e f = omega (arith, ints, e, f)

follows_of : (st : SliceState) (b n g increment first count : ℕ) → st.address ≡ pos (b + n) -ℤ pos (g + 1) → increment ≡ g + 1 → first + g ≡ b + n → count ≡ g
    → address st increment ≡ pos (first + count)
follows_of st b n g increment first count e f sum same = omega (arith, ints, e, f, sum, same)

one_more : (b n g h : ℕ) (new old : SliceState) → new ≡ old → new.address ≡ pos (b + suc n) -ℤ pos (g + 1) → old.address ≡ pos (b + n) -ℤ pos (h + 1) → g ≡ h + 1
one_more b n g h new old same e f = let at = ap (λ (st : SliceState). st.address) same in omega (arith, ints, e, f, at)

none_more : (b n g k h : ℕ) (new old : SliceState) (increment : ℕ) → new.address ≡ address old increment → new.address ≡ pos (b + suc n) -ℤ pos (g + 1)
    → old.address ≡ pos (b + n) -ℤ pos (h + 1) → increment ≡ h + 1 → k < g → ⊥
none_more b n g k h new old increment at e f is lt = omega (arith, ints, at, e, f, is, lt)

within_of : (n g : ℕ) → (g < n) ⊎ ((n ≡ 0) × (g ≡ 0)) → g ≤ n
within_of n g (inl less) = omega (arith, less)
within_of n g (inr is) = omega (arith, is.0, is.1)

first_none : (n g : ℕ) → (g < n) ⊎ ((n ≡ 0) × (g ≡ 0)) → nat_eq n 0 ≡ true → g ≡ 0
first_none n g (inl less) e = let none = eqb-true n 0 e in absurd (omega (arith, less, none))
first_none n g (inr is) e = is.1

-- ---- the macroblocks of a slice

module _ (t : SliceTask) (references : List Bool) (refs : References) (at : Plane → ℕ → ℕ → ℕ) (slice : IsSlice t) (views : AreReferencesOf t refs) (has : HasRowOf t at) where
  abbrev base : ℕ
  base = t.row * t.context.columns

  abbrev setup : SliceSetup
  setup = setup_of t references

  abbrev start : SliceState
  start = slice_start t.context t.row base t.q

  -- a picture of this type has forward references, or backward ones
  abbrev Ahead : Type 0
  Ahead = t.context.kind ≢ 1

  abbrev Behind : Type 0
  Behind = t.context.kind ≡ 3

  there : HasReferences t.context.kind t.source.dims (row_place t.context t.row) t.source.dims t.source.dims (λ plane lines line. Ahead) (λ plane lines line. Behind)
  there =
      let lies : IsPlace (row_place t.context t.row) t.source.dims = record { least = slice.own.structure.0; most = slice.own.structure.1; row = slice.row; column = omega (arith, slice.columns, slice.own.columns.0) } in
      record {
        forward = λ moves. record { lies = lies; near = λ l is. record { rows = λ plane line lt low high. moves } };
        forward_size = λ moves. refl;
        backward = λ three. record { lies = lies; near = λ l is. record { rows = λ plane line lt low high. three } };
        backward_size = λ three. refl;
      }

  module _ (n : ℕ) (small : n < t.context.columns) where
    can : CanCode (decided t n) t.source.dims t.source.dims (λ plane lines line. Ahead) (λ plane lines line. Behind)
    can = can_code t t.source.dims t.source.dims (λ plane lines line. Ahead) (λ plane lines line. Behind) slice there (blank t.source.dims 1) n small

    -- a prediction that stays inside is the same from the references
    same_prediction : (mode : Mode) → CanPredict (decided t n).dims (decisions.place_of (decided t n)) t.source.dims t.source.dims (λ plane lines line. Ahead) (λ plane lines line. Behind) mode
        → (plane : Plane) (line column : ℕ) → line < side plane → column < side plane
        → predicted refs.forward refs.backward mode (decisions.place_of (decided t n)) plane line column ≡ predicted t.forward t.backward mode (decisions.place_of (decided t n)) plane line column
    unfolding decision
    same_prediction mode h =
        predicted_same t.source.dims refs.forward t.forward refs.backward t.backward mode (decisions.place_of (decided t n)) h.some h.inside
        (λ e. views.forward (((h.forward e).own Y).upper 0 (omega arith)))
        (λ e. views.backward (((h.backward e).own Y).upper 0 (omega arith)))

    -- where the macroblock of this column lies
    place_is : place_of t.context (base + n) ≡ decisions.place_of (decided t n)
    unfolding decision
    place_is =
        let down = div-mul-add t.row t.context.columns n small in
        let across = mod-mul-add t.row t.context.columns n small in
        λ i. record { row = down i; column = across i; structure = t.context.extension.structure }

    skipped_is : (choice_of (decided t n)).skip ≡ true → LiesIn t.context (base + n) (skipped_sample setup refs (so_far t n).state (base + n)) at
    unfolding decision
    skipped_is e =
        lies_at t at slice has n small (skipped_sample setup refs (so_far t n).state (base + n))
        (λ plane line column low beside.
        ap (λ (p : MbPlace). predicted refs.forward refs.backward (skipped_mode t.context (so_far t n).state) p plane line column) place_is
        ∙ same_prediction (skipped_mode t.context (so_far t n).state) (can.skipped e) plane line column low beside
        ∙ ap (λ (f : Plane → ℕ → ℕ → ℕ). f plane line column) (skipped_samples (decided t n) (choice_of (decided t n)) e))

    prediction_is : (choice_of (decided t n)).skip ≡ false
        → prediction_of refs.forward refs.backward t.context (decisions.place_of (decided t n)) (choice_of (decided t n)).macroblock.syntax
        ≡ prediction_of t.forward t.backward t.context (decisions.place_of (decided t n)) (choice_of (decided t n)).macroblock.syntax
    unfolding prediction_of decision
    prediction_is e =
        let m = (choice_of (decided t n)).macroblock.syntax in
        either_same m.kind.intra (replicate 384 0) _ _ (λ other. block_same _ _ (same_prediction (mode_of t.context m) (can.written e other)))

    own_is : (choice_of (decided t n)).skip ≡ false
        → LiesIn t.context (base + n)
        (sample_at t.context (so_far t n).state (prediction_of refs.forward refs.backward t.context (place_of t.context (base + n)) (choice_of (decided t n)).macroblock.syntax) (choice_of (decided t n)).macroblock) at
    unfolding decision
    own_is e =
        let y = (choice_of (decided t n)).macroblock in
        let st = (so_far t n).state in
        lies_at t at slice has n small (sample_at t.context st (prediction_of refs.forward refs.backward t.context (place_of t.context (base + n)) y.syntax) y)
        (λ plane line column low beside.
        ap (λ (p : MbPlace). sample_at t.context st (prediction_of refs.forward refs.backward t.context p y.syntax) y plane line column) place_is
        ∙ ap (λ (samples : List ℕ). sample_at t.context st samples y plane line column) (prediction_is e)
        ∙ ap (λ (f : Plane → ℕ → ℕ → ℕ). f plane line column) (written_samples (decided t n) (choice_of (decided t n)) e))

  -- what is painted behind the first n macroblocks, with those that are skipped last still to come
  record SoFar (n : ℕ) : Type 0 where
    behind : after_macroblocks t.context start (so_far t n).macroblocks ≡ (so_far t n).state
    parts : ArePartsOf setup refs start (so_far t n).macroblocks at
    skipped : (g a k : ℕ) → Keeps t n g (so_far t n) → a + g ≡ base + n → k < g → LiesIn t.context (a + k) (skipped_sample setup refs (so_far t n).state (a + k)) at

  none_so_far : SoFar 0
  unfolding begun after_macroblocks ArePartsOf slice_start
  none_so_far = record {
    behind = refl;
    parts = tt;
    skipped = λ g a k keeps sum lt. absurd (none g k 0 refl keeps.within lt);
  }
    where
      none : (g k n : ℕ) → n ≡ 0 → (g < n) ⊎ ((n ≡ 0) × (g ≡ 0)) → k < g → ⊥
      none g k n e (inl less) lt = omega (arith, less, e)
      none g k n e (inr is) lt = omega (arith, is.1, lt)

  module _ (n : ℕ) (small : n < t.context.columns) (before : SoFar n) where
    old : (g : ℕ) × Keeps t n g (so_far t n)
    old = keeps_some t slice (blank t.source.dims 1) n (omega (arith, small))

    skip_step : (choice_of (decided t n)).skip ≡ true → SoFar (suc n)
    unfolding decision
    skip_step e =
        let leaves = skip_leaves (decided t n) (so_far t n) (choice_of (decided t n)) e in
        let state : (so_far t (suc n)).state ≡ (so_far t n).state = ap (λ (s : Begun). s.state) (begun_suc t n) ∙ leaves.0 in
        let blocks : (so_far t (suc n)).macroblocks ≡ (so_far t n).macroblocks = ap (λ (s : Begun). s.macroblocks) (begun_suc t n) ∙ leaves.1 in
        record {
          behind = ap (after_macroblocks t.context start) blocks ∙ before.behind ∙ sym state;
          parts = subst (λ (xs : List Macroblock). ArePartsOf setup refs start xs at) (sym blocks) before.parts;
          skipped = λ g a k keeps sum lt.
              let one = one_more base n g old.0 (so_far t (suc n)).state (so_far t n).state state keeps.address old.1.address in
              subst (λ (st : SliceState). LiesIn t.context (a + k) (skipped_sample setup refs st (a + k)) at) (sym state) (elim (cases_lt k old.0) [
                | inl less ↦ before.skipped old.0 a k old.1 (omega (arith, sum, one)) less
                | inr more ↦
                    let here : a + k ≡ base + n = omega (arith, sum, one, lt, more) in
                    subst (λ (b : ℕ). LiesIn t.context b (skipped_sample setup refs (so_far t n).state b) at) (sym here) (skipped_is n small e)
              ]);
        }

    part : (choice_of (decided t n)).skip ≡ false → IsPartOf setup refs (so_far t n).state (choice_of (decided t n)).macroblock at
    unfolding skips
    part e =
        let g = old.0 in
        let k = old.1 in
        let st = (so_far t n).state in
        let y = (choice_of (decided t n)).macroblock in
        let increment : y.syntax.increment ≡ g + 1 = (choice_there (decided t n)).increment e ∙ increment_is t slice n g (so_far t n) k.address in
        let first = first_of st base n g k.address (within_of n g k.within) in
        let count : skipped_before st y.syntax ≡ g = before_is st.first y.syntax.increment g increment (λ f. first_none n g k.within (sym k.first ∙ f)) in
        let here : address_of st y.syntax ≡ base + n = address_here st base n g y.syntax.increment k.address increment in
        record {
          follows = follows_of st base n g y.syntax.increment (first_skipped st) (skipped_before st y.syntax) k.address increment first count;
          skipped = λ i lt. before.skipped g (first_skipped st) i k first (omega (arith, lt, count));
          own = subst (λ (b : ℕ). LiesIn t.context b (sample_at t.context st (prediction_of refs.forward refs.backward t.context (place_of t.context b) y.syntax) y) at) (sym here) (own_is n small e);
        }

    write_step : (choice_of (decided t n)).skip ≡ false → SoFar (suc n)
    unfolding decision after_macroblock after
    write_step e =
        let y = (choice_of (decided t n)).macroblock in
        let c = t.context in
        let leaves = write_leaves (decided t n) (so_far t n) (choice_of (decided t n)) e in
        let state : (so_far t (suc n)).state ≡ after_macroblock c (so_far t n).state y = ap (λ (s : Begun). s.state) (begun_suc t n) ∙ leaves.0 in
        let blocks : (so_far t (suc n)).macroblocks ≡ (so_far t n).macroblocks ++ y ∷ [] = ap (λ (s : Begun). s.macroblocks) (begun_suc t n) ∙ leaves.1 in
        let increment : y.syntax.increment ≡ old.0 + 1 = (choice_there (decided t n)).increment e ∙ increment_is t slice n old.0 (so_far t n) old.1.address in
        record {
          behind = ap (after_macroblocks c start) blocks ∙ behind_append c start (so_far t n).macroblocks y ∙ ap (λ (st : SliceState). after_macroblock c st y) before.behind ∙ sym state;
          parts = subst (λ (xs : List Macroblock). ArePartsOf setup refs start xs at) (sym blocks)
              (parts_append setup refs start (so_far t n).macroblocks y at before.parts (subst (λ (st : SliceState). IsPartOf setup refs st y at) (sym before.behind) (part e)));
          skipped = λ g a k keeps sum lt.
              absurd (none_more base n g k old.0 (so_far t (suc n)).state (so_far t n).state y.syntax.increment (ap (λ (st : SliceState). st.address) state) keeps.address old.1.address increment lt);
        }

  all_so_far : (n : ℕ) → n ≤ t.context.columns → SoFar n
  all_so_far zero le = none_so_far
  all_so_far (suc n) le =
      let small : n < t.context.columns = omega (arith, le) in
      let before = all_so_far n (omega (arith, le)) in
      elim (choice_of (decided t n)).skip as (λ b. (choice_of (decided t n)).skip ≡ b → SoFar (suc n)) [
        | true ↦ λ e. skip_step n small before e
        | false ↦ λ e. write_step n small before e
      ] refl

  -- all macroblocks up to the row's end
  pub row_painted : (now : Samples) → IsPainted (lines_in t.context) t.source.dims (t.row * t.context.columns) at now
      → IsPainted (lines_in t.context) t.source.dims (suc t.row * t.context.columns) at
      (all_painted put_in_frame (setup_of t references) refs (slice_start t.context t.row (t.row * t.context.columns) t.q) (slice_read t).macroblocks now)
  unfolding slice_read
  row_painted now painted =
      let width = t.context.columns in
      let so = all_so_far width (omega arith) in
      let keeps = keeps_some t slice (blank t.source.dims 1) width (omega arith) in
      let xs = (so_far t width).macroblocks in
      let end : first_skipped (after_macroblocks t.context start xs) ≡ suc t.row * width =
      ap first_skipped so.behind ∙ last_of (so_far t width).state t.row width keeps.0 keeps.1.address (keeps.1.covers refl) in
      subst (λ (k : ℕ). IsPainted (lines_in t.context) t.source.dims k at (all_painted put_in_frame setup refs start xs now)) end
      (all_more setup refs start xs t.source.dims at now (omega (arith, slice.columns, slice.own.columns.0)) slice.columns so.parts
      (subst (λ (k : ℕ). IsPainted (lines_in t.context) t.source.dims k at now) (sym (first_start t.context t.row t.q)) painted))
