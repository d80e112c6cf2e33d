-- Candidates that are tried: what their bits are counted by, what they score, and which is the better one.
use Rattle.std.proofs.Common.{◌≡◌, ℕ, ◌+◌, ◌-◌, ◌*◌, ◌^◌, ◌<◌, ◌≤◌, Bool, true, false, ◌&&◌, not, All, List, [], ◌∷◌, ◌++◌, length, refl, ap, sym, ◌∙◌, subst, arith, ℤ, pos, neg_ℤ, ◌+ℤ◌}
use Rattle.std.specs.Prelude.{nat_eq, nat_le, nat_lt, if◌then◌else◌, int_le}
use Rattle.std.specs.List.{range_with_len, flat_map, list_all}
use Rattle.std.proofs.lemmas.Int.{ints}
use Rattle.std.proofs.lemmas.Bool.{and_parts, le-leb, lt-ltb, le-ltb, leb-true, ltb-true}
use Rattle.std.proofs.lemmas.List.{length-append}
use Rattle.std.proofs.lemmas.List.Sums.{AllPass-from_list_all}
use Rattle.std.proofs.lemmas.List.Elements.{All-nil, All-cons, All-head, All-tail, All-weaker}
use Rattle.m2v_quant.specs.declared.kind.Levels.{Levels}
use Rattle.m2v_quant.specs.Kinds.{IsLevel}
use Rattle.m2v_quant.specs.Matrices.{default_matrix, intra_matrix}
use Rattle.m2v_macroblock.specs.m2v_block.Texts.{block_text}
use Rattle.m2v_macro.specs.declared.values.MacroSyntax.{MacroSyntax}
use Rattle.m2v_macro.specs.declared.values.SliceState.{SliceState}
use Rattle.m2v_macro.specs.declared.values.PictureContext.{PictureContext}
use Rattle.m2v_macro.specs.States.{skips, pmv_before, dc_reset, dc_behind, after, column, not_past, in_order, may_skip}
use Rattle.m2v_macro.specs.Conditions.{IsStep, IsReady, IsAddress}
use Rattle.m2v_macro.specs.Texts.{macro_text}
use Rattle.m2v_recon.specs.Macro.{is_coded}
use Rattle.m2v_recon.specs.Steps.{levels_of}
use Rattle.m2v_macroblock.specs.Macroblocks.{Macroblock, kind_for, block_levels, predictor}
use Rattle.m2v_macroblock.specs.Modes.{skipped_mode}
use Rattle.m2v_macroblock.specs.Texts.{block_in_text, blocks_text, macroblock_text}
use Rattle.m2v_macroblock.specs.Predictions.{sample_at}
use Rattle.m2v_macroblock.specs.Conditions.{AreDc, IsMatrix, IsPicture}
use Rattle.m2v_pred.specs.declared.block.Block16.{Block16}
use Rattle.m2v_pred.specs.Predicted.{predicted, block_by}
use Rattle.m2v_choose.specs.declared.task.Task.{Task}
use Rattle.m2v_choose.specs.declared.trial.Best.{Best}
use Rattle.m2v_choose.specs.Decisions.{Decision, Candidate, place_of, increment_of, skipped, written}
use Rattle.m2v_choose.specs.Choice.{bits_taken, candidate_at, samples_of, squared, score, fits}
use Rattle.m2v_choose.specs.Own.{IsOwn, IsOwnState}
use Rattle.m2v_choose.specs.Trials.{as_first, References, decided, IsTask, candidate_of, rebuilt_by, Predicts, IsRated, Leader, leader_of, led, Tried}
use Rattle.m2v_choose.proofs.Chosen.{either}
use Rattle.m2v_choose.proofs.Leading.{led_on}
use Rattle.m2v_choose.proofs.Kept.{before_near}
use Rattle.m2v_choose.proofs.OwnReady.{own_context, own_ready}
use Rattle.m2v_choose.proofs.DcKept.{reset_own}

-- ---- the state in which a macroblock is the first

matrix_test : ℕ → Bool
matrix_test x = nat_le 1 x && nat_lt x (2 ^ 8)

intra_passes : list_all matrix_test (default_matrix true) ≡ true
unfolding matrix_test default_matrix intra_matrix
intra_passes = refl

other_passes : list_all matrix_test (default_matrix false) ≡ true
unfolding matrix_test default_matrix
other_passes = refl

passes_is : (x : ℕ) → matrix_test x ≡ true → (1 ≤ x) × (x < 2 ^ 8)
unfolding matrix_test
passes_is x e = let h = and_parts (nat_le 1 x) (nat_lt x (2 ^ 8)) e in (leb-true 1 x h.0, ltb-true x (2 ^ 8) h.1)

is_matrix : (xs : List ℕ) → list_all matrix_test xs ≡ true → IsMatrix xs
is_matrix xs e = All-weaker (λ x. matrix_test x ≡ true) (λ x. (1 ≤ x) × (x < 2 ^ 8)) passes_is xs (AllPass-from_list_all matrix_test xs e)

pub own_picture : (c : PictureContext) → IsOwn c → IsPicture c
own_picture c own = record {
  context = own_context c own;
  intra = subst IsMatrix (sym own.intra) (is_matrix (default_matrix true) intra_passes);
  non_intra = subst IsMatrix (sym own.non_intra) (is_matrix (default_matrix false) other_passes);
}

first_own : (c : PictureContext) (st : SliceState) (n : ℕ) → IsOwnState st → IsOwnState (as_first c st n)
unfolding as_first
first_own c st n own = record { predictors = before_near c st n own.predictors; quantiser = own.quantiser }

pub first_ready : (t : Task) → IsTask t → IsReady t.context.now t.first
first_ready t task =
    subst (IsReady t.context.now) (sym task.first)
    (own_ready t.context.now (as_first t.context.now t.state.now t.increment) task.asked.own (first_own t.context.now t.state.now t.increment task.asked.state))

pub first_address : (t : Task) → IsTask t → IsAddress t.first.address
unfolding as_first
first_address t task = subst (λ (st : SliceState). IsAddress st.address) (sym task.first) (omega (arith, ints), omega (arith, ints))

first_dc_of : (c : PictureContext) (st : SliceState) (n : ℕ) → IsOwn c → AreDc 0 st.dc → AreDc 0 (as_first c st n).dc
unfolding as_first
first_dc_of c st n own dc = either (AreDc 0) (skips st n) (dc_reset c) st.dc (reset_own c own.precision) dc

pub first_dc : (t : Task) → IsTask t → AreDc t.context.now.extension.dc_precision t.first.dc
first_dc t task =
    let h = first_dc_of t.context.now t.state.now t.increment task.asked.own task.asked.dc in
    subst (λ (p : ℕ). AreDc p t.first.dc) (sym task.asked.own.precision)
    (subst (λ (st : SliceState). AreDc 0 st.dc) (sym task.first) h)

-- a macroblock may stand there
step_at_first : (c : PictureContext) (st : SliceState) (n : ℕ) → 1 ≤ n → n ≤ c.columns → IsStep c (as_first c st n) n
unfolding as_first not_past in_order may_skip column skips
step_at_first c st n some most =
    let here : neg_ℤ (pos 1) +ℤ pos n ≡ pos (n - 1) = omega (arith, ints) in
    let same : int_le (pos (n - 1)) (pos (n - 1)) ≡ true = le-leb (n - 1) (n - 1) (omega arith) in
    let inside : nat_lt (n - 1) c.columns ≡ true = lt-ltb (n - 1) c.columns (omega arith) in
    record {
      some = some;
      near = ap (λ z. int_le z (pos (n - 1))) here ∙ same;
      order = ap (λ b. b && int_le (pos (n - 1)) (neg_ℤ (pos 1) +ℤ pos n)) inside ∙ ap (λ z. int_le (pos (n - 1)) z) here ∙ same;
      skip = refl;
    }

pub first_step : (t : Task) (r : References) → IsTask t → IsStep t.context.now t.first (increment_of (decided r t))
first_step t r task =
    subst (IsStep t.context.now t.first) (task.increment r)
    (subst (λ (st : SliceState). IsStep t.context.now st t.increment) (sym task.first) (step_at_first t.context.now t.state.now t.increment task.some task.most))

-- ---- the same text

same_dc : (intra skip : Bool) (dc reset : List ℤ) → (if intra && true then (if skip then reset else dc) else reset) ≡ (if intra && not skip then dc else reset)
same_dc true true dc reset = refl
same_dc true false dc reset = refl
same_dc false skip dc reset = refl

pub same_text : (c : PictureContext) (st : SliceState) (x : Macroblock) → macroblock_text c (as_first c st x.syntax.increment) x ≡ macroblock_text c st x
unfolding macroblock_text macro_text block_in_text as_first after dc_behind pmv_before skips
same_text c st x =
    let n = x.syntax.increment in
    let intra = x.syntax.kind.intra in
    let quantiser = if x.syntax.kind.quant then x.syntax.quantiser else st.quantiser in
    ap (λ (dc : List ℤ). macro_text c st x.syntax
    ++ flat_map (λ block. if is_coded x.syntax.pattern block then
    block_text (kind_for c intra (nat_lt block 4) quantiser) c.extension.intra_vlc_format (predictor dc x.levels block) (block_levels x.levels block)
    else []) (range_with_len 0 6))
    (same_dc intra (not st.first && not (nat_eq n 1)) st.dc (dc_reset c))

-- without its blocks
pub same_macro : (c : PictureContext) (st : SliceState) (m : MacroSyntax) → macro_text c (as_first c st m.increment) m ≡ macro_text c st m
unfolding macro_text as_first pmv_before skips
same_macro c st m = refl

-- so its bits are those of its elements and of its blocks
pub counted_is : (r : References) (t : Task) (m : MacroSyntax) (ls : List (List ℤ)) (header : ℕ) → IsTask t → m.increment ≡ t.increment → header ≡ length (macro_text t.context.now t.state.now m)
    → header + length (blocks_text t.context.now (after t.context.now t.first m) (record { syntax = m; levels = ls }) 0 6) ≡ bits_taken (decided r t) (written m ls)
unfolding bits_taken macroblock_text
counted_is r t m ls header task own e =
    let c = t.context.now in
    let st = t.state.now in
    let x : Macroblock = record { syntax = m; levels = ls } in
    let first : t.first ≡ as_first c st m.increment = task.first ∙ ap (as_first c st) (sym own) in
    let parts = λ (s : SliceState). length-append (macro_text c s m) (blocks_text c (after c s m) x 0 6) in
    omega (
      arith,
      e,
      ap length (same_macro c st m),
      ap (λ (s : SliceState). length (blocks_text c (after c s m) x 0 6)) first,
      parts (as_first c st m.increment),
      ap length (same_text c st x),
    )

-- ---- scores

module _ (d : Decision) (x : Candidate) (old : Best) (rated : IsRated d old) where
  -- one that doesn't fit is passed over
  pub left_out : fits d x ≡ false → Tried d old old (x ∷ [])
  unfolding led
  left_out e = record { best = rw e refl; rated = rated }

  not_better : (b : Bool) → old.below ≤ score d x
      → leader_of old ≡ (if b && nat_lt (score d x) old.below then record { candidate = x; below = score d x } else leader_of old)
  not_better true le = rw (le-ltb (score d x) old.below le) refl
  not_better false le = refl

  -- one that isn't better is left
  pub kept : old.below ≤ score d x → Tried d old old (x ∷ [])
  unfolding led
  kept le = record { best = not_better (fits d x) le; rated = rated }

  -- so it is where what is known of the best one stays
  pub passed : (new : Best) → leader_of new ≡ leader_of old → new.choice.bits ≡ old.choice.bits → new.choice.samples ≡ old.choice.samples → old.below ≤ score d x
      → Tried d old new (x ∷ [])
  unfolding led
  passed new same bits samples le =
      let candidate = λ (l : Leader). l.candidate in
      record {
        best = same ∙ not_better (fits d x) le;
        rated = record {
          bits = bits ∙ rated.bits ∙ ap (λ (l : Leader). bits_taken d l.candidate) (sym same);
          samples = ap (λ (b : Block16). b.at) samples ∙ rated.samples ∙ ap (λ (l : Leader). samples_of d l.candidate) (sym same);
        };
      }

  rated_as : (new : Best) → candidate_of new.choice ≡ x → new.choice.bits ≡ bits_taken d x → new.choice.samples.at ≡ samples_of d x → IsRated d new
  rated_as new same bits samples = record { bits = bits ∙ ap (bits_taken d) (sym same); samples = samples ∙ ap (samples_of d) (sym same) }

  is_better : (b : Bool) → b ≡ true → score d x < old.below
      → record { candidate = x; below = score d x } ≡ (if b && nat_lt (score d x) old.below then record { candidate = x; below = score d x } else leader_of old)
  is_better true e lt = rw (lt-ltb (score d x) old.below lt) refl
  is_better false e lt = absurd cc

  -- a better one is taken
  pub taken : (new : Best) → candidate_of new.choice ≡ x → new.choice.bits ≡ bits_taken d x → new.choice.samples.at ≡ samples_of d x
      → new.below ≡ score d x → fits d x ≡ true → new.below < old.below → Tried d old new (x ∷ [])
  unfolding led
  taken new same bits samples points e lt = record {
    best = (λ i. record { candidate = same i; below = points i }) ∙ is_better (fits d x) e (omega (arith, lt, points));
    rated = rated_as new same bits samples;
  }

pub fits_is : (d : Decision) (x : Candidate) (bits : ℕ) → bits ≡ bits_taken d x → (nat_le bits 4608 && nat_le bits d.limits.room) ≡ fits d x
unfolding fits
fits_is d x bits e = ap (λ n. nat_le n 4608 && nat_le n d.limits.room) e

-- what a written macroblock scores
pub written_score : (r : References) (t : Task) (m : MacroSyntax) (ls : List (List ℤ)) (prediction : List ℕ) → Predicts r t m prediction
    → score (decided r t) (written m ls)
    ≡ 8 * squared t.source.now.at (rebuilt_by t prediction (record { syntax = m; levels = ls })) + (2 * t.limits.now.q) ^ 2 * bits_taken (decided r t) (written m ls)
unfolding score candidate_at rebuilt_by
written_score r t m ls prediction e =
    ap (λ (p : List ℕ). 8 * squared t.source.now.at (block_by (sample_at t.context.now t.state.now p (record { syntax = m; levels = ls }))) + (2 * t.limits.now.q) ^ 2 * bits_taken (decided r t) (written m ls)) (sym e)

-- its samples
pub written_samples : (r : References) (t : Task) (m : MacroSyntax) (ls : List (List ℤ)) (prediction : List ℕ) → Predicts r t m prediction
    → rebuilt_by t prediction (record { syntax = m; levels = ls }) ≡ samples_of (decided r t) (written m ls)
unfolding candidate_at rebuilt_by
written_samples r t m ls prediction e = ap (λ (p : List ℕ). block_by (sample_at t.context.now t.state.now p (record { syntax = m; levels = ls }))) e

pub skipped_samples : (r : References) (t : Task) (prediction : List ℕ)
    → prediction ≡ block_by (predicted r.forward r.backward (skipped_mode t.context.now t.state.now) (place_of (decided r t)))
    → prediction ≡ samples_of (decided r t) skipped
unfolding candidate_at
skipped_samples r t prediction e = e

pub skipped_score : (r : References) (t : Task) (prediction : List ℕ)
    → prediction ≡ block_by (predicted r.forward r.backward (skipped_mode t.context.now t.state.now) (place_of (decided r t)))
    → score (decided r t) skipped ≡ 8 * squared t.source.now.at prediction
unfolding score candidate_at bits_taken
skipped_score r t prediction e =
    let none : 8 * squared t.source.now.at prediction + (2 * t.limits.now.q) ^ 2 * 0 ≡ 8 * squared t.source.now.at prediction = omega arith in
    ap (λ (p : List ℕ). 8 * squared t.source.now.at p + (2 * t.limits.now.q) ^ 2 * 0) (sym e) ∙ none

-- ---- one list behind another

pub tried_on : (d : Decision) (a b c : Best) (xs ys : List Candidate) → Tried d a b xs → Tried d b c ys → Tried d a c (xs ++ ys)
tried_on d a b c xs ys p q = record {
  best = q.best ∙ ap (λ (l : Leader). led d l ys) p.best ∙ sym (led_on d (leader_of a) xs ys);
  rated = q.rated;
}

pub tried_none : (d : Decision) (a : Best) → IsRated d a → Tried d a a []
unfolding led
tried_none d a rated = record { best = refl; rated = rated }

-- ---- levels of blocks

pub each_level : (ls : List Levels) → All (All IsLevel) (levels_of ls) → All (λ (l : Levels). All IsLevel l.at) ls
each_level [] h = All-nil (λ (l : Levels). All IsLevel l.at)
each_level (l ∷ ls) h = All-cons (λ (l : Levels). All IsLevel l.at) l ls (All-head (All IsLevel) l.at (levels_of ls) h) (each_level ls (All-tail (All IsLevel) l.at (levels_of ls) h))

-- the score as it is computed
pub points : (r : References) (t : Task) (m : MacroSyntax) (ls : List (List ℤ)) (prediction : List ℕ) (squares cost bits : ℕ) → Predicts r t m prediction
    → squares ≡ squared t.source.now.at (rebuilt_by t prediction (record { syntax = m; levels = ls })) → cost ≡ (2 * t.limits.now.q) ^ 2 * bits
    → bits ≡ bits_taken (decided r t) (written m ls) → 8 * squares + cost ≡ score (decided r t) (written m ls)
points r t m ls prediction squares cost bits predicts e g h =
    ap (λ (s : ℕ). 8 * s + cost) e
    ∙ ap (λ (k : ℕ). 8 * squared t.source.now.at (rebuilt_by t prediction (record { syntax = m; levels = ls })) + k) (g ∙ ap (λ (b : ℕ). (2 * t.limits.now.q) ^ 2 * b) h)
    ∙ sym (written_score r t m ls prediction predicts)

-- bits alone cost no more
pub cost_least : (r : References) (t : Task) (m : MacroSyntax) (ls : List (List ℤ)) (prediction : List ℕ) (cost bits : ℕ) → Predicts r t m prediction
    → cost ≡ (2 * t.limits.now.q) ^ 2 * bits → bits ≡ bits_taken (decided r t) (written m ls) → cost ≤ score (decided r t) (written m ls)
cost_least r t m ls prediction cost bits predicts g h =
    let s = squared t.source.now.at (rebuilt_by t prediction (record { syntax = m; levels = ls })) in
    let e = points r t m ls prediction s cost bits predicts refl g h in
    omega (arith, e)

-- a skipped macroblock takes no bits, so it fits
pub skipped_fits : (d : Decision) → fits d skipped ≡ true
unfolding fits bits_taken
skipped_fits d = rw (le-leb 0 d.limits.room (omega arith)) refl

pub skipped_bits : (d : Decision) → bits_taken d skipped ≡ 0
unfolding bits_taken
skipped_bits d = refl
