-- Codings of a prediction, as they are tried.
use Rattle.std.proofs.Common.{◌≡◌, ℕ, zero, suc, ◌<◌, Bool, true, false, cond, All, List, [], ◌∷◌, ◌++◌, filter, map, refl, ap, sym, ◌∙◌, subst, ℤ, inl, inr}
use Rattle.std.specs.Prelude.{nat_eq, nat_lt, slice_index_or}
use Rattle.std.proofs.lemmas.Bool.{cases_Bool, lt-ltb}
use Rattle.std.proofs.lemmas.List.{map-append}
use Rattle.std.proofs.lemmas.List.Elements.{All-nil, All-cons, All-head, All-tail, filter-append}
use Rattle.m2v_quant.specs.declared.kind.BlockKind.{BlockKind}
use Rattle.m2v_quant.specs.Kinds.{IsLevel}
use Rattle.m2v_macroblock.specs.m2v_block.Texts.{IsBlock}
use Rattle.m2v_macro.specs.declared.values.MacroSyntax.{MacroSyntax}
use Rattle.m2v_macro.specs.declared.values.SliceState.{SliceState}
use Rattle.m2v_macro.specs.declared.values.PictureContext.{PictureContext}
use Rattle.m2v_macro.specs.States.{after}
use Rattle.m2v_macro.specs.Conditions.{IsMacro}
use Rattle.m2v_pred.specs.declared.mode.MbPlace.{MbPlace}
use Rattle.m2v_recon.specs.Macro.{is_coded, kind_at}
use Rattle.m2v_macroblock.specs.Macroblocks.{kind_for, block_levels}
use Rattle.m2v_macroblock.specs.Modes.{mode_of, told_mode, opposite_parity_vectors}
use Rattle.m2v_macroblock.specs.Predictions.{View, prediction_of}
use Rattle.m2v_choose.specs.declared.task.Task.{Task}
use Rattle.m2v_choose.specs.declared.trial.Best.{Best}
use Rattle.m2v_choose.specs.Decisions.{Decision, Candidate, Prediction, Coding, place_of, written, levels_by, pattern_of, uncoded_syntax, coded_syntax, has_dct_type}
use Rattle.m2v_choose.specs.Candidates.{codings_at, codings, second_q, samples_by, coded_by, has_block}
use Rattle.m2v_choose.specs.Laws.{IsWritable}
use Rattle.m2v_choose.specs.Trials.{References, decided, Predicts, IsRated, Tried, sends_code, with_blocks, transforms_of, quantised_by}
use Rattle.m2v_choose.proofs.Written.{other_block, coded_some}
use Rattle.m2v_choose.proofs.Tried.{tried_on, tried_none}

-- ---- what can be written

pub each_block : (ls : List (List ℤ)) (b : ℕ) → All (All IsLevel) ls → All IsLevel (slice_index_or ls b [])
each_block [] b h = All-nil IsLevel
each_block (l ∷ ls) zero h = All-head (All IsLevel) l ls h
each_block (l ∷ ls) (suc b) h = each_block ls b (All-tail (All IsLevel) l ls h)

other_written : (c : PictureContext) (st : SliceState) (m : MacroSyntax) (ls : List (List ℤ)) (intra : Bool) → intra ≡ false → m.pattern ≡ pattern_of ls → All (All IsLevel) ls
    → (b : ℕ) → b < 6 → is_coded m.pattern b ≡ true → IsBlock (kind_for c intra (nat_lt b 4) (after c st m).quantiser) (block_levels ls b)
other_written c st m ls true other same within b lt e = absurd cc
other_written c st m ls false other same within b lt e =
    other_block c (nat_lt b 4) (after c st m).quantiser (block_levels ls b) (each_block ls b within)
    (coded_some ls b lt (ap (λ p. is_coded p b) (sym same) ∙ e))

pub coded_writable : (c : PictureContext) (st : SliceState) (m : MacroSyntax) (ls : List (List ℤ)) → m.kind.intra ≡ false → m.pattern ≡ pattern_of ls → All (All IsLevel) ls
    → IsMacro c st m → IsWritable c st (record { syntax = m; levels = ls })
coded_writable c st m ls other same within macro = record { macro = macro; blocks = other_written c st m ls m.kind.intra other same within; levels = within }

-- both kinds of blocks are of 8 bits
pub kinds_plain : (c : PictureContext) (intra : Bool) (q : ℕ) (kinds : List BlockKind) → c.extension.dc_precision ≡ 0
    → kinds ≡ kind_for c intra true q ∷ kind_for c intra false q ∷ [] → All (λ (kind : BlockKind). kind.precision ≡ 0) kinds
unfolding kind_for
kinds_plain c intra q kinds e same =
    let P = λ (kind : BlockKind). kind.precision ≡ 0 in
    subst (All P) (sym same) (All-cons P (kind_for c intra true q) (kind_for c intra false q ∷ []) e (All-cons P (kind_for c intra false q) [] e (All-nil P)))

-- ---- what is tried

pub same_levels : (d : Decision) (prediction : List ℕ) (intra : Bool) (k : Coding)
    → quantised_by (transforms_of d.source prediction k.dct_field) (kind_for d.context intra true k.q) (kind_for d.context intra false k.q) ≡ levels_by d prediction intra k
unfolding quantised_by transforms_of levels_by
same_levels d prediction intra k = refl

predicts_blocks : (f b : View) (c : PictureContext) (place : MbPlace) (m : MacroSyntax) (send : Bool) (q : ℕ) (dct : Bool) (pattern : ℕ)
    → prediction_of f b c place m ≡ prediction_of f b c place (with_blocks m send q dct pattern)
unfolding prediction_of mode_of told_mode opposite_parity_vectors
predicts_blocks f b c place m send q dct pattern = refl

pub none_coded : (x : Candidate) → x.macroblock.syntax.pattern ≡ 0 → filter has_block (x ∷ []) ≡ []
none_coded x e = rw e refl

pub some_coded : (x : Candidate) → 0 < x.macroblock.syntax.pattern → filter has_block (x ∷ []) ≡ x ∷ []
some_coded x lt = rw (lt-ltb 0 x.macroblock.syntax.pattern lt) refl

module _ (r : References) (t : Task) (p : Prediction) (bare : MacroSyntax) (same : bare ≡ uncoded_syntax (decided r t) p) where
  pub predicts : (prediction : List ℕ) (q : ℕ) (dct : Bool) (pattern : ℕ) → prediction ≡ samples_by (decided r t) p
      → Predicts r t (with_blocks bare (sends_code t.state.now q) q dct pattern) prediction
  unfolding samples_by
  predicts prediction q dct pattern samples =
      samples ∙ ap (prediction_of r.forward r.backward t.context.now (place_of (decided r t))) (sym same)
      ∙ predicts_blocks r.forward r.backward t.context.now (place_of (decided r t)) bare (sends_code t.state.now q) q dct pattern

  module _ (prediction : List ℕ) (transforms ls : List (List ℤ)) (q : ℕ) (dct : Bool) (kinds : List BlockKind) (samples : prediction ≡ samples_by (decided r t) p)
      (made : transforms ≡ transforms_of t.source.now.at prediction dct)
      (known : kinds ≡ kind_for t.context.now false true q ∷ kind_for t.context.now false false q ∷ [])
      (levels : ls ≡ quantised_by transforms (kind_at kinds 0) (kind_at kinds 1)) where
    levels_are : ls ≡ levels_by (decided r t) (samples_by (decided r t) p) false (record { q = q; dct_field = dct })
    levels_are =
        levels ∙ (λ i. quantised_by (made i) (kind_at (known i) 0) (kind_at (known i) 1))
        ∙ ap (λ (x : List ℕ). quantised_by (transforms_of t.source.now.at x dct) (kind_for t.context.now false true q) (kind_for t.context.now false false q)) samples
        ∙ same_levels (decided r t) (samples_by (decided r t) p) false (record { q = q; dct_field = dct })

    coded_is : written (with_blocks bare (sends_code t.state.now q) q dct (pattern_of ls)) ls ≡ coded_by (decided r t) p (record { q = q; dct_field = dct })
    unfolding coded_by coded_syntax uncoded_syntax
    coded_is = λ i. written (with_blocks (same i) (sends_code t.state.now q) q dct (pattern_of (levels_are i))) (levels_are i)

    pub coding_none : pattern_of ls ≡ 0 → (old : Best) → IsRated (decided r t) old
        → Tried (decided r t) old old (filter has_block (coded_by (decided r t) p (record { q = q; dct_field = dct }) ∷ []))
    coding_none e old rated =
        let x = coded_by (decided r t) p (record { q = q; dct_field = dct }) in
        let none : x.macroblock.syntax.pattern ≡ 0 = ap (λ (y : Candidate). y.macroblock.syntax.pattern) (sym coded_is) ∙ e in
        subst (Tried (decided r t) old old) (sym (none_coded x none)) (tried_none (decided r t) old rated)

    pub coding_some : 0 < pattern_of ls → (old new : Best)
        → Tried (decided r t) old new (written (with_blocks bare (sends_code t.state.now q) q dct (pattern_of ls)) ls ∷ [])
        → Tried (decided r t) old new (filter has_block (coded_by (decided r t) p (record { q = q; dct_field = dct }) ∷ []))
    coding_some some old new tried =
        let x = coded_by (decided r t) p (record { q = q; dct_field = dct }) in
        let e = ap (λ (y : Candidate). y.macroblock.syntax.pattern) (sym coded_is) in
        subst (Tried (decided r t) old new) (sym (some_coded x (subst (λ (n : ℕ). 0 < n) (sym e) some)))
        (subst (λ (y : Candidate). Tried (decided r t) old new (y ∷ [])) coded_is tried)

-- ---- codings in order

module _ (d : Decision) (p : Prediction) where
  one_coding : (q : ℕ) → has_dct_type d ≡ false → filter has_block (coded_by d p (record { q = q; dct_field = false }) ∷ []) ≡ filter has_block (map (coded_by d p) (codings_at d q))
  unfolding codings_at
  one_coding q e = by_test (has_dct_type d) e
    where
      by_test : (b : Bool) → b ≡ false
          → filter has_block (coded_by d p (record { q = q; dct_field = false }) ∷ []) ≡ filter has_block (map (coded_by d p) (record { q = q; dct_field = false } ∷ cond b (record { q = q; dct_field = true } ∷ []) []))
      by_test true is = absurd cc
      by_test false is = refl

  two_codings : (q : ℕ) → has_dct_type d ≡ true
      → filter has_block (coded_by d p (record { q = q; dct_field = false }) ∷ []) ++ filter has_block (coded_by d p (record { q = q; dct_field = true }) ∷ [])
      ≡ filter has_block (map (coded_by d p) (codings_at d q))
  unfolding codings_at
  two_codings q e = by_test (has_dct_type d) e
    where
      by_test : (b : Bool) → b ≡ true
          → filter has_block (coded_by d p (record { q = q; dct_field = false }) ∷ []) ++ filter has_block (coded_by d p (record { q = q; dct_field = true }) ∷ [])
          ≡ filter has_block (map (coded_by d p) (record { q = q; dct_field = false } ∷ cond b (record { q = q; dct_field = true } ∷ []) []))
      by_test true is = sym (filter-append has_block (coded_by d p (record { q = q; dct_field = false }) ∷ []) (coded_by d p (record { q = q; dct_field = true }) ∷ []))
      by_test false is = absurd cc

  pub tried_one : (q : ℕ) (old new : Best) → has_dct_type d ≡ false → Tried d old new (filter has_block (coded_by d p (record { q = q; dct_field = false }) ∷ []))
      → Tried d old new (filter has_block (map (coded_by d p) (codings_at d q)))
  tried_one q old new e tried = subst (Tried d old new) (one_coding q e) tried

  pub tried_two : (q : ℕ) (old mid new : Best) → has_dct_type d ≡ true → Tried d old mid (filter has_block (coded_by d p (record { q = q; dct_field = false }) ∷ []))
      → Tried d mid new (filter has_block (coded_by d p (record { q = q; dct_field = true }) ∷ [])) → Tried d old new (filter has_block (map (coded_by d p) (codings_at d q)))
  tried_two q old mid new e a b =
      subst (Tried d old new) (two_codings q e)
      (tried_on d old mid new (filter has_block (coded_by d p (record { q = q; dct_field = false }) ∷ [])) (filter has_block (coded_by d p (record { q = q; dct_field = true }) ∷ [])) a b)

  all_codings : (f : Coding → Candidate) (test : Bool) → test ≡ nat_eq (second_q d.limits.q) d.limits.q → (ys : List Coding) → cond test [] (codings_at d (second_q d.limits.q)) ≡ ys
      → map f (codings_at d d.limits.q) ++ map f ys ≡ map f (codings d)
  unfolding codings
  all_codings f test e ys same =
      sym (map-append f (codings_at d d.limits.q) ys)
      ∙ ap (λ (zs : List Coding). map f (codings_at d d.limits.q ++ zs)) (sym same ∙ ap (λ (b : Bool). cond b [] (codings_at d (second_q d.limits.q))) e)

  pub tried_once : (old new : Best) → nat_eq (second_q d.limits.q) d.limits.q ≡ true → Tried d old new (filter has_block (map (coded_by d p) (codings_at d d.limits.q)))
      → Tried d old new (filter has_block (map (coded_by d p) (codings d)))
  tried_once old new e tried =
      let f = coded_by d p in
      subst (Tried d old new) (ap (filter has_block) (nothing (map f (codings_at d d.limits.q)) ∙ all_codings f true (sym e) [] refl)) tried
    where
      nothing : (xs : List Candidate) → xs ≡ xs ++ []
      nothing [] = refl
      nothing (x ∷ xs) = ap (λ (ys : List Candidate). x ∷ ys) (nothing xs)

  pub tried_twice : (old mid new : Best) → nat_eq (second_q d.limits.q) d.limits.q ≡ false → Tried d old mid (filter has_block (map (coded_by d p) (codings_at d d.limits.q)))
      → Tried d mid new (filter has_block (map (coded_by d p) (codings_at d (second_q d.limits.q)))) → Tried d old new (filter has_block (map (coded_by d p) (codings d)))
  tried_twice old mid new e a b =
      let f = coded_by d p in
      let first = map f (codings_at d d.limits.q) in
      let second = map f (codings_at d (second_q d.limits.q)) in
      subst (Tried d old new)
      (sym (filter-append has_block first second) ∙ ap (filter has_block) (all_codings f false (sym e) (codings_at d (second_q d.limits.q)) refl))
      (tried_on d old mid new (filter has_block first) (filter has_block second) a b)

  -- none of the codings changes anything
  module _ (a : Best) (frame : (q : ℕ) → Tried d a a (filter has_block (coded_by d p (record { q = q; dct_field = false }) ∷ [])))
      (field : has_dct_type d ≡ true → (q : ℕ) → Tried d a a (filter has_block (coded_by d p (record { q = q; dct_field = true }) ∷ []))) where
    none_at : (q : ℕ) → Tried d a a (filter has_block (map (coded_by d p) (codings_at d q)))
    none_at q = elim (cases_Bool (has_dct_type d)) [
      | inl has ↦ tried_two q a a a has (frame q) (field has q)
      | inr not ↦ tried_one q a a not (frame q)
    ]

    pub tried_nothing : Tried d a a (filter has_block (map (coded_by d p) (codings d)))
    tried_nothing = elim (cases_Bool (nat_eq (second_q d.limits.q) d.limits.q)) [
      | inl same ↦ tried_once a a same (none_at d.limits.q)
      | inr other ↦ tried_twice a a a other (none_at d.limits.q) (none_at (second_q d.limits.q))
    ]
