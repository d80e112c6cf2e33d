-- Where a chosen macroblock stands: it is skipped only where it may be, and its increment is that of its place.
use Rattle.std.proofs.Common.{◌≡◌, Bool, true, false, cond, All, List, [], ◌∷◌, ◌++◌, filter, map, refl}
use Rattle.std.specs.Prelude.{nat_eq}
use Rattle.std.specs.List.{flat_map}
use Rattle.std.proofs.lemmas.List.Elements.{All-nil, All-cons, All-append, All-map, All-filter}
use Rattle.m2v_choose.specs.Decisions.{Decision, Candidate, Prediction, Coding, increment_of, skipped, written, no_levels, intra_syntax, uncoded_syntax, coded_syntax}
use Rattle.m2v_choose.specs.Candidates.{held_intra, held_levels, hold, still_prediction, may_skip, codings, predictions, intra_by, uncoded_by, coded_by, has_block, by_prediction, others}
use Rattle.m2v_choose.specs.Choice.{score, fits, choice_of}
use Rattle.m2v_choose.proofs.m2v_search.Products.{least_in}
use Rattle.m2v_choose.proofs.m2v_search.Reached.{flat_all}
use Rattle.m2v_choose.proofs.Chosen.{either}

-- a candidate stands where it may
pub record StandsThere (d : Decision) (x : Candidate) : Type 0 where
  pub skip : x.skip ≡ true → may_skip d ≡ true
  pub increment : x.skip ≡ false → x.macroblock.syntax.increment ≡ increment_of d

pub all_of : {X : Type 0} (P : X → Type 0) → ((x : X) → P x) → (xs : List X) → All P xs
all_of P h [] = All-nil P
all_of P h (x ∷ xs) = All-cons P x xs (h x) (all_of P h xs)

module _ (d : Decision) where
  uncoded_there : (p : Prediction) → StandsThere d (written (uncoded_syntax d p) no_levels)
  unfolding uncoded_syntax
  uncoded_there p = record { skip = λ e. absurd cc; increment = λ e. refl }

  coded_there : (p : Prediction) (k : Coding) → StandsThere d (coded_by d p k)
  unfolding coded_by coded_syntax
  coded_there p k = record { skip = λ e. absurd cc; increment = λ e. refl }

  intra_there : (k : Coding) → StandsThere d (intra_by d k)
  unfolding intra_by intra_syntax
  intra_there k = record { skip = λ e. absurd cc; increment = λ e. refl }

  held_there : StandsThere d (written (held_intra d) (held_levels d))
  unfolding intra_syntax
  held_there = record { skip = λ e. absurd cc; increment = λ e. refl }

  prediction_there : (p : Prediction) → All (StandsThere d) (by_prediction d p)
  unfolding by_prediction uncoded_by
  prediction_there p =
      let P = StandsThere d in
      let bare = written (uncoded_syntax d p) no_levels in
      let coded = All-map P (coded_by d p) (codings d) (all_of (λ k. P (coded_by d p k)) (λ k. coded_there p k) (codings d)) in
      All-append P (cond p.uncoded (bare ∷ []) []) (filter has_block (map (coded_by d p) (codings d)))
      (either (All P) p.uncoded (bare ∷ []) [] (All-cons P bare [] (uncoded_there p) (All-nil P)) (All-nil P))
      (All-filter has_block P (map (coded_by d p) (codings d)) coded)

  skip_there : (b : Bool) → may_skip d ≡ b → All (StandsThere d) (cond b (skipped ∷ []) [])
  skip_there true e = All-cons (StandsThere d) skipped [] (record { skip = λ is. e; increment = λ is. absurd cc }) (All-nil (StandsThere d))
  skip_there false e = All-nil (StandsThere d)

  others_there : All (StandsThere d) (others d)
  unfolding others
  others_there =
      let P = StandsThere d in
      let skip = cond (may_skip d) (skipped ∷ []) [] in
      let intra = map (intra_by d) (codings d) in
      let intra_all = All-map P (intra_by d) (codings d) (all_of (λ k. P (intra_by d k)) (λ k. intra_there k) (codings d)) in
      All-append P (skip ++ intra) (flat_map (by_prediction d) (predictions d)) (All-append P skip intra (skip_there (may_skip d) refl) intra_all)
      (flat_all P (λ p. Unit {0}) (by_prediction d) (λ p h. prediction_there p) (predictions d) (all_of (λ p. Unit {0}) (λ p. tt) (predictions d)))

  hold_there : StandsThere d (hold d)
  unfolding hold
  hold_there =
      either (StandsThere d) (nat_eq d.context.kind 1) (written (held_intra d) (held_levels d)) (written (uncoded_syntax d (still_prediction d.context)) no_levels)
      held_there (uncoded_there (still_prediction d.context))

pub choice_there : (d : Decision) → StandsThere d (choice_of d)
unfolding choice_of
choice_there d =
    least_in (StandsThere d) (score d) (hold d) (filter (fits d) (others d)) (hold_there d) (All-filter (fits d) (StandsThere d) (others d) (others_there d))
