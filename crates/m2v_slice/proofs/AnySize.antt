-- The choice in a picture without references doesn't depend on the size of the frame.
use Rattle.std.proofs.Common.{◌≡◌, ◌≢◌, Bool, true, false, ◌&&◌, not, List, [], ◌++◌, filter, map, refl, ap, sym, ◌∙◌, inl, inr}
use Rattle.std.proofs.lemmas.Bool.{cases_eq}
use Rattle.m2v_plane.specs.declared.dims.Dims.{Dims}
use Rattle.m2v_choose.specs.m2v_search.Least.{least}
use Rattle.m2v_choose.specs.Decisions.{Decision, Candidate, increment_of, intra_syntax, uncoded_syntax, levels_by}
use Rattle.m2v_choose.specs.Candidates.{hold, held_levels, may_skip, codings, codings_at, intra_by, others}
use Rattle.m2v_choose.specs.Choice.{bits_taken, candidate_at, samples_of, score, fits, choice_of}
use Rattle.m2v_choose.proofs.InsideLaws.{no_predictions}

sized : Dims → Decision → Decision
sized x d = record d { dims = x }

same_score : (x : Dims) (d : Decision) → score (sized x d) ≡ score d
unfolding sized score bits_taken candidate_at
same_score x d = refl

same_fits : (x : Dims) (d : Decision) → fits (sized x d) ≡ fits d
unfolding sized fits bits_taken
same_fits x d = refl

same_hold_ : (x : Dims) (d : Decision) → hold (sized x d) ≡ hold d
unfolding sized hold held_levels intra_syntax uncoded_syntax increment_of
same_hold_ x d = refl

no_skip : (d : Decision) → d.context.kind ≡ 1 → may_skip d ≡ false
unfolding may_skip
no_skip d e = rw e (last (not d.limits.first && not d.limits.last))
  where
    last : (b : Bool) → (b && false) ≡ false
    last true = refl
    last false = refl

others_one : (d : Decision) → d.context.kind ≡ 1 → others d ≡ map (intra_by d) (codings d) ++ []
unfolding others
others_one d e = rw (no_skip d e, no_predictions d e) refl

same_intra : (x : Dims) (d : Decision) → map (intra_by (sized x d)) (codings (sized x d)) ≡ map (intra_by d) (codings d)
unfolding sized intra_by codings codings_at levels_by intra_syntax increment_of
same_intra x d = refl

same_kind : (x : Dims) (d : Decision) → (sized x d).context.kind ≡ d.context.kind
unfolding sized
same_kind x d = refl

one_choice : (x : Dims) (d : Decision) → d.context.kind ≡ 1 → choice_of (sized x d) ≡ choice_of d
unfolding choice_of
one_choice x d e =
    let all : others (sized x d) ≡ others d = others_one (sized x d) (same_kind x d ∙ e) ∙ ap (λ (xs : List Candidate). xs ++ []) (same_intra x d) ∙ sym (others_one d e) in
    λ i. least (same_score x d i) (same_hold_ x d i) (filter (same_fits x d i) (all i))

-- where the size is the frame's, or isn't looked at
pub same_choice : (x : Dims) (d : Decision) → (d.context.kind ≢ 1 → x ≡ d.dims) → choice_of (record d { dims = x }) ≡ choice_of d
unfolding sized
same_choice x d h = elim (cases_eq d.context.kind 1) [
  | inl e ↦ one_choice x d e
  | inr other ↦ ap (λ (y : Dims). choice_of (record d { dims = y })) (h other)
]

pub same_hold : (x : Dims) (d : Decision) → bits_taken (record d { dims = x }) (hold (record d { dims = x })) ≡ bits_taken d (hold d)
unfolding sized bits_taken
same_hold x d = ap (bits_taken d) (same_hold_ x d)

pub same_samples : (x : Dims) (d : Decision) (y : Candidate) → samples_of (record d { dims = x }) y ≡ samples_of d y
unfolding candidate_at
same_samples x d y = refl
