-- What holds in the pictures of this encoder holds as the crates below ask for it.
use Rattle.std.proofs.Common.{◌≡◌, ℕ, true, false, List, [], ◌∷◌, refl, arith, inl, inr}
use Rattle.std.proofs.lemmas.Int.{ints}
use Rattle.std.proofs.lemmas.Bool.{cases_lt}
use Rattle.m2v_vector.specs.declared.predictors.Pmv.{Pmv}
use Rattle.m2v_vector.specs.Predictors.{pair_of}
use Rattle.m2v_macro.specs.declared.values.SliceState.{SliceState}
use Rattle.m2v_macro.specs.declared.values.PictureContext.{PictureContext}
use Rattle.m2v_macro.specs.States.{at_start}
use Rattle.m2v_macro.specs.Macros.{f_codes_of}
use Rattle.m2v_macro.specs.Conditions.{is_used, AreScales, IsPair, ArePredictors, IsContext, IsReady}
use Rattle.m2v_choose.specs.Own.{IsOwn, AreNear, IsCode, IsOwnState}
use Rattle.m2v_choose.proofs.Kept.{zero_near}

-- the f_codes of a direction that is used are 2
pub used_forward : (c : PictureContext) → IsOwn c → is_used c 0 ≡ true → f_codes_of c 0 ≡ 2 ∷ 2 ∷ []
unfolding is_used
used_forward c own used = elim (cases_lt c.kind 2) [
  | inl less ↦
      let one : c.kind ≡ 1 = omega (arith, less, own.kind.0) in
      let none : false ≡ true = rw (one, own.concealment) at used in
      absurd cc
  | inr more ↦ elim (cases_lt c.kind 3) [
    | inl less ↦ let two : c.kind ≡ 2 = omega (arith, less, more) in rw own.f_code (rw two refl)
    | inr last ↦ let three : c.kind ≡ 3 = omega (arith, last, own.kind.1) in rw own.f_code (rw three refl)
  ]
]

pub used_backward : (c : PictureContext) → IsOwn c → is_used c 1 ≡ true → f_codes_of c 1 ≡ 2 ∷ 2 ∷ []
unfolding is_used
used_backward c own used = rw own.f_code (rw used refl)

scales : (f_code : List ℕ) → f_code ≡ 2 ∷ 2 ∷ [] → AreScales f_code
scales f_code e = rw e (record { horizontal = (omega arith, omega arith); vertical = (omega arith, omega arith) })

pub own_context : (c : PictureContext) → IsOwn c → IsContext c
own_context c own = record {
  kind = own.kind;
  structure = own.structure;
  columns = own.columns;
  precision = omega (arith, own.precision);
  forward = λ used. scales (f_codes_of c 0) (used_forward c own used);
  backward = λ used. scales (f_codes_of c 1) (used_backward c own used);
}

near_pair : (f_code : List ℕ) (p : Pmv) (entry direction : ℕ) → f_code ≡ 2 ∷ 2 ∷ [] → AreNear p.at → IsPair f_code (pair_of p.at entry direction)
near_pair f_code p entry direction e near =
    let x = near entry direction 0 in
    let y = near entry direction 1 in
    rw e (record {
      horizontal = (omega (arith, ints, x.0), omega (arith, ints, x.1));
      vertical = (omega (arith, ints, y.0), omega (arith, ints, y.1));
    })

near_predictors : (f_code : List ℕ) (p : Pmv) (direction : ℕ) → f_code ≡ 2 ∷ 2 ∷ [] → AreNear p.at → ArePredictors f_code p direction
near_predictors f_code p direction e near = record { first = near_pair f_code p 0 direction e near; second = near_pair f_code p 1 direction e near }

pub own_ready : (c : PictureContext) (st : SliceState) → IsOwn c → IsOwnState st → IsReady c st
own_ready c st own state = record {
  forward = λ used. near_predictors (f_codes_of c 0) st.pmv 0 (used_forward c own used) state.predictors;
  backward = λ used. near_predictors (f_codes_of c 1) st.pmv 1 (used_backward c own used) state.predictors;
  quantiser = state.quantiser;
}

pub start_own : (c : PictureContext) (row q next : ℕ) → IsCode q → IsOwnState (at_start c row q next)
unfolding at_start
start_own c row q next code = record { predictors = zero_near; quantiser = code }
