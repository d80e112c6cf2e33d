-- What a stream decodes to.
use Rattle.std.specs.Prelude.{◌≡◌, ℕ, List}
use Rattle.m2v_model.specs.declared.fault.FaultKind.{FaultKind}
use Rattle.m2v_model.specs.Decoding.{Decodes, FaultAt}

-- a text decodes to these frames and to nothing else, and no fault stands in it
pub record DecodesTo (text : List ℕ) (frames : List (List ℕ)) : Type 0 where
  pub decodes : Decodes text frames
  pub only : (shown : List (List ℕ)) → Decodes text shown → shown ≡ frames
  pub sound : (place : ℕ) (kind : FaultKind) → FaultAt text place kind → ⊥
