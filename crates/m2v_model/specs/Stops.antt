-- What readers inside a unit answer.
use Rattle.std.specs.Prelude.{◌≡◌, ℕ, Bool, List, Result, Ok, Err}
use Rattle.m2v_model.specs.declared.fault.FaultKind.{FaultKind}
use Rattle.m2v_model.specs.declared.stop.Stop.{Stop}

-- the value that stands there, or the fault and its place
abbrev pub Tells : {V : Type 0} → Result V Stop → List Bool → Result (V × List Bool) (FaultKind × ℕ) → Type 0
Tells (Ok v) rest read = read ≡ Ok (v, rest)
Tells (Err e) rest read = read ≡ Err (e.kind, e.left)
