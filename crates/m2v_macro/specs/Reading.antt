-- What readers answer.
use Rattle.std.specs.Prelude.{◌≡◌, ℕ, ◌-◌, ◌^◌, Bool, List, length, min, IfOk, Result, Ok, Err, ℤ}
use Rattle.m2v_bits.specs.Bits.{Unread}
use Rattle.m2v_bits.specs.Syntax.{Gives}
use Rattle.m2v_vector.specs.Vectors.{scale, IsVector}
use Rattle.m2v_macro.specs.declared.fault.MacroFault.{MacroFault}
use Rattle.m2v_macro.specs.declared.values.MacroSyntax.{MacroSyntax}
use Rattle.m2v_macro.specs.declared.values.Selected.{Selected}
use Rattle.m2v_macro.specs.declared.values.Shape.{Shape}
use Rattle.m2v_macro.specs.Vectors.{component_at, selected_at}
use Rattle.m2v_macro.specs.Conditions.{IsSelected}

-- what the program keeps of an increment: what is greater passes each row's end
abbrev pub kept : ℕ → ℕ
kept n = min n (2 ^ 32 - 1)

-- a sum behind a code, or the fault, with the reader at its place
abbrev pub GivesRound : Result (Bool × ℕ) MacroFault → List Bool → Result ((Bool × ℕ) × List Bool) (MacroFault × ℕ) → Type 0
GivesRound (Ok x) rest read = (n : ℕ) × (x.1 ≡ kept n) × (read ≡ Ok ((x.0, n), rest))
GivesRound (Err e) rest read = read ≡ Err (e, length rest)

abbrev pub GivesSum : Result ℕ MacroFault → List Bool → Result (ℕ × List Bool) (MacroFault × ℕ) → Type 0
GivesSum (Ok x) rest read = (n : ℕ) × (x ≡ kept n) × (read ≡ Ok (n, rest))
GivesSum (Err e) rest read = read ≡ Err (e, length rest)

-- a macroblock that stands where the caller lent it, or the fault, with the reader at its place
abbrev pub GivesMacro : Result (Unit {0}) MacroFault → MacroSyntax → List Bool → Result (MacroSyntax × List Bool) (MacroFault × ℕ) → Type 0
GivesMacro (Ok _) m rest read = read ≡ Ok (m, rest)
GivesMacro (Err e) m rest read = read ≡ Err (e, length rest)

-- a component of a vector was read
pub record ReadsComponent (f_code : ℕ) (predictor : ℤ) (old new : Unread) (result : Result ℤ MacroFault) : Type 0 where
  pub exact : Gives result new.rest ((component_at f_code predictor).read old.rest)
  pub text : new.text ≡ old.text
  pub within : IfOk result (λ v. IsVector (scale f_code) v)

-- a vector was read, with its reference field bit
pub record ReadsSelected (shape : Shape) (f_code : List ℕ) (predictor : List ℤ) (old new : Unread) (result : Result Selected MacroFault) : Type 0 where
  pub exact : Gives result new.rest ((selected_at shape f_code predictor).read old.rest)
  pub text : new.text ≡ old.text
  pub selected : IfOk result (λ s. IsSelected shape f_code s)
