-- The faults of macroblocks, and the syntaxes of codes and flags that tell them.
use Rattle.std.specs.Prelude.{◌≡◌, List, Bool, Ok}
use Rattle.m2v_bits.specs.Syntax.{renamed}
use Rattle.m2v_bits.specs.Elements.{BitSyntax}
use Rattle.m2v_bits.specs.Elements as elements
use Rattle.m2v_vlc.specs.declared.values.CodeFault.{CodeFault}
use Rattle.m2v_vlc.specs.declared.values.CodeFault.TheVariants as codes
use Rattle.m2v_vlc.specs.Codes.{Row, code_at, begins}
use Rattle.m2v_macro.specs.declared.fault.MacroFault.{MacroFault}
use Rattle.m2v_macro.specs.declared.fault.MacroFault.TheVariants.{Code}

-- the fault of a code as one of a macroblock
unfoldable pub of_code : CodeFault → MacroFault
of_code e = Code e

-- the bits end inside an element
abbrev pub cut : MacroFault
cut = Code codes.Truncated

-- a flag of one bit
abbrev pub flag_at : BitSyntax MacroFault Bool
flag_at = elements.flag_at cut

-- a code of the table
abbrev pub coded : {V : Type 0} → List (Row V) → BitSyntax MacroFault V
coded table = renamed of_code (code_at codes.Truncated codes.NoCode table)

-- what a look at the text ahead tells; takes nothing
unfoldable pub look_at : (List Bool → Bool) → BitSyntax MacroFault Bool
look_at f = record { read = λ t. Ok (f t, t); Stands = λ v t rest. (v ≡ f t) × (rest ≡ t); Broken = λ t f. ⊥ }

-- whether these bits stand ahead
unfoldable pub ahead_at : List Bool → BitSyntax MacroFault Bool
ahead_at bits = look_at (begins bits)
