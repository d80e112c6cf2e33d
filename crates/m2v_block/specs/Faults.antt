-- The faults of blocks, and the syntax of a code that tells them.
use Rattle.std.specs.Prelude.{List}
use Rattle.m2v_bits.specs.Syntax.{renamed}
use Rattle.m2v_bits.specs.Elements.{BitSyntax}
use Rattle.m2v_vlc.specs.declared.values.CodeFault.{CodeFault}
use Rattle.m2v_vlc.specs.declared.values.CodeFault.TheVariants as codes
use Rattle.m2v_vlc.specs.Codes.{Row, code_at}
use Rattle.m2v_block.specs.declared.fault.BlockFault.{BlockFault}
use Rattle.m2v_block.specs.declared.fault.BlockFault.TheVariants.{Code}

-- the fault of a code as one of a block
unfoldable pub of_code : CodeFault → BlockFault
of_code e = Code e

-- the bits end inside an element
abbrev pub cut : BlockFault
cut = Code codes.Truncated

-- a code of the table
abbrev pub coded : {V : Type 0} → List (Row V) → BitSyntax BlockFault V
coded table = renamed of_code (code_at codes.Truncated codes.NoCode table)
