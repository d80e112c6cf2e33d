-- What stands on output where the writing of bytes ends early.
use Rattle.std.specs.Prelude.{◌≡◌, ℕ, List}
use Rattle.m2v_port.specs.Ends.{Change}
use Rattle.m2v_port.specs.Port.{GrowsByPrefix}
use Rattle.m2v_port.specs.declared.error.PortError.{PortError}
use Rattle.m2v_port.specs.declared.error.PortError.TheVariants as errors

-- A prefix of the bytes was written, and where the output failed its count rose.
pub record PutStops (bytes : List ℕ) (held : Change) (e : PortError) : Type 0 where
  pub failed : e ≡ errors.Failed → held.Failed
  pub grown : GrowsByPrefix held.old bytes held.new

-- an error of an output, by one's own errors for its failure and for want of memory
abbrev pub named : {E : Type 0} → PortError → E → E → E
named errors.Failed failed memory = failed
named errors.Memory failed memory = memory
