-- The place for a file beside output: what a command that was given its name does to it, and one that wasn't.
use Rattle.std.specs.Prelude.{◌≡◌, IsTrue, IsFalse, IfSome, Option, Some, None}
use Rattle.clap.specs.Walk.{Text}
use Rattle.m2v_port.specs.Ends.{Change, absent}
use Rattle.m2v_port.specs.declared.error.PortError.{PortError}
use Rattle.m2v_port.specs.declared.error.PortError.TheVariants as calls
use Rattle.m2v_tool.specs.Runs.{Work}

-- what was done to recon: it counts as it was where it holds what it held
abbrev pub opened : Change → Change
opened c = record { old = c.old; new = c.new; Failed = c.Failed; Unchanged = c.new ≡ c.old }

-- where no name is given nothing is done to it
abbrev pub recon_by : Option Text → Change → Change
recon_by (Some name) c = opened c
recon_by None c = absent

-- it is open under the name that is given; where none is, it is as it was, its count too
abbrev pub Stands : Option Text → Work → Type 0
Stands (Some name) k = IsTrue k.place.ready × IfSome k.place.name (λ told. told ≡ name)
Stands None k = k.recon.Unchanged

-- it wasn't opened, and nothing else was looked at
abbrev pub Shut : PortError → Work → Type 0
Shut calls.Failed k =
    k.recon.Failed × IsFalse k.place.ready × (k.recon.new ≡ k.recon.old)
    × k.input.Unchanged × k.output.Unchanged
Shut calls.Memory k =
    IsFalse k.place.ready × (k.recon.new ≡ k.recon.old)
    × k.input.Unchanged × k.output.Unchanged
