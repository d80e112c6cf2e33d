use Rattle.std.proofs.Common.{w32}
use Rattle.std.proofs.lemmas.Int.{to_z-of_z}
use Rattle.std.proofs.lemmas.List.Elements.{All-replicate}
use mir.Val.{to_z, of_z}
use Rattle.m2v_idct.specs.Ranges.{Within}
use Rattle.m2v_idct.proofs.inverse_dct.fill.Goals as goal

pub returns-clause-within : goal.returns-clause-within
returns-clause-within c = All-replicate (Within 30000) 64 (to_z w32 (of_z w32 c.args.value)) (rw (to_z-of_z w32 c.args.value c.ranges.value) c.requires)
