use Rattle.std.proofs.Common.{◌≡◌, ◌++◌, map, drop}
use Rattle.std.specs.List.{flat_map}
use Rattle.m2v_audit.specs.Lines.{told}
use Rattle.m2v_audit.proofs.LineLaws.{part_of}
use Rattle.m2v_audit.proofs.line.print.Given as goal

abbrev pub invariant-loop-column : goal.invariant-loop-column
invariant-loop-column l =
    l.text.items ++ flat_map part_of (drop l.column-index (map told l.columns))
    ≡ (l.fn.text.items ++ l.kind) ++ flat_map part_of (map told l.columns)
