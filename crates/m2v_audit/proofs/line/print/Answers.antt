use Rattle.std.proofs.Common.{◌++◌, ◌+◌, map, drop, ℕ, List, sym, ap, ◌∙◌}
use Rattle.std.specs.List.{flat_map}
use Rattle.m2v_audit.specs.Lines.{told}
use Rattle.m2v_audit.specs.declared.line.Column.TheVariants as printed
use Rattle.m2v_audit.proofs.LineLaws.{columns_more, part_of}
use Rattle.m2v_audit.proofs.line.print.Goals as goal

pub loop-column-preserved : goal.loop-column-preserved
loop-column-preserved c =
    let i = c.loop-column.column-index in
    let columns = c.args.columns.now in
    let rest = flat_map part_of (drop (i + 1) (map told columns)) in
    ap (λ (b : List ℕ). b ++ rest) (rw (c.in_ok-extend_from_slice-2.ensures.items) at c.in_ok-print_column.ensures)
    ∙ sym (columns_more c.loop-column.text.items columns i (printed.Number 0) c.loop-column-test.true)
    ∙ c.loop-column.invariant
