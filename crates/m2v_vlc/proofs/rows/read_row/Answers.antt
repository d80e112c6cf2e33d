use Rattle.std.proofs.Common.{arith, ◌≡◌, ◌∙◌, length, sym, ap}
use Rattle.m2v_bits.specs.Bits.{Unread}
use Rattle.m2v_bits.proofs.SyntaxLaws.{good, bad}
use Rattle.m2v_vlc.specs.Codes.{row}
use Rattle.m2v_vlc.specs.Lookups.{rows_of}
use Rattle.m2v_vlc.specs.declared.values.CodeFault.{CodeFault}
use Rattle.m2v_vlc.specs.declared.values.CodeFault.TheVariants.{Truncated, NoCode}
use Rattle.m2v_vlc.proofs.LookupLaws.{reads_row, reads_none, rows_at, rows_past, row_fits}
use Rattle.m2v_vlc.proofs.CodeLaws.{some_is}
use Rattle.m2v_vlc.proofs.rows.read_row.Goals as goal
use Rattle.m2v_vlc.proofs.rows.read_row.Goals.{then-i-rows+else-row-left, else-i-rows}

pub overflow_cast-row-then-i-rows : goal.overflow_cast-row-then-i-rows
overflow_cast-row-then-i-rows g c = let h = row_fits c.args.rows.now c.args.i c.index-rows-i.result c.requires.table c.if-i-rows.true c.index-rows-i.is in omega (arith, h.0)

pub returns-then-row-left-clause-exact : goal.returns-then-row-left-clause-exact
returns-then-row-left-clause-exact g c =
    let e = c.index-rows-i.result in
    reads_row Truncated NoCode (rows_of c.args.rows.now) c.args.i (row e.0 e.1 e.2) c.args.input.now.rest c.requires.table c.requires.points (rows_at c.args.rows.now c.args.i e c.if-i-rows.true c.index-rows-i.is) (omega arith)
    ∙ ap (λ (u : Unread). good (e.0, u.rest)) (sym c.skip.ensures)

pub returns-clause-exact : goal.returns-clause-exact
returns-clause-exact g c =
    reads_none Truncated NoCode (rows_of c.args.rows.now) c.args.i c.args.input.now.rest c.requires.table c.requires.points (λ r at. elim c.if-i-rows.branch [
      | then-i-rows+else-row-left w ↦
          let e = w.index-rows-i.result in
          let same : row e.0 e.1 e.2 ≡ r = some_is (row e.0 e.1 e.2) r (sym (rows_at c.args.rows.now c.args.i e w.if-i-rows.true w.index-rows-i.is) ∙ at) in
          let len : e.2 ≡ r.len = ap (λ x. x.len) same in
          omega arith
      | else-i-rows w ↦ let none = rows_past c.args.rows.now c.args.i w.if-i-rows.false in absurd cc
    ])
    ∙ ap (λ (f : CodeFault). bad (f, length c.args.input.now.rest)) (sym c.fault.ensures)
