use Rattle.std.proofs.Common.{arith, sym}
use Rattle.m2v_bits.specs.Bits.{bits_of}
use Rattle.m2v_vlc.specs.Lookups.{rows_of}
use Rattle.m2v_vlc.proofs.LookupLaws.{code_in_at, code_in_past, rows_past, row_fits}
use Rattle.m2v_vlc.proofs.rows.row_code.Goals as goal

pub overflow_cast-result : goal.overflow_cast-result
overflow_cast-result g c = let h = row_fits c.args.rows.now c.args.i c.index-rows-i.result c.requires c.if-i-rows.true c.index-rows-i.is in omega (arith, h.2)

pub returns-then-i-rows-clause-spelled : goal.returns-then-i-rows-clause-spelled
returns-then-i-rows-clause-spelled g c = sym (code_in_at c.args.rows.now c.args.i c.index-rows-i.result c.if-i-rows.true c.index-rows-i.is)

pub returns-then-i-rows-clause-width : goal.returns-then-i-rows-clause-width
returns-then-i-rows-clause-width g c = (row_fits c.args.rows.now c.args.i c.index-rows-i.result c.requires c.if-i-rows.true c.index-rows-i.is).0

pub returns-then-i-rows-clause-fits : goal.returns-then-i-rows-clause-fits
returns-then-i-rows-clause-fits g c = (row_fits c.args.rows.now c.args.i c.index-rows-i.result c.requires c.if-i-rows.true c.index-rows-i.is).1

pub returns-else-i-rows-clause-spelled : goal.returns-else-i-rows-clause-spelled
unfolding bits_of
returns-else-i-rows-clause-spelled g c = sym (code_in_past (rows_of c.args.rows.now) c.args.i (rows_past c.args.rows.now c.args.i c.if-i-rows.false))
