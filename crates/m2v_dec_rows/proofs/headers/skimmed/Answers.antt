use Rattle.std.proofs.Common.{true, refl}
use Rattle.m2v_dec_rows.specs.Opened.{whole_of}
use Rattle.m2v_dec_rows.proofs.Standing.{ends_first}
use Rattle.m2v_dec_rows.proofs.TellLaws.{skimmed}
use Rattle.m2v_dec_rows.proofs.headers.skimmed.Goals as goal

pub units-requires-clause-ends : goal.units-requires-clause-ends
units-requires-clause-ends c = ends_first (whole_of c.args.piece.now) c.new-2.result (rw (c.deref.ensures.value, c.len.ensures) at c.new-2.ensures.value)

pub returns : goal.returns
returns c =
    let is = rw (c.deref.ensures.value, c.len.ensures) at c.new-2.ensures.value in
    skimmed c.args.st.now c.args.piece.now (record { state = record c.args.st.now { headers_only = true }; slices = c.new.result }) c.units.new.self c.new-2.result c.in_ok-stop.stop c.placed.result refl c.new.ensures.items is c.in_ok-stop.ensures c.placed.ensures
