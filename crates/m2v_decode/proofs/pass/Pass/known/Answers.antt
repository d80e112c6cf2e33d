use Rattle.std.proofs.Common.{◌≡◌, true, rules}
use Rattle.std.proofs.lemmas.Result.{err_from_is_err_and}
use Rattle.m2v_model.specs.Streams.{value_of}
use Rattle.m2v_dec_rows.specs.m2v_dec_unit.Among.{is_slice}
use Rattle.m2v_dec_rows.proofs.UnitSteps.{slice_ok, slice_err}
use Rattle.m2v_decode.proofs.pass.Pass.known.Goals as goal

pub returns-in_err-slice : goal.returns-in_err-slice
returns-in_err-slice c =
    let p = err_from_is_err_and c.from_residual.result c.from_residual.ensures.1 in
    let on : is_slice c.args.self.now.state (value_of c.args.u.now) ≡ true = search rules in
    rw (p.1, p.2) (slice_err c.args.self.now.state c.args.start (value_of c.args.u.now) c.args.u.now c.args.units.now _ on c.in_err-slice.ensures.err)

pub returns : goal.returns
returns c =
    let read = c.in_ok-slice.ensures.ok in
    let on : is_slice c.args.self.now.state (value_of c.args.u.now) ≡ true = search rules in
    (read.0, slice_ok c.args.self.now.state c.args.start (value_of c.args.u.now) c.args.u.now c.args.units.now _ on read.1, read.2, λ e. absurd cc)
