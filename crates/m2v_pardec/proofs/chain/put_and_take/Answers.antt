use Rattle.std.proofs.Common.{◌++◌, arith}
use Rattle.std.specs.Prelude.{option_to_list}
use Rattle.std.proofs.lemmas.Result.{err_from_is_err_and}
use Rattle.m2v_port.specs.Port.{Rose}
use Rattle.m2v_dec_piece.specs.declared.answer.DecodeError.TheVariants as errors
use Rattle.m2v_pardec.specs.Ahead.{later_of}
use Rattle.m2v_pardec.proofs.AheadLaws.{fails_weaker}
use Rattle.m2v_pardec.proofs.chain.put_and_take.Goals as goal

pub returns-in_err-put_rows-clause-puts : goal.returns-in_err-put_rows-clause-puts
returns-in_err-put_rows-clause-puts g c =
    let p = err_from_is_err_and c.from_residual.result c.from_residual.ensures.1 in
    let left = g.S.Source.left c.args.input.now in
    record {
      ok = rw p.1 tt;
      err = rw (p.1, p.2) (λ bl b others so. c.in_err-put_rows.ensures.err (later_of c.args.rest.now.stop c.args.stream.now.cutter) bl left b (others ++ option_to_list c.args.rest.now.other) so);
      read = rw p.1 tt;
      rises = omega arith;
    }

pub returns-in_err-taken-clause-puts : goal.returns-in_err-taken-clause-puts
returns-in_err-taken-clause-puts g c =
    let p = err_from_is_err_and c.from_residual-in_err-taken.result c.from_residual-in_err-taken.ensures.1 in
    let left = g.S.Source.left c.args.input.now in
    let held = g.K.Sink.held c.put_rows.new.output in
    record {
      ok = rw p.1 tt;
      err = rw (p.1, p.2)
          (λ bl b others so. fails_weaker ⊥ (Rose (g.K.Sink.faults c.args.output.now) (g.K.Sink.faults c.put_rows.new.output)) bl (g.S.Source.left c.take_more.new.input) b held errors.Memory (λ f. absurd f)
          ((c.in_err-taken.ensures.err).fails bl b held others c.put_rows.new.decoder
          ((c.in_ok-put_rows.ensures.ok).puts (later_of c.args.rest.now.stop c.args.stream.now.cutter) bl left b (others ++ option_to_list c.args.rest.now.other) so)));
      read = rw p.1 tt;
      rises = c.take_more.ensures.rises;
    }

pub returns-clause-puts : goal.returns-clause-puts
returns-clause-puts g c =
    let put = c.in_ok-put_rows.ensures in
    let takes = c.in_ok-taken.ensures in
    record {
      ok = record {
        put = put.ok;
        told = rw c.as_slice.ensures.value at put.told;
        tracks = put.tracks;
        taken = takes.ok;
        behind = takes.told;
      };
      err = tt;
      read = takes.read;
      rises = takes.rises;
    }
