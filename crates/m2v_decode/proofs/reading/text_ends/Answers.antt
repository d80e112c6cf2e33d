use Rattle.std.proofs.lemmas.Result.{err_from_is_err_and}
use Rattle.m2v_decode.proofs.EndLaws.{end_broken, text_ok, text_err}
use Rattle.m2v_decode.proofs.reading.text_ends.Goals as goal

pub returns-in_err-read_end-clause-err : goal.returns-in_err-read_end-clause-err
returns-in_err-read_end-clause-err c =
    let p = err_from_is_err_and c.from_residual.result c.from_residual.ensures.1 in
    let e = c.in_err-read_end.field-0.0 in
    rw (p.1, p.2) (λ store end. end_broken c.args.st.now store end e.left e.kind c.in_err-read_end.ensures.exact c.in_err-read_end.ensures.left)

pub returns-clause-ok : goal.returns-clause-ok
returns-clause-ok c = text_ok c.read_text_end.result c.args.st.now c.requires.closed c.in_ok-read_end.ensures.exact c.read_text_end.ensures.ends

pub returns-clause-err : goal.returns-clause-err
returns-clause-err c = text_err c.read_text_end.result c.args.st.now c.requires.closed c.in_ok-read_end.ensures.exact c.read_text_end.ensures.ends c.read_text_end.ensures.left
