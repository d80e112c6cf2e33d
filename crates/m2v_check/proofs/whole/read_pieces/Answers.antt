use Rattle.std.proofs.Common.{Err, refl, ap, sym, arith}
use Rattle.std.proofs.lemmas.Result.{err_from_is_err_and}
use Rattle.m2v_port.proofs.Runs.{rose_since}
use Rattle.m2v_decode.specs.Decoding.{at_start}
use Rattle.m2v_decode.proofs.EndLaws.{whole_length}
use Rattle.m2v_decode.proofs.Following.{follows_none, follows_drained}
use Rattle.m2v_decode.proofs.Going.{drained, has_put, progress_none, progress_more, cutter_stopped, piece_refused, pieces_done}
use Rattle.m2v_check.specs.declared.rules.Rules.{Rules}
use Rattle.m2v_check.specs.Progress.{none_held, none_failed}
use Rattle.m2v_check.proofs.AnswerLaws.{fails_here}
use Rattle.m2v_check.proofs.Ruling.{few_pictures}
use Rattle.m2v_check.proofs.Checking.{judging_none, judging_more, judging_all, note_placed, shut_behind, shut_put}
use Rattle.m2v_check.proofs.Summing.{all_judged}
use Rattle.m2v_check.proofs.whole.read_pieces.Goals as goal

pub loop-e-init : goal.loop-e-init
loop-e-init g c = rw (c.requires.cutter, c.requires.reader) (record {
  so_far = record {
    decoder = at_start;
    follows = follows_none;
    progress = progress_none g.S.Source.left g.S.Source.faults none_held none_failed _ tt;
    judging = judging_none g.S.Source.left g.S.Source.faults _ _ c.requires.rules c.requires.none c.requires.bytes;
    shut = refl;
  };
  cutting = refl;
  counted = omega arith;
  judged = let none = ap (λ (r : Rules). r.pictures) c.requires.rules in omega (arith, none);
  bytes = omega (arith, c.requires.bytes);
  most = omega arith;
  input = omega arith;
})

pub returns-in-Err-clause-err : goal.returns-in-Err-clause-err
returns-in-Err-clause-err g c =
    let inv = c.loop-e.invariant in
    let x = c.in-Err.ensures in
    fails_here _ c.in-Err.e (cutter_stopped g.S.Source.left g.S.Source.faults none_held none_failed _ _ _ tt tt _ _ c.in-Err.e (λ e. rose_since inv.input (x.failed (ap Err e))) x.kind inv.so_far.progress x.err)

pub returns-in-Ok-None-clause-ok : goal.returns-in-Ok-None-clause-ok
returns-in-Ok-None-clause-ok g c =
    let so = c.loop-e.invariant.so_far in
    let x = rw c.in-Ok-None.field-0-is at c.in-Ok-None.ensures.ok in
    let over = rw c.in-Ok-None.field-0-is at c.in-Ok-None.ensures.over in
    let onward = rw c.in-Ok-None.field-0-is at c.in-Ok-None.ensures.onward in
    record {
      decoder = so.decoder;
      follows = so.follows;
      done = pieces_done g.S.Source.left g.S.Source.faults none_held none_failed _ _ _ tt tt _ _ _ so.progress x over onward.1;
      judged = λ text rest old new. all_judged text _ _ (judging_all g.S.Source.left g.S.Source.faults _ _ _ _ _ _ _ so.judging x text rest old new);
    }

pub returns-in_err-notes-in-Ok-Some-clause-err : goal.returns-in_err-notes-in-Ok-Some-clause-err
returns-in_err-notes-in-Ok-Some-clause-err g c =
    let so = c.loop-e.invariant.so_far in
    let x = rw c.in-Ok-Some.field-0-is at c.in-Ok-Some.ensures.ok in
    let begun = rw c.in-Ok-Some.field-0-is at c.in-Ok-Some.ensures.begun in
    let p = err_from_is_err_and c.from_residual.result c.from_residual.ensures.1 in
    rw (p.1, p.2)
    (fails_here _ c.in_err-notes-in-Ok-Some.field-0.0 (piece_refused g.S.Source.left g.S.Source.faults none_held none_failed _ _ _ tt tt _ _ _ _ c.in_err-notes-in-Ok-Some.field-0.0
    so.progress x begun (rw c.in-Ok-Some.field-0-is at c.in-Ok-Some.ensures.sound) (c.in_err-notes-in-Ok-Some.ensures.err so.decoder so.follows)))

pub piece-requires-in-Ok-Some-clause-picture : goal.piece-requires-in-Ok-Some-clause-picture
piece-requires-in-Ok-Some-clause-picture g c =
    let sound = rw c.in-Ok-Some.field-0-is at c.in-Ok-Some.ensures.sound in
    let so = c.loop-e.invariant.so_far in
    let leads = c.in_ok-notes-in-Ok-Some.ensures.ok so.decoder so.follows in
    note_placed _ _ _ _ _ _ leads.advanced (sym (whole_length c.in-Ok-Some.piece sound)) so.shut

pub loop-e-preserved : goal.loop-e-preserved
loop-e-preserved g c =
    let inv = c.loop-e.invariant in
    let x = rw c.in-Ok-Some.field-0-is at c.in-Ok-Some.ensures.ok in
    let begun = rw c.in-Ok-Some.field-0-is at c.in-Ok-Some.ensures.begun in
    let sound = rw c.in-Ok-Some.field-0-is at c.in-Ok-Some.ensures.sound in
    let onward = rw c.in-Ok-Some.field-0-is at c.in-Ok-Some.ensures.onward in
    let so = inv.so_far in
    let leads = c.in_ok-notes-in-Ok-Some.ensures.ok so.decoder so.follows in
    let advanced = leads.advanced in
    let then = leads.follows in
    let put = has_put leads.behind advanced.going in
    let judged = c.piece-in-Ok-Some.ensures in
    let whole = whole_length c.in-Ok-Some.piece sound in
    let few = few_pictures c.loop-e.judge.rules c.in_ok-notes-in-Ok-Some.notes in
    let rules = ap (λ (r : Rules). r.pictures) judged.rules in
    record {
      so_far = record {
        decoder = drained leads.behind;
        follows = follows_drained _ leads.behind advanced.going then;
        progress = progress_more g.S.Source.left g.S.Source.faults none_held none_failed _ _ _ tt tt tt _ _ _ _ _ _ _ so.progress x begun c.in-Ok-Some.ensures.taken advanced put (record { is = refl });
        judging = judging_more g.S.Source.left g.S.Source.faults _ _ _ _ _ _ _ _ _ _ _ _ so.judging x begun advanced put (record {
          length_is = sym whole;
          notes_are = advanced.notes_are;
          rules = judged.rules;
          bytes = judged.bytes;
          account = c.in_ok-piece-in-Ok-Some.ensures.account;
        });
        shut = shut_put _ _ put (shut_behind _ _ _ _ _ advanced so.shut);
      };
      cutting = c.in-Ok-Some.ensures.going;
      counted = let before = so.follows.pictures in omega (arith, inv.counted, before, then.pictures, advanced.counted, advanced.few, whole, onward.0, onward.1);
      judged = omega (arith, inv.judged, few, rules, sound.some, onward.0, onward.1);
      bytes = omega (arith, inv.bytes, judged.bytes, onward.0, onward.1);
      most = omega (arith, onward.1, sound.end);
      input = omega (arith, inv.input, c.next_piece.ensures.faults);
    }
