use Rattle.std.proofs.Common.{sym, subst, ◌∙◌, false, length, arith}
use Rattle.std.proofs.lemmas.Result.{err_from_is_err_and}
use Rattle.m2v_block.specs.Blocks.{Scan, GivesEnd}
use Rattle.m2v_block.proofs.BlockLaws.{pairs_err, pairs_more, pairs_last}
use Rattle.m2v_block.proofs.read.first_and_pairs.Goals as goal

pub returns-in_err-more : goal.returns-in_err-more
returns-in_err-more c =
    let s : Scan = record { filled = 0; levels = c.args.out.now.at } in
    let p = err_from_is_err_and c.from_residual.result c.from_residual.ensures.1 in
    record {
      exact = rw (p.1, p.2) (pairs_err false s c.args.input.now.rest (c.in_err-more.field-0.0, length c.first_pair.new.input.rest) c.in_err-more.ensures.exact);
      text = c.in_err-more.ensures.text;
      levels = c.in_err-more.ensures.left.levels;
      dc = λ some. absurd (omega (arith, some));
    }

pub returns-then-not-more : goal.returns-then-not-more
returns-then-not-more c =
    let s : Scan = record { filled = 0; levels = c.args.out.now.at } in
    let m : Scan = record { filled = c.in_ok-more.next; levels = c.first_pair.new.out.at } in
    record {
      exact = (c.in_ok-more.next, pairs_last false s m c.args.input.now.rest c.first_pair.new.input.rest c.in_ok-more.more c.in_ok-more.ensures.exact c.if-not-more.true);
      text = c.in_ok-more.ensures.text;
      levels = c.in_ok-more.ensures.left.levels;
      dc = λ some. absurd (omega (arith, some));
    }

pub returns : goal.returns
returns c =
    let s : Scan = record { filled = 0; levels = c.args.out.now.at } in
    let m : Scan = record { filled = c.in_ok-more.next; levels = c.first_pair.new.out.at } in
    let more = pairs_more false s m c.args.input.now.rest c.first_pair.new.input.rest c.in_ok-more.more c.in_ok-more.ensures.exact c.if-not-more.false in
    record {
      exact = subst (GivesEnd c.pairs.result c.pairs.new.out.at c.pairs.new.input.rest) (sym more) c.pairs.ensures.exact;
      text = c.pairs.ensures.text ∙ c.in_ok-more.ensures.text;
      levels = c.pairs.ensures.levels;
      dc = λ some. absurd (omega (arith, some));
    }
