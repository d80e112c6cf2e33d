use Rattle.m2v_mend.proofs.CopyEdits.{front_large}
use Rattle.m2v_mend.proofs.opening.fronted.Goals as goal

pub returns-then-length-kept_length-gt-MOST : goal.returns-then-length-kept_length-gt-MOST
returns-then-length-kept_length-gt-MOST c =
    front_large c.args.head.now c.args.piece.now c.kept_length.result c.kept_length.ensures.value c.if-length-gt-MOST_HEAD.false c.if-length-kept_length-gt-MOST.true
