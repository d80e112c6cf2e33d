use Rattle.m2v_mend.proofs.CopyEdits.{own_edited}
use Rattle.m2v_mend.proofs.opening.own_first.Goals as goal

pub returns : goal.returns
returns c =
    own_edited c.args.low c.args.member.now.piece c.in_ok-copy.copy c.mark.new.piece c.lower.new.piece c.requires.sound c.in_ok-copy.ensures c.mark.ensures.edited c.lower.ensures.edited c.lower.ensures.sound
