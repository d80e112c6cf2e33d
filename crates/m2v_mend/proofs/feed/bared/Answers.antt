use Rattle.std.proofs.Common.{refl, arith}
use Rattle.m2v_mend.proofs.BareLaws.{units_within, own_within, all_bare, none_bare, ok_bare, first_kept}
use Rattle.m2v_mend.proofs.feed.bared.Goals as goal

pub returns-then-extent-piece-clause-bare : goal.returns-then-extent-piece-clause-bare
returns-then-extent-piece-clause-bare c = all_bare c.args.piece c.requires.sound c.args.extent.now c.requires.extent c.if-extent-piece.true

pub returns-then-extent-piece-clause-zeros : goal.returns-then-extent-piece-clause-zeros
returns-then-extent-piece-clause-zeros c room = room

pub returns-then-extent-eq0-clause-bare : goal.returns-then-extent-eq0-clause-bare
returns-then-extent-eq0-clause-bare c = none_bare c.args.piece c.requires.sound c.args.extent.now c.requires.extent _ c.if-extent-eq0.true c.new.ensures.items refl refl

pub returns-then-extent-eq0-clause-zeros : goal.returns-then-extent-eq0-clause-zeros
returns-then-extent-eq0-clause-zeros c room some = absurd (omega (arith, some))

pub overflow_sub-piece : goal.overflow_sub-piece
overflow_sub-piece c = units_within c.args.piece c.requires.sound c.args.extent.now c.requires.extent

pub part-requires-clause-within : goal.part-requires-clause-within
part-requires-clause-within c = own_within c.args.piece c.requires.sound c.args.extent.now c.requires.extent

pub part-requires-clause-some : goal.part-requires-clause-some
part-requires-clause-some c = first_kept c.args.piece c.requires.sound c.args.extent.now c.requires.extent c.if-extent-eq0.false

pub returns-clause-bare : goal.returns-clause-bare
returns-clause-bare c = ok_bare c.args.piece c.requires.sound c.args.extent.now c.requires.extent _ c.part.result c.part.ensures.whole

pub returns-clause-zeros : goal.returns-clause-zeros
returns-clause-zeros c = c.part.ensures.zeros
